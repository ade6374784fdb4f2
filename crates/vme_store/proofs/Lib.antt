-- `codes_are_one_to_one`: the edge that an edge's code stands for is that edge
mod RoundTrip
-- `Store::push`, `edge_at` and `len`: how the pages of a store fill
mod FilledPages
