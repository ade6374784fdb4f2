-- what the rules read after two histories after which the bus stands alike, and after one more edge
pub mod Alike
-- what two edges that are allowed in both orders have to do with each other
pub mod Apart
-- such edges are free, but for an answer that serves a request: `step_back` and
-- `legal_orders_differ_by_a_served_request`
pub mod Free
-- what comes behind free swaps: `free_swaps_change_nothing` and `free_swaps_go_back`
pub mod Behind
-- the answers to all later edges: `a_free_swap_changes_no_later_answer`
pub mod Answered
