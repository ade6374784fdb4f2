-- the stored edges, made once more from the first: `deliveries`
pub mod Replayed
-- an edge that is allowed is well formed: `Backplane::accepted`
pub mod WellFormed
-- `backplanes_answer_alike`
pub mod Alike
