-- what an edge of another driver leaves as it is
pub mod Others
-- who drives a wire, and to whom an allowed edge belongs
pub mod Drivers
-- a board of an accepted plan, and an edge that the rules allow it
pub mod AllowedBoards
-- whose address group is on, and what is shown, after an edge and before any
pub mod Addressing
-- the verdict, from E1, what a part answers, and the settling rules
pub mod JudgedParts
-- the verdict with the end of the trace, from that without
pub mod Judged
-- the offers and the open edges, from those without the end of the trace
pub mod OfferChoice
-- an offer is an edge that would be accepted
pub mod AcceptedOffers
-- what is considered after a history: `offer_address`
pub mod Considered
-- edges that the rules do not allow: `offer_grant`
pub mod NoOffers
-- lists that grow by what passes a test: `offer_requester` and similar functions
pub mod More
-- a list that grows by each number's edge: `open_acknowledges`, `open_accesses`
pub mod EachNumber
