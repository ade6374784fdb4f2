-- The definitions, in the order in which they are read. `believe` marks what a theorem rests on:
-- whoever trusts the theorem has to agree with it. `words` marks what only says how one function
-- serves another.

-- believe: which drivers, wires and edges there are
pub mod Signals
-- believe: sets of levels and of chains
pub mod Sets
-- believe: boards, and which slots work a daisy chain
pub mod Plan
-- believe: which plans are accepted, P1 to P8
pub mod Accepted
-- believe: what a list of edges says of the wires
pub mod History
-- believe: what a rule may read
pub mod Readings
-- believe: a guard as conditions, and their texts
pub mod Guards
-- believe: the rules G1 to G26
pub mod Rules
-- believe: the settling rules S1 to S4
pub mod Settling
-- believe, for `rule`: the rules in words
pub mod Sentences
-- believe, for `explain` and `rule`: where each condition comes from
pub mod Sources
-- believe: the refusals E1 to E5 in their order, and which lists are legal
pub mod Verdict
-- believe, for what is reported of a refusal: the conditions that an edge fails
pub mod Failing
-- words: what a driver reads on its pins; to be believed for `verdict_is_local` alone
pub mod Views
-- believe: which status byte is delivered
pub mod Deliveries
-- believe, for `run`: how many edges are a driver's own
pub mod Counts
-- believe, for safety: what is claimed of the grants and the bus
pub mod GrantSafety
-- believe, for safety: what is claimed of the address lines and the answers
pub mod CycleSafety
-- believe, for safety: the claims together
pub mod Safe
-- words: what a verdict depends on; to be believed for `verdict_is_local` alone
pub mod Locality
-- believe, for `drive`: what a driver is offered, and the rounds
pub mod Offers
-- believe, for the open edges: every edge that a driver can make
pub mod Open
-- believe, for whole traces: what the bytes of a trace say
pub mod Text
-- believe, for whole traces: the verdicts as text
pub mod Report
-- believe, for `explain`: accepted edges by their numbers, and the edge since which a wire is as it
-- is
pub mod Numbered
-- believe, for `explain`: how a condition is spelled
pub mod Spoken
-- believe, for `explain`: the readings of a condition
pub mod Witnesses
-- believe, for `explain`: what is reported of an edge
pub mod Why
-- believe, for `state`: where the bus stands
pub mod Stands
