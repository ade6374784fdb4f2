-- tests that hold and fail
pub mod Bools
-- `guard_fails_by_its_conditions` and `rule_fails_by_its_conditions`
pub mod Guards
-- `edge_fails_where_it_is_refused`
pub mod Failing
-- the slots of a chain below a bound
pub mod Below
-- what an accepted plan says about its rows
pub mod Ranges
-- the four phases of the grant chains, and which edge leads to which
pub mod GrantPhases
-- `wires_are_of_one_part` and `wires_stand_at_their_numbers`
pub mod Wires
-- what a plan in range says about its slots
pub mod Members
-- what an edge that is allowed has passed
pub mod AllowedEdges
-- each legal list is in a phase of the grants
pub mod Grants
-- the claims of `GrantSafety`, by the phase
pub mod GrantClaims
-- `first_version_is_within_second`
pub mod Versions
-- the four phases of the address lines, the strobes and the answers
pub mod CyclePhases
-- each legal list is in a phase of the cycles
pub mod Cycles
-- the claims of `CycleSafety`, by the phase
pub mod CycleClaims
-- `legal_list_is_safe` and `legal_list_is_orderly`
pub mod Safety
-- a sum of bits determines each bit: sets of levels are equal by their bits
pub mod Bits
-- `verdict_is_local`
pub mod Local
-- histories that a rule keeps from being unsafe: why it is needed
pub mod Examples
-- `open_edges_are_all_that_is_allowed`
pub mod OpenEdges
-- the laws of the arbiter's policies
pub mod Picks
-- the sets on a board's pins hold the levels whose lines are low
pub mod PinSets
-- `numbered_edges_are_kept` and `what_is_so_has_its_edge`
pub mod Numbers
-- `why_states_the_verdict`
pub mod Reasons
-- `bus_stands_where_the_block_says` and `accesses_are_open_alike`
pub mod Standing
-- what is reported of edges and of a bus, to the byte: examples, computed
pub mod TextExamples
-- `sources_have_the_rules_of_the_guards`
pub mod NamedRules
-- `every_condition_has_a_source`
pub mod SourcedGuards
