-- when two edges are the same: `following::is_same`
pub mod OneEdge
-- each driver's number of edges at its desk: `opening::counts_of`, `laws::step_in`
pub mod DeskCounts
-- a seat for each driver, and that all edges are theirs: `opening::seat_all`, `Shared::new`
pub mod AllSeats
-- the answers of a hold: `laws`, and what `Shared::look` and `turn` say about them
pub mod HoldAnswers
-- what an edge changes in the locked value: `laws::step_in`
pub mod OneHold
-- what a hold shows a worker that waits or ends: `workers`
pub mod Waiting
-- the pages of a worker: `logs::Pages`
pub mod LogPages
-- one more seat and log: `threads::run_all`; as many seats as drivers: `Shared::close`
pub mod SeatsAndLogs
-- one driver's edges compared with its log: `closing::difference`
pub mod LogDifference
-- all drivers' edges compared with their logs: `following::are_logs`
pub mod OnePass
