-- lines that are written one after another: src/lines.rt, `drives::write_history`
pub mod WrittenLines
-- what is kept of a list of edges: `SoughtEdges`, and the engines
pub mod KeptEdges
-- the text of a trace of edges that were kept: src/writing.rt
pub mod WrittenTraces
-- the edges and the version of a trace, as more of it is read: `TraceReads`
pub mod TraceSoFar
-- what a reader has read can go on, as X5 has it: `TraceReads`, `ReadOn`
pub mod CanGoOn
-- a trace, read by read: `traces::open`, `readings::read_on`
pub mod TraceReads
-- every edge of a trace is well formed: `readings::read_on` and its callers
pub mod FormedEdges
-- what is known of a trace at a read: `readings::read_on`
pub mod ReadOn
-- the one reading of a trace: src/readings.rt
pub mod ReadTraces
-- where there is no plan, or no header line: `Input::begin`, `readings::read`
pub mod FirstReads
-- a fault of a trace before what an engine waits for
pub mod Waits
-- two traces that are read side by side: `Input::read_piece` and `read_out`, src/pairs.rt
pub mod PairReads
-- the first refusal among edges: `LegalTrace`, and the engines that wait for it
pub mod FirstRefusals
-- the trace of a legal list is what a check calls legal: src/laws.rt, `drives::drive`
pub mod LegalTrace
-- a trace that is read up to the edge that is asked for: src/seeking.rt
pub mod SoughtEdges
-- lines at each edge of a trace, and last lines at its end: src/reporting.rt
pub mod ReportedEdges
