-- Traces that are added up, file by file, and the answer that is handed on.
use Rattle.std.proofs.Common.{◌≡◌, ◌∙◌, inl, inr, ℕ, ◌+◌, ◌<◌, List, [], ◌∷◌, length, map, Option, Some, None, Result, Ok, Err, refl, sym, ap, subst}
use Rattle.std.specs.Io.KnownBytes.{Keeps}
use Rattle.std.specs.Borrow.{Bor}
use Rattle.std.specs.List.{Contains}
use Rattle.std.specs.Prelude.{slice_get}
use Rattle.std.proofs.KnownBytes.{Keeps-refl}
use Rattle.vme_model.specs.Plan.{Plan}
use Rattle.vme_model.specs.Text.{read_of}
use Rattle.vme_scenario.specs.Format.{scenario as read}
use Rattle.vme_trace.specs.declared.Fault.{Fault}
use Rattle.vme_tallies.specs.declared.sums.Sums.{Sums as Added}
use Rattle.vme_tallies.specs.Tally.{Answers}
use Rattle.vme_tallies.specs.Sums.{Traces}
use Rattle.vme_tallies.specs.Summed.{AreSumsOf, OfSums}
use Rattle.vme_engines.specs.declared.Status.{Status}
use Rattle.vme_engines.specs.declared.EngineFault.TheVariants as fault
use Rattle.vme_engines.specs.Streams.{ReadNothing, streams}
use Rattle.vme_engines.specs.Outcomes.{Answer, Lent}
use Rattle.vme_engines.specs.Totals.{AddsInput, IsWhole, Tells}
use Rattle.vme_run.specs.declared.RunFault.TheVariants as run
use Rattle.vme_words.specs.declared.Job.{Job}
use Rattle.vme_words.specs.declared.Job.TheVariants.{Sums}
use Rattle.vme_words.specs.Asked.{texts_of}
use Rattle.vme_jobs.specs.declared.faults.ProgramFault.{ProgramFault}
use Rattle.vme_jobs.specs.declared.faults.ProgramFault.TheVariants.{CannotRead, TooLong, Engine, InTrace, Boards}
use Rattle.vme_jobs.specs.Adding.{AddsFile, AddsFiles, Blames}
use Rattle.vme_jobs.specs.Done.{IsDone, Known}
use Rattle.vme_jobs.specs.Names.{IsFaultOf, told_answer}
use Rattle.vme_jobs.specs.Together.{StopsAt, SumsUp, WereRead}
use Rattle.vme_jobs.proofs.Handing.{handed}

-- the plan of a text is one
plan_is : (r : Result Plan Unit) (p q : Plan) → r ≡ Ok p → r ≡ Ok q → p ≡ q
plan_is r p q one two = cc

-- ---- one more file

pub file_added : (p q : Plan) (before : ℕ) (ts : Traces) (t : Answers) (bytes : List ℕ) → p ≡ q → WereRead q before ts → IsWhole p (read_of bytes) t → WereRead q (before + 1) (t ∷ ts)
file_added p q before ts t bytes same read_ whole =
    (bytes ∷ read_.0, ap (λ n. n + 1) read_.1, subst (λ (x : Plan). IsWhole x (read_of bytes) t) same whole, read_.2)
