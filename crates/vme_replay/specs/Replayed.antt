-- A replay, behind some edges of a trace.
use Rattle.std.specs.Prelude.{◌≡◌, ◌++◌, ℕ, List, None, length}
use Rattle.vme_model.specs.declared.signals.Version.{Version}
use Rattle.vme_model.specs.declared.signals.Edge.{Edge}
use Rattle.vme_model.specs.Plan.{Plan}
use Rattle.vme_model.specs.Report.{closing}
use Rattle.vme_model.specs.Verdict.{kept}
use Rattle.vme_reading.specs.declared.LineForm.{LineForm}
use Rattle.vme_reading.specs.Outcomes.{bench, form_lines}
use Rattle.vme_reading.specs.Reporting.{Writes}
use Rattle.vme_replay.specs.declared.replays.Replaying.{Replaying}

-- the lines at these edges in one of the forms, and all that is written of them as a whole trace
abbrev pub AreLines : LineForm → Writes
AreLines form p v es bytes = bytes ≡ form_lines form (bench p v) 1 es

abbrev pub IsText : LineForm → Writes
IsText form p v es bytes =
    bytes ≡ form_lines form (bench p v) 1 es ++ closing None (bench p v) es

-- the edges were judged, and these are their lines
pub record IsKnown
    (form : LineForm) (p : Plan) (v : Version) (es : List Edge) (bytes : List ℕ) (now : Replaying)
    : Type 0 where
  pub form_is : now.form ≡ form
  pub bus : now.bus ≡ kept (bench p v) es
  pub judged : now.judged ≡ length es
  pub lines : AreLines form p v es bytes
