-- What is unfit, and not missing, is no job.
use Rattle.std.proofs.Common.{◌≡◌, ◌≢◌, Bool, true, false, Result, Ok, Err, IfErr, IfOk, List, Option, Some, None, IsSomeAnd, codes, inl, inr, refl}
use Rattle.clap.specs.Words.{Row, Text}
use Rattle.vme_command_line.specs.Asked.{IsIdle, IsNoJob}
use Rattle.vme_command_line.specs.Unfits.{IsUnfit}
use Rattle.vme_command_line.specs.declared.Choice.{Choice}
use Rattle.vme_command_line.specs.declared.Unfit.{Unfit}
use Rattle.vme_command_line.specs.declared.Unfit.TheVariants.{Missing, NoMemory, Window, Beside, Event, Seedless, Aimless, Driver, Seeded, Seeds, Idle, TwoEdges, Rule, Slack}

one : (name : Text) (rows : List Row) (unfit : Unfit) → unfit ≢ Missing → unfit ≢ NoMemory → IsUnfit name rows unfit → IsNoJob name rows
one name rows Missing other room is = absurd (other refl)
one name rows NoMemory other room is = absurd (room refl)
one name rows (Window from to) other room is = is
one name rows (Beside named) other room is = is
one name rows (Event named version) other room is = is
one name rows Seedless other room is = is
one name rows (Aimless option) other room is = is
one name rows (Driver named) other room is = is
one name rows Seeded other room is = is
one name rows (Seeds named) other room is = is
one name rows Idle other room is = is
one name rows TwoEdges other room is = is
one name rows (Rule named) other room is = is
one name rows (Slack named) other room is = is

pub no_job : (met : Option (Text × List Row)) (unfit : Unfit) → unfit ≢ Missing → unfit ≢ NoMemory → (unfit ≢ Missing → IsSomeAnd met (λ m. IsUnfit m.0 m.1 unfit))
    → IsSomeAnd met (λ m. IsNoJob m.0 m.1)
no_job None unfit other room is = is other
no_job (Some m) unfit other room is = one m.0 m.1 unfit other room (is other)

-- a choice of which no progress is to be reported
pub if_silent : (progress : Bool) (r : Result Choice Unfit) (choice : Choice) (Is : Choice → Type 0)
    → (progress ≡ false → r ≡ Ok choice) → (progress ≡ true → r ≡ Err Idle)
    → (progress ≡ false → Is choice) → IfOk r Is
if_silent true r choice Is silent idle is = rw (idle refl) tt
if_silent false r choice Is silent idle is = rw (silent refl) (is refl)

-- a drive whose progress is to be reported, though one trace alone is made
pub if_idle : (progress : Bool) (r : Result Choice Unfit) (choice : Choice) (rows : List Row)
    → (progress ≡ false → r ≡ Ok choice) → (progress ≡ true → r ≡ Err Idle)
    → (progress ≡ true → IsIdle rows) → IfErr r (IsUnfit (codes "drive") rows)
if_idle true r choice rows silent idle is =
    rw (idle refl) (inr (inl (refl, inl (inr (is refl)))))
if_idle false r choice rows silent idle is = rw (silent refl) tt
