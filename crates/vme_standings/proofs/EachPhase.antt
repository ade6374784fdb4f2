-- A fact of each phase, by its kind.
use Rattle.std.proofs.Common.{◌≡◌, ℕ, Bool, true, false}
use Rattle.std.specs.Prelude.{◌&&◌}
use Rattle.vme_standings.specs.declared.phases.GrantPhase.{GrantPhase}
use Rattle.vme_standings.specs.declared.phases.GrantPhase.TheVariants.{Idle, Granting, Held, Expired}

pub by_kind : (P : GrantPhase → Type 0) → ((c : ℕ) → P (Idle c)) → ((c t : ℕ) → P (Granting c t)) → ((b t : ℕ) → P (Held b t)) → ((c t : ℕ) → P (Expired c t)) → (q : GrantPhase) → P q
by_kind P idle granting held expired (Idle c) = idle c
by_kind P idle granting held expired (Granting c t) = granting c t
by_kind P idle granting held expired (Held b t) = held b t
by_kind P idle granting held expired (Expired c t) = expired c t
