-- The answer by the fields is the answer over the edges that were noted.
use Rattle.std.proofs.Common.{◌≡◌, ◌∙◌, refl, sym, ap, subst, Bool, true, false, List, ℕ}
use Rattle.std.specs.Prelude.{Option}
use Rattle.vme_model.specs.declared.boards.RequesterRow.{RequesterRow}
use Rattle.vme_model.specs.declared.pins.Pins.{Pins}
use Rattle.vme_model.specs.declared.signals.Version.{Version}
use Rattle.vme_model.specs.declared.signals.Driver.TheVariants.{Slot}
use Rattle.vme_model.specs.declared.signals.Wire.{Wire}
use Rattle.vme_model.specs.declared.signals.Wire.TheVariants.{Br, BgOut, Bbsy}
use Rattle.vme_model.specs.declared.signals.Cycle.{Cycle}
use Rattle.vme_model.specs.declared.signals.Edge.{Edge}
use Rattle.vme_model.specs.History.{drive}
use Rattle.vme_model.specs.Verdict.{ruling_on}
use Rattle.vme_model.specs.declared.signals.Part.TheVariants as parts
use Rattle.vme_model.specs.Signals.{is_of}
use Rattle.vme_requester.specs.Local.{RequesterState, requester_of, low, requester_readings}

by_parts : (s : ℕ) (row : RequesterRow) (version : Version) (noted : List Edge) (pins : Pins) (free : Bool) (w : Wire) (f : Bool) (v : Option Cycle) → is_of parts.Requester w ≡ true →
    ruling_on version (requester_readings s row (low (requester_of s row version noted)) pins free) w f v ≡ ruling_on version (requester_readings s row (drive noted (Slot s)) pins free) w f v
by_parts s row version noted pins free Br true v own = refl
by_parts s row version noted pins free Br false v own = refl
by_parts s row version noted pins free BgOut true v own = refl
by_parts s row version noted pins free BgOut false v own = refl
by_parts s row version noted pins free Bbsy true v own = refl
by_parts s row version noted pins free Bbsy false v own = refl
by_parts s row version noted pins free w f v own = absurd (cc)

-- a state that comes from a list answers as the list says, for an edge of the wire x, which is w
pub answers_over : (state : RequesterState) (noted : List Edge) (pins : Pins) (free : Bool) (w x : Wire) (f : Bool) (v : Option Cycle) → state ≡ requester_of state.slot state.row state.version noted
    → w ≡ x → is_of parts.Requester x ≡ true →
    ruling_on state.version (requester_readings state.slot state.row (low state) pins free) x f v ≡ ruling_on state.version
    (requester_readings state.slot state.row (drive noted (Slot state.slot)) pins free) w f v
answers_over state noted pins free w x f v same is own =
    let P : RequesterState → Type 0 = λ q. ruling_on state.version (requester_readings state.slot state.row (low q) pins free) x f v ≡ ruling_on state.version
    (requester_readings state.slot state.row (drive noted (Slot state.slot)) pins free) x f v in
    subst P (sym same) (by_parts state.slot state.row state.version noted pins free x f v own)
    ∙ ap (λ y. ruling_on state.version (requester_readings state.slot state.row (drive noted (Slot state.slot)) pins free) y f v) (sym is)
