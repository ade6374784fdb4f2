-- The answer by the fields is the answer over the edges that were noted.
use Rattle.std.proofs.Common.{◌≡◌, ◌∙◌, refl, sym, subst, ap, Bool, true, false, List, ℕ}
use Rattle.std.specs.Prelude.{◌&&◌, not, Option, Some, None, Ok}
use Rattle.vme_model.specs.declared.boards.InterrupterRow.{InterrupterRow}
use Rattle.vme_model.specs.declared.pins.Pins.{Pins}
use Rattle.vme_model.specs.declared.signals.Version.{Version}
use Rattle.vme_model.specs.declared.signals.Version.TheVariants.{One}
use Rattle.vme_model.specs.declared.signals.Driver.{Driver}
use Rattle.vme_model.specs.declared.signals.Driver.TheVariants.{Slot}
use Rattle.vme_model.specs.declared.signals.Wire.{Wire}
use Rattle.vme_model.specs.declared.signals.Wire.TheVariants.{Irq, IackOut, Dtack}
use Rattle.vme_model.specs.declared.signals.Cycle.{Cycle}
use Rattle.vme_model.specs.declared.signals.Cycle.TheVariants.{Acknowledge, Access}
use Rattle.vme_model.specs.declared.refusals.Refused.TheVariants.{AlreadyThere, Rule}
use Rattle.vme_model.specs.declared.signals.Edge.{Edge}
use Rattle.vme_model.specs.History.{drive}
use Rattle.vme_model.specs.Rules.{is_passed_by, may_answer}
use Rattle.vme_model.specs.Verdict.{Judgement, check, is_other_state, ruling, ruling_on}
use Rattle.vme_model.specs.declared.signals.Part.TheVariants as parts
use Rattle.vme_model.specs.Signals.{is_of}
use Rattle.vme_interrupter.specs.Local.{Noted, InterrupterState, edges, interrupter_of, local, over}

abbrev edge : Driver → Wire → Bool → Option Cycle → Edge
edge d w f v = record { driver = d; wire = w; fall = f; value = v }

-- whatever is shown, it is passed on by the state as over the list
passed_alike : (s : ℕ) (row : Option InterrupterRow) (noted : List Noted) (pins : Pins) (shown : Option Cycle) →
    is_passed_by (local (interrupter_of s row noted) pins) shown ≡ is_passed_by (over s row noted pins) shown
passed_alike s row noted pins None = refl
passed_alike s row noted pins (Some (Acknowledge level)) = refl
passed_alike s row noted pins (Some (Access t)) = refl

-- whatever is shown, it is answered by the state as over the list
answered_alike : (s : ℕ) (row : Option InterrupterRow) (noted : List Noted) (pins : Pins) (shown : Option Cycle) →
    may_answer (local (interrupter_of s row noted) pins) shown ≡ may_answer (over s row noted pins) shown
answered_alike s row noted pins None = refl
answered_alike s row noted pins (Some (Acknowledge level)) = refl
answered_alike s row noted pins (Some (Access t)) = refl

abbrev after : ℕ → List Noted → Wire → Judgement → Judgement
after s noted w rest = check (is_other_state (drive (edges noted) (Slot s) w) true) AlreadyThere rest

-- one rule names a wire and a direction, in both versions
by_parts : (version : Version) (s : ℕ) (row : Option InterrupterRow) (noted : List Noted) (pins : Pins) (d : Driver) (w : Wire) (f : Bool) (v : Option Cycle) → is_of parts.Interrupter w ≡ true →
    ruling One (local (interrupter_of s row noted) pins) (edge d w f v) ≡ ruling version (over s row noted pins) (edge d w f v)
by_parts version s row noted pins d Irq true v own = refl
by_parts version s row noted pins d Irq false v own = refl
by_parts version s row noted pins d IackOut true v own =
    ap (λ b. after s noted IackOut (check (pins.iack_in && not (drive (edges noted) (Slot s) Dtack) && pins.data_strobe && b) (Rule 23) (Ok tt))) (passed_alike s row noted pins pins.shown)
by_parts version s row noted pins d IackOut false v own = refl
by_parts version s row noted pins d Dtack true v own =
    ap (λ b. after s noted Dtack (check (pins.data_strobe && pins.address_strobe && b) (Rule 25) (Ok tt))) (answered_alike s row noted pins pins.shown)
by_parts version s row noted pins d Dtack false v own = refl
by_parts version s row noted pins d w f v own = absurd (cc)

-- a state that comes from a list answers as the list says
pub answers_over : (version : Version) (state : InterrupterState) (noted : List Noted) (pins : Pins) (e : Edge) → state ≡ interrupter_of state.slot state.row noted
    → is_of parts.Interrupter e.wire ≡ true →
    ruling One (local state pins) e ≡ ruling version (over state.slot state.row noted pins) e
answers_over version state noted pins e same own =
    let P : InterrupterState → Type 0 = λ i. ruling One (local i pins) e ≡ ruling version (over state.slot state.row noted pins) e in
    subst P (sym same) (by_parts version state.slot state.row noted pins e.driver e.wire e.fall e.value own)

-- a state that comes from a list answers as the list says, for an edge of the wire x, which is w
pub rules_over : (version : Version) (state : InterrupterState) (noted : List Noted) (pins : Pins) (d : Driver) (w x : Wire) (f : Bool) (v : Option Cycle) → state ≡ interrupter_of state.slot state.row
    noted → w ≡ x → is_of parts.Interrupter x ≡ true →
    ruling_on One (local state pins) x f v ≡ ruling_on version (over state.slot state.row noted pins) w f v
rules_over version state noted pins d w x f v same is own =
    answers_over version state noted pins (edge d x f v) same own
    ∙ ap (λ y. ruling_on version (over state.slot state.row noted pins) y f v) (sym is)
