-- The answer by the fields is the answer over the edges that were noted.
use Rattle.std.proofs.Common.{◌≡◌, ◌∙◌, refl, sym, ap, subst, Bool, true, false, List, ℕ}
use Rattle.std.specs.Prelude.{Option}
use Rattle.vme_model.specs.declared.boards.RequesterRow.{RequesterRow}
use Rattle.vme_model.specs.declared.pins.Pins.{Pins}
use Rattle.vme_model.specs.declared.sets.Levels.{Levels}
use Rattle.vme_model.specs.declared.signals.Version.{Version}
use Rattle.vme_model.specs.declared.signals.Version.TheVariants.{One}
use Rattle.vme_model.specs.declared.signals.Driver.{Driver}
use Rattle.vme_model.specs.declared.signals.Driver.TheVariants.{Slot}
use Rattle.vme_model.specs.declared.signals.Wire.{Wire}
use Rattle.vme_model.specs.declared.signals.Wire.TheVariants.{Addr, AddressStrobe, DataStrobe}
use Rattle.vme_model.specs.declared.signals.Cycle.{Cycle}
use Rattle.vme_model.specs.declared.signals.Edge.{Edge}
use Rattle.vme_model.specs.History.{cycles}
use Rattle.vme_master.proofs.Counts.{below_burst}
use Rattle.vme_model.specs.Verdict.{ruling, ruling_on}
use Rattle.vme_model.specs.declared.signals.Part.TheVariants as parts
use Rattle.vme_model.specs.Signals.{is_of}
use Rattle.vme_master.specs.Local.{MasterState, master_of, local, over}

abbrev edge : Driver → Wire → Bool → Option Cycle → Edge
edge d w f v = record { driver = d; wire = w; fall = f; value = v }

by_parts : (version : Version) (s : ℕ) (row : RequesterRow) (handler : Levels) (noted : List Edge) (pins : Pins) (holds_bus : Bool) (d : Driver) (w : Wire) (f : Bool) (v : Option Cycle)
    → is_of parts.Master w ≡ true →
    ruling One (local (master_of s row handler noted) pins holds_bus) (edge d w f v) ≡ ruling version (over s row handler noted pins holds_bus) (edge d w f v)
by_parts version s row handler noted pins holds_bus d Addr true v own = rw (below_burst (cycles noted (Slot s)) row.release) refl
by_parts version s row handler noted pins holds_bus d Addr false v own = refl
by_parts version s row handler noted pins holds_bus d AddressStrobe true v own = refl
by_parts version s row handler noted pins holds_bus d AddressStrobe false v own = refl
by_parts version s row handler noted pins holds_bus d DataStrobe true v own = refl
by_parts version s row handler noted pins holds_bus d DataStrobe false v own = refl
by_parts version s row handler noted pins holds_bus d w f v own = absurd (cc)

-- a state that comes from a list answers as the list says
pub answers_over : (version : Version) (state : MasterState) (noted : List Edge) (pins : Pins) (holds_bus : Bool) (e : Edge) → state ≡ master_of state.slot state.row state.handler noted
    → is_of parts.Master e.wire ≡ true →
    ruling One (local state pins holds_bus) e ≡ ruling version (over state.slot state.row state.handler noted pins holds_bus) e
answers_over version state noted pins holds_bus e same own =
    let P : MasterState → Type 0 = λ m. ruling One (local m pins holds_bus) e ≡ ruling version (over state.slot state.row state.handler noted pins holds_bus) e in
    subst P (sym same) (by_parts version state.slot state.row state.handler noted pins holds_bus e.driver e.wire e.fall e.value own)

-- a state that comes from a list answers as the list says, for an edge of the wire x, which is w
pub rules_over : (version : Version) (state : MasterState) (noted : List Edge) (pins : Pins) (holds_bus : Bool) (d : Driver) (w x : Wire) (f : Bool) (v : Option Cycle) → state
    ≡ master_of state.slot state.row state.handler noted → w ≡ x → is_of parts.Master x ≡ true →
    ruling_on One (local state pins holds_bus) x f v ≡ ruling_on version (over state.slot state.row state.handler noted pins holds_bus) w f v
rules_over version state noted pins holds_bus d w x f v same is own =
    answers_over version state noted pins holds_bus (edge d x f v) same own
    ∙ ap (λ y. ruling_on version (over state.slot state.row state.handler noted pins holds_bus) y f v) (sym is)
