-- What parts of guards read: `BusState::showing`, `passing`, `answering`.
use Rattle.std.proofs.Common.{◌≡◌, ◌∙◌, refl, sym, ap, ℕ, true, false, List, ◌≤◌, arith}
use Rattle.std.specs.Prelude.{◌==◌, Option, Some, None, nat_le, is_some}
use Rattle.std.specs.Option.{option_map_or}
use Rattle.std.proofs.lemmas.Bool.Decides.{nat_tests}
use Rattle.vme_model.specs.declared.boards.Release.TheVariants.{Request}
use Rattle.vme_model.specs.declared.boards.RequesterRow.{RequesterRow}
use Rattle.vme_model.specs.declared.boards.Row.{Row}
use Rattle.vme_model.specs.declared.conditions.Condition.TheVariants.{Handled, InterruptLow, OwnSlotShown}
use Rattle.vme_model.specs.declared.signals.Cycle.{Cycle}
use Rattle.vme_model.specs.declared.signals.Cycle.TheVariants.{Acknowledge, Access}
use Rattle.vme_model.specs.declared.signals.Driver.TheVariants.{Slot}
use Rattle.vme_model.specs.declared.signals.Edge.{Edge}
use Rattle.vme_model.specs.declared.signals.Wire.TheVariants.{Addr, IackOut}
use Rattle.vme_model.specs.Signals.{has_value}
use Rattle.vme_model.specs.declared.sets.Levels.{Levels}
use Rattle.vme_model.specs.Sets.{has_level}
use Rattle.vme_model.specs.Plan.{Plan, board}
use Rattle.vme_model.specs.History.{drive, interrupt_line}
use Rattle.vme_model.specs.Readings.{Readings, readings, iack_in}
use Rattle.vme_model.specs.Guards.{asks, ◌⊓◌}
use Rattle.vme_model.specs.Rules.{shows, passes, answers, show_guard, pass_guard, answer_guard}
use Rattle.vme_model.proofs.Bools.{and_left, and_right}
use Rattle.vme_histories.specs.Shown.{is_access_to}
use Rattle.vme_bus.specs.Asks.{asks_at}
use Rattle.vme_bus.specs.Moves.{release_of}

in_order : (a b n : ℕ) → nat_le a n ≡ true → nat_le n b ≡ true → (a ≤ n) × (n ≤ b)
in_order a b n l m = (grind (arith, nat_tests), grind (arith, nat_tests))

-- an acknowledge reads the line of its own level alone
pub shown_by : (p : Plan) (h : List Edge) (s : ℕ) (r : Row) (v : Option Cycle) (asked : Levels) → board p s ≡ Some r → has_value Addr true v ≡ true
    → ((level : ℕ) → 1 ≤ level → level ≤ 7 → v ≡ Some (Acknowledge level) → has_level asked level ≡ interrupt_line p h level)
    → shows (has_level r.handler) (has_level asked) v ≡ show_guard (readings p h (Slot s)) v
shown_by p h s r None asked found formed reads = refl
shown_by p h s r (Some (Access t)) asked found formed reads = refl
shown_by p h s r (Some (Acknowledge l)) asked found formed reads =
    let k = in_order 1 7 l (and_left (nat_le 1 l) (nat_le l 7) formed) (and_right (nat_le 1 l) (nat_le l 7) formed) in
    ap (λ b. asks Handled (has_level r.handler l) ⊓ asks InterruptLow b) (reads l k.0 k.1 refl)
    ∙ sym (ap (λ (o : Option Row). asks Handled (option_map_or (λ b. has_level b.handler l) o false) ⊓ asks InterruptLow (interrupt_line p h l)) found)

pub passed_by : (r : Readings) (v : Option Cycle) → passes (λ level. asks_at r v) v ≡ pass_guard r v
passed_by r None = refl
passed_by r (Some (Access t)) = refl
passed_by r (Some (Acknowledge l)) = refl

pub answered_by : (p : Plan) (h : List Edge) (s : ℕ) (r : Row) (v : Option Cycle) → board p s ≡ Some r → r.slot ≡ s →
    answers (iack_in p h (Slot s)) (drive h (Slot s) IackOut) (λ level. asks_at (readings p h (Slot s)) v) (λ t. is_access_to s v) v ≡ answer_guard (readings p h (Slot s)) v
answered_by p h s r None found same = refl
answered_by p h s r (Some (Acknowledge l)) found same = refl
answered_by p h s r (Some (Access t)) found same =
    ap (λ x. asks OwnSlotShown (x == t)) (sym same)
    ∙ sym (ap (λ (o : Option Row). asks OwnSlotShown (option_map_or (λ b. b.slot == t) o false)) found)

-- a board's requester, and when it gives up the bus
pub requester_of : (o : Option RequesterRow) → is_some o ≡ true → (q : RequesterRow) × (o ≡ Some q)
requester_of None e = absurd (cc)
requester_of (Some q) e = (q, refl)

pub released_as : (p : Plan) (s : ℕ) (r : Row) (q : RequesterRow) → board p s ≡ Some r → r.requester ≡ Some q → release_of (board p s) ≡ q.release
released_as p s r q found has = ap release_of found ∙ ap (λ (o : Option RequesterRow). option_map_or (λ x. x.release) o Request) has
