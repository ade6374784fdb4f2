-- What the sets of slots say of the lines that boards pull: `BusState::bbsy`, `request` and their like.
use Rattle.std.proofs.Common.{◌≡◌, ◌∙◌, refl, sym, ap, ℕ, Bool, true, false, List}
use Rattle.std.specs.Prelude.{◌&&◌, Option, Some, None}
use Rattle.std.specs.List.{list_any}
use Rattle.std.specs.Option.{option_map_or}
use Rattle.vme_model.specs.declared.boards.Row.{Row}
use Rattle.vme_model.specs.declared.signals.Version.{Version}
use Rattle.vme_model.specs.declared.signals.Edge.{Edge}
use Rattle.vme_model.specs.declared.signals.Driver.TheVariants.{Slot}
use Rattle.vme_model.specs.declared.signals.Wire.{Wire}
use Rattle.vme_model.specs.declared.signals.Wire.TheVariants.{Br, Irq}
use Rattle.vme_model.specs.Plan.{Plan, board, drives, requests_on, interrupts_on}
use Rattle.vme_model.specs.Accepted.{IsAccepted}
use Rattle.vme_model.specs.History.{drive, line, request_line, interrupt_line, pulls_line, pulls_request, pulls_interrupt}
use Rattle.vme_model.specs.Verdict.{IsLegal}
use Rattle.vme_model.proofs.Ranges.{IsRowInRange, in_range}
use Rattle.vme_model.proofs.Members.{found_row, some_row}
use Rattle.vme_histories.proofs.AllowedBoards.{stands}
use Rattle.vme_histories.proofs.Drivers.{never_drove}
use Rattle.vme_bus.specs.declared.layouts.Line.TheVariants as on_line
use Rattle.vme_bus.specs.declared.sets.SlotSet.{SlotSet}
use Rattle.vme_bus.specs.Sets.{has}
use Rattle.vme_bus.specs.Layouts.{HoldsLine}
use Rattle.vme_bus.specs.States.{HoldsWire}
use Rattle.vme_bus.proofs.Masks.{with_false}

-- a set holds the slots whose boards pass a test
abbrev pub HoldsBoards : Plan → (Row → Bool) → SlotSet → Type 0
HoldsBoards p f set = (s : ℕ) → has set s ≡ option_map_or f (board p s) false

-- so it is of each bit that says whether a set holds a slot
abbrev pub Tells : SlotSet → (Bool → Type 0) → Type 0
Tells set P = (b : Bool) → (b ≡ true → (s : ℕ) × (has set s ≡ true)) → ((s : ℕ) → has set s ≡ true → b ≡ true) → P b

-- whether it holds a slot is whether a board passes
pub lit : (p : Plan) (f : Row → Bool) (set : SlotSet) → IsAccepted p → HoldsBoards p f set → Tells set (λ b. b ≡ list_any f p.rows)
lit p f set ok held true some none = by_board (some refl).0 (sym (held (some refl).0) ∙ (some refl).1)
  where
    of_board : (s : ℕ) (o : Option Row) → board p s ≡ o → option_map_or f o false ≡ true → true ≡ list_any f p.rows
    of_board s None is on = absurd (cc)
    of_board s (Some r) is on = sym ((found_row (IsRowInRange p) p.rows s r (in_range p ok).rows is).passes f on)

    by_board : (s : ℕ) → option_map_or f (board p s) false ≡ true → true ≡ list_any f p.rows
    by_board s on = of_board s (board p s) refl on
lit p f set ok held false some none = by_any (list_any f p.rows) refl
  where
    by_any : (b : Bool) → list_any f p.rows ≡ b → false ≡ b
    by_any false is = refl
    by_any true is =
        let row = some_row f (IsRowInRange p) p.rows (in_range p ok).rows is in
        let on : has set row.0.slot ≡ true = held row.0.slot ∙ ap (λ (o : Option Row). option_map_or f o false) row.2.alone ∙ row.1 in
        none row.0.slot on

-- the slots whose wire is low are those of the boards that pull its line
pub wire_held : (version : Version) (p : Plan) (h : List Edge) (w : Wire) (set : SlotSet) → IsAccepted p → IsLegal version p h → HoldsWire h w set → HoldsBoards p (pulls_line h w) set
wire_held version p h w set ok legal held s = held s ∙ by_board (board p s) refl
  where
    by_part : (r : Row) (b : Bool) → board p s ≡ Some r → drives w r ≡ b → drive h (Slot s) w ≡ (b && drive h (Slot r.slot) w)
    by_part r true is has_it = ap (λ x. drive h (Slot x) w) (sym (stands p s r ok is).slot)
    by_part r false is lacks = never_drove version p h (Slot s) w legal (ap (λ (o : Option Row). option_map_or (drives w) o false) is ∙ lacks)

    by_board : (o : Option Row) → board p s ≡ o → drive h (Slot s) w ≡ option_map_or (pulls_line h w) o false
    by_board None is = never_drove version p h (Slot s) w legal (ap (λ (o : Option Row). option_map_or (drives w) o false) is)
    by_board (Some r) is = by_part r (drives w r) is refl

swapped : (a b c : Bool) → a ≡ c → (a && b) ≡ (b && c)
swapped true true c e = e
swapped true false c e = refl
swapped false true c e = e
swapped false false c e = refl

pub line_is : (version : Version) (p : Plan) (h : List Edge) (w : Wire) (set : SlotSet) → IsAccepted p → IsLegal version p h → HoldsWire h w set → Tells set (λ b. b ≡ line p h w)
line_is version p h w set ok legal held = lit p (pulls_line h w) set ok (wire_held version p h w set ok legal held)

-- those on a line of one level
abbrev HoldsBoth : SlotSet → SlotSet → SlotSet → Type 0
HoldsBoth low on set = (s : ℕ) → has set s ≡ (has low s && has on s)

module _ (p : Plan) (h : List Edge) (n : ℕ) (set low on : SlotSet) (ok : IsAccepted p) where
  level_held : (w : Wire) (f : Row → Bool) → HoldsWire h w low → HoldsBoards p f on → HoldsBoth low on set → HoldsBoards p (λ r. f r && drive h (Slot r.slot) w) set
  level_held w f pulled placed both s = both s ∙ ap (λ b. b && has on s) (pulled s) ∙ ap (λ b. drive h (Slot s) w && b) (placed s) ∙ by_board (board p s) refl
    where
      by_board : (o : Option Row) → board p s ≡ o → (drive h (Slot s) w && option_map_or f o false) ≡ option_map_or (λ r. f r && drive h (Slot r.slot) w) o false
      by_board None is = with_false (drive h (Slot s) w)
      by_board (Some r) is = swapped (drive h (Slot s) w) (f r) (drive h (Slot r.slot) w) (ap (λ x. drive h (Slot x) w) (sym (stands p s r ok is).slot))

  pub request_is : HoldsWire h Br low → HoldsLine p (on_line.Request n) on → HoldsBoth low on set → Tells set (λ b. b ≡ request_line p h n)
  request_is pulled placed both = lit p (pulls_request h n) set ok (level_held Br (requests_on n) pulled placed both)

  pub interrupt_is : HoldsWire h Irq low → HoldsLine p (on_line.Interrupt n) on → HoldsBoth low on set → Tells set (λ b. b ≡ interrupt_line p h n)
  interrupt_is pulled placed both = lit p (pulls_interrupt h n) set ok (level_held Irq (interrupts_on n) pulled placed both)
