-- The counts of the lines after an edge of a board.
use Rattle.std.proofs.Common.{◌≡◌, ◌≢◌, ◌∙◌, refl, sym, ap, subst, ℕ, Bool, true, false, List, ◌∷◌, ◌<◌, length, get_or, set, arith}
use Rattle.std.specs.Prelude.{◌==◌, ◌&&◌, not, Option, Some, None, is_some, nat_lt}
use Rattle.std.specs.List.{list_any}
use Rattle.std.specs.Option.{option_map_or}
use Rattle.std.proofs.lemmas.Bool.Decides.{nat_tests}
use Rattle.std.proofs.lemmas.List.{get_or-set_same, get_or-set_other, length-set}
use Rattle.vme_model.specs.declared.boards.Row.{Row}
use Rattle.vme_model.specs.declared.boards.RequesterRow.{RequesterRow}
use Rattle.vme_model.specs.declared.boards.InterrupterRow.{InterrupterRow}
use Rattle.vme_model.specs.declared.pins.Pins.{Pins}
use Rattle.vme_model.specs.declared.signals.Driver.TheVariants.{Controller, Slot}
use Rattle.vme_model.specs.declared.signals.Wire.{Wire}
use Rattle.vme_model.specs.declared.signals.Wire.TheVariants.{Bg, Bclr, Iack, Berr, Br, BgOut, Bbsy, Addr, AddressStrobe, DataStrobe, Irq, IackOut, Dtack}
use Rattle.vme_model.specs.declared.signals.Cycle.{Cycle}
use Rattle.vme_model.specs.declared.signals.Edge.{Edge}
use Rattle.vme_model.specs.Signals.{has_wire}
use Rattle.vme_model.specs.Sets.{bus_levels, irq_levels}
use Rattle.vme_model.specs.Plan.{Plan, drives, requests_on, interrupts_on}
use Rattle.vme_model.specs.Accepted.{IsAccepted}
use Rattle.vme_model.specs.History.{pulls_request, pulls_interrupt, drive, request_line, interrupt_line, shown}
use Rattle.vme_model.specs.Views.{pins}
use Rattle.vme_model.proofs.Bools.{same_number}
use Rattle.vme_wiring.specs.Counts.{pulls, IsLines, moved, is_movable, count_of, lines_after, shared_after, shared_after_controller}
use Rattle.vme_histories.specs.Levels.{request_level, interrupt_level}
use Rattle.vme_wiring.specs.declared.lines.Lines.{Lines}
use Rattle.vme_wiring.proofs.PullCounts.{any_pulls, IsSameElsewhere, IsMoved, pulls_move, pulls_stay}
use Rattle.vme_histories.proofs.Others.{drive_same}
use Rattle.vme_histories.proofs.AllowedBoards.{Stands, IsDriven, at, at_head, own_after, flipped}

-- which of the boards that pass a test pull the line
abbrev gated : (Row → Bool) → List Edge → Wire → Row → Bool
gated gate h w q = gate q && drive h (Slot q.slot) w

gate_open : (a b c : Bool) → a ≡ true → b ≡ c → (a && b) ≡ c
gate_open true b c e f = f
gate_open false b c e f = absurd (cc)

gate_shut : (a b c : Bool) → a ≡ false → (a && b) ≡ (a && c)
gate_shut true b c e = absurd (cc)
gate_shut false b c e = refl

-- an edge of a board, at the boards that pass a test
module _ (p : Plan) (h : List Edge) (s : ℕ) (r : Row) (w : Wire) (fall : Bool) (v : Option Cycle) (ok : IsAccepted p) (k : Stands p s r) where
  abbrev after : List Edge
  after = at s w fall v ∷ h

  elsewhere : (gate : Row → Bool) → IsSameElsewhere (gated gate h w) (gated gate after w) s
  elsewhere gate q other = ap (λ b. gate q && b) (drive_same h (at s w fall v) (Slot q.slot) w (flipped q.slot s other))

  moves : (gate : Row → Bool) → drive h (Slot s) w ≡ not fall → gate r ≡ true →
      IsMoved (gated gate h w) (gated gate after w) p.rows fall
  moves gate before opened =
      pulls_move p (gated gate h w) (gated gate after w) s r fall ok k.from_one k.to_last k.found (elsewhere gate)
      (gate_open (gate r) (drive h (Slot r.slot) w) (not fall) opened (ap (λ t. drive h (Slot t) w) k.slot ∙ before))
      (gate_open (gate r) (drive after (Slot r.slot) w) fall opened (own_after h s r.slot w fall v k.slot))

  stays : (gate : Row → Bool) → gate r ≡ false → pulls (gated gate after w) p.rows ≡ pulls (gated gate h w) p.rows
  stays gate shut =
      pulls_stay p (gated gate h w) (gated gate after w) s r ok k.from_one k.to_last k.found (elsewhere gate)
      (gate_shut (gate r) (drive after (Slot r.slot) w) (drive h (Slot r.slot) w) shut)

-- one of the counts by level moves
by_level : (xs : List ℕ) (k l n : ℕ) (count after : ℕ → ℕ) (fall b : Bool) → (l == n) ≡ b → length xs ≡ k → l < k → n < k →
    ((m : ℕ) → m < k → get_or xs m 0 ≡ count m) → after l ≡ moved (count l) fall → (b ≡ false → after n ≡ count n) →
    get_or (set xs l (moved (get_or xs l 0) fall)) n 0 ≡ after n
by_level xs k l n count after fall true is room low there old moves stays =
    let same : l ≡ n = same_number l n is in
    let P : ℕ → Type 0 = λ m. get_or (set xs l (moved (get_or xs l 0) fall)) m 0 ≡ after m in
    subst P same (get_or-set_same xs l (moved (get_or xs l 0) fall) 0 (omega arith) ∙ ap (λ t. moved t fall) (old l low) ∙ sym moves)
by_level xs k l n count after fall false is room low there old moves stays =
    let apart : n ≢ l = λ same. absurd (grind (arith, nat_tests)) in
    get_or-set_other xs l n (moved (get_or xs l 0) fall) 0 apart ∙ old n there ∙ sym (stays refl)

-- the board's own level
on_level : (o : Option RequesterRow) (n : ℕ) → is_some o ≡ true →
    option_map_or (λ q. q.level == n) o false ≡ (option_map_or (λ q. q.level) o 0 == n)
on_level None n some = absurd (cc)
on_level (Some q) n some = refl

on_irq : (o : Option InterrupterRow) (n : ℕ) → is_some o ≡ true →
    option_map_or (λ q. q.level == n) o false ≡ (option_map_or (λ q. q.level) o 0 == n)
on_irq None n some = absurd (cc)
on_irq (Some q) n some = refl

self : (n : ℕ) → (n == n) ≡ true
self n = grind (arith, nat_tests)

-- the counts after an edge, and that the count which moves can move
pub record IsCounted (p : Plan) (h : List Edge) (s : ℕ) (r : Row) (w : Wire) (fall : Bool) (v : Option Cycle) (l : Lines) : Type 0 where
  pub lines : IsLines p (at s w fall v ∷ h) (lines_after l r w fall)
  pub can : is_movable (count_of l r w) fall ≡ true

one_is_movable : (fall : Bool) → is_movable 1 fall ≡ true
one_is_movable true = refl
one_is_movable false = refl

-- a line with one count: its count afterwards, and that it can move so
record IsOneCount (rows : List Row) (g : Row → Bool) (fall : Bool) (n : ℕ) : Type 0 where
  count : moved n fall ≡ pulls g rows
  can : is_movable n fall ≡ true

one_count : {rows : List Row} {f g : Row → Bool} {fall : Bool} (n : ℕ) → n ≡ pulls f rows → IsMoved f g rows fall → IsOneCount rows g fall n
one_count {fall = fall} n old one = record { count = ap (λ m. moved m fall) old ∙ sym one.count; can = ap (λ m. is_movable m fall) old ∙ one.can }

pub counted : (p : Plan) (h : List Edge) (s : ℕ) (r : Row) (w : Wire) (fall : Bool) (v : Option Cycle) (l : Lines) → IsAccepted p → Stands p s r →
    IsDriven p h s r w fall v → IsLines p h l → IsCounted p h s r w fall v l
counted p h s r Br fall v l ok k d old =
    let level = request_level r in
    let gate = λ (n : ℕ). on_level r.requester n d.drives in
    let one = moves p h s r Br fall v ok k (requests_on level) d.before (gate level ∙ self level) in
    let count = λ (n : ℕ). pulls (pulls_request h n) p.rows in
    let after = λ (n : ℕ). pulls (pulls_request (at s Br fall v ∷ h) n) p.rows in
    let room = length-set l.br level (moved (get_or l.br level 0) fall) ∙ old.br_room in
    let stay = λ (n : ℕ) (is : (level == n) ≡ false). stays p h s r Br fall v ok k (requests_on n) (gate n ∙ is) in
    let br = λ (n : ℕ) (low : n < 4). by_level l.br 4 level n count after fall (level == n) refl old.br_room k.request low old.br one.count (stay n) in
    record { lines = assumption (room, br); can = ap (λ n. is_movable n fall) (old.br level k.request) ∙ one.can }
counted p h s r Irq fall v l ok k d old =
    let level = interrupt_level r in
    let gate = λ (n : ℕ). on_irq r.interrupter n d.drives in
    let one = moves p h s r Irq fall v ok k (interrupts_on level) d.before (gate level ∙ self level) in
    let count = λ (n : ℕ). pulls (pulls_interrupt h n) p.rows in
    let after = λ (n : ℕ). pulls (pulls_interrupt (at s Irq fall v ∷ h) n) p.rows in
    let room = length-set l.irq level (moved (get_or l.irq level 0) fall) ∙ old.irq_room in
    let stay = λ (n : ℕ) (is : (level == n) ≡ false). stays p h s r Irq fall v ok k (interrupts_on n) (gate n ∙ is) in
    let irq = λ (n : ℕ) (low : n < 8). by_level l.irq 8 level n count after fall (level == n) refl old.irq_room k.interrupt low old.irq one.count (stay n) in
    record { lines = assumption (room, irq); can = ap (λ n. is_movable n fall) (old.irq level k.interrupt) ∙ one.can }
counted p h s r BgOut fall v l ok k d old =
    let one = one_count l.bgout old.bgout (moves p h s r BgOut fall v ok k (λ q. true) d.before refl) in
    record { lines = assumption one; can = one.can }
counted p h s r Bbsy fall v l ok k d old =
    let one = one_count l.bbsy old.bbsy (moves p h s r Bbsy fall v ok k (drives Bbsy) d.before d.drives) in
    record { lines = assumption one; can = one.can }
counted p h s r AddressStrobe fall v l ok k d old =
    let one = one_count l.address_strobe old.address_strobe (moves p h s r AddressStrobe fall v ok k (drives AddressStrobe) d.before d.drives) in
    record { lines = assumption one; can = one.can }
counted p h s r DataStrobe fall v l ok k d old =
    let one = one_count l.data_strobe old.data_strobe (moves p h s r DataStrobe fall v ok k (drives DataStrobe) d.before d.drives) in
    record { lines = assumption one; can = one.can }
counted p h s r Dtack fall v l ok k d old =
    let one = one_count l.dtack old.dtack (moves p h s r Dtack fall v ok k (drives Dtack) d.before d.drives) in
    record { lines = assumption one; can = one.can }
counted p h s r Addr fall v l ok k d old = record { lines = assumption old; can = one_is_movable fall }
counted p h s r IackOut fall v l ok k d old = record { lines = assumption old; can = one_is_movable fall }
counted p h s r w fall v l ok k d old = let none = d.drives in absurd (cc)

-- the controller pulls none of these lines
pub uncounted : (p : Plan) (h : List Edge) (w : Wire) (fall : Bool) (v : Option Cycle) (l : Lines) → has_wire Controller w ≡ true → IsLines p h l →
    IsLines p (at_head w fall v ∷ h) l
uncounted p h (Bg n) fall v l has old = assumption old
uncounted p h Bclr fall v l has old = assumption old
uncounted p h Iack fall v l has old = assumption old
uncounted p h Berr fall v l has old = assumption old
uncounted p h w fall v l has old = absurd (cc)

-- what all drivers see, by the counts
low : (f : Row → Bool) (rows : List Row) (n : ℕ) → n ≡ pulls f rows → nat_lt 0 n ≡ list_any f rows
low f rows n e = ap (nat_lt 0) e ∙ sym (any_pulls f rows)

requests : (p : Plan) (h : List Edge) (l : Lines) → IsLines p h l → bus_levels (λ n. nat_lt 0 (get_or l.br n 0)) ≡ bus_levels (request_line p h)
requests p h l is =
    let at_level = λ (n : ℕ) (b : n < 4). low (pulls_request h n) p.rows (get_or l.br n 0) (is.br n b) in
    rw (at_level 0 (omega arith), at_level 1 (omega arith), at_level 2 (omega arith), at_level 3 (omega arith))

irqs : (p : Plan) (h : List Edge) (l : Lines) → IsLines p h l → irq_levels (λ n. nat_lt 0 (get_or l.irq n 0)) ≡ irq_levels (interrupt_line p h)
irqs p h l is =
    let at_level = λ (n : ℕ) (b : n < 8). low (pulls_interrupt h n) p.rows (get_or l.irq n 0) (is.irq n b) in
    rw (
      at_level 1 (omega arith),
      at_level 2 (omega arith),
      at_level 3 (omega arith),
      at_level 4 (omega arith),
      at_level 5 (omega arith),
      at_level 6 (omega arith),
      at_level 7 (omega arith),
    )

pub shared_by_board : (p : Plan) (h : List Edge) (s : ℕ) (w : Wire) (fall : Bool) (v : Option Cycle) (l : Lines) → has_wire (Slot s) w ≡ true →
    IsLines p (at s w fall v ∷ h) l → (w ≡ Addr → shown p (at s w fall v ∷ h) ≡ v) →
    shared_after (pins p h Controller) l w v ≡ pins p (at s w fall v ∷ h) Controller
shared_by_board p h s Br fall v l has is on = rw (requests p (at s Br fall v ∷ h) l is)
shared_by_board p h s Irq fall v l has is on = rw (irqs p (at s Irq fall v ∷ h) l is)
shared_by_board p h s Bbsy fall v l has is on = rw (low _ p.rows l.bbsy is.bbsy)
shared_by_board p h s AddressStrobe fall v l has is on = rw (low _ p.rows l.address_strobe is.address_strobe)
shared_by_board p h s DataStrobe fall v l has is on = rw (low _ p.rows l.data_strobe is.data_strobe)
shared_by_board p h s Dtack fall v l has is on = rw (low _ p.rows l.dtack is.dtack)
shared_by_board p h s Addr fall v l has is on = let f : Option Cycle → Pins = λ x. record (pins p h Controller) { shown = x } in ap f (sym (on refl))
shared_by_board p h s BgOut fall v l has is on = refl
shared_by_board p h s IackOut fall v l has is on = refl
shared_by_board p h s w fall v l has is on = absurd (cc)

pub shared_by_controller : (p : Plan) (h : List Edge) (w : Wire) (fall : Bool) (v : Option Cycle) → has_wire Controller w ≡ true →
    shared_after_controller (pins p h Controller) w fall ≡ pins p (at_head w fall v ∷ h) Controller
shared_by_controller p h (Bg n) fall v has = refl
shared_by_controller p h Bclr fall v has = refl
shared_by_controller p h Iack fall v has = refl
shared_by_controller p h Berr fall v has = refl
shared_by_controller p h w fall v has = absurd (cc)
