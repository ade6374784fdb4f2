-- The numbers of a board, and how an edge moves them.
use Rattle.std.proofs.Common.{◌≡◌, ◌∙◌, refl, sym, ap, ℕ, ◌+◌, ◌<◌, ◌^◌, Bool, true, false, ◌∷◌, length, Option, Some, None, Ok, arith}
use Rattle.std.specs.Prelude.{◌==◌, ◌&&◌, ◌||◌, not, max, count_by, is_some, if◌then◌else◌}
use Rattle.std.proofs.lemmas.Bool.Decides.{nat_tests}
use Rattle.vme_model.specs.declared.deliveries.Delivery.{Delivery}
use Rattle.vme_model.specs.declared.signals.Cycle.{Cycle}
use Rattle.vme_model.specs.declared.signals.Driver.TheVariants.{Slot}
use Rattle.vme_model.specs.declared.signals.Wire.{Wire}
use Rattle.vme_model.specs.declared.signals.Wire.TheVariants.{Bg, Bclr, Iack, Berr, Br, BgOut, Bbsy, Addr, AddressStrobe, DataStrobe, Irq, IackOut, Dtack}
use Rattle.vme_model.specs.Signals.{is_same_driver, is_same_wire, is_edge_of, is_fall_of}
use Rattle.vme_goals.specs.declared.events.Event.{Event}
use Rattle.vme_summary.specs.declared.boards.BoardTally.{BoardTally}
use Rattle.vme_summary.specs.Tally.{Answered, Answers, is_accepted, falls, rises, delivers, board_tally}
use Rattle.vme_summary.specs.Tallied.{more, span, board_after}
use Rattle.vme_summary.proofs.Counted.{more_one, count_no}
use Rattle.vme_summary.proofs.Spans.{sum_after, greatest_after}

-- a board after an edge that is its `br-`, `br+`, `bbsy-`, `bbsy+`, `as-`, `dtack-` or a delivery
abbrev pub moved : BoardTally → ℕ → Bool → Bool → Bool → Bool → Bool → Bool → Bool → BoardTally
moved b n asks unasks takes gives cycles answers delivery = record {
  asked = if asks then more b.asked 1 else b.asked;
  waited = if takes then more b.waited (span n b.asks_since) else b.waited;
  longest_wait = if takes then max b.longest_wait (span n b.asks_since) else b.longest_wait;
  tenures = if takes then more b.tenures 1 else b.tenures;
  held = if gives then more b.held (span n b.holds_since) else b.held;
  longest_hold = if gives then max b.longest_hold (span n b.holds_since) else b.longest_hold;
  cycles = if cycles then more b.cycles 1 else b.cycles;
  answered = if answers then more b.answered 1 else b.answered;
  delivered = if delivery then more b.delivered 1 else b.delivered;
  asks_since = if asks then Some n else (if unasks || takes then None else b.asks_since);
  holds_since = if takes then Some n else (if gives then None else b.holds_since);
}

count_after : (p : Answered → Bool) (a : Answered) (t : Answers) → length t + 1 < 2 ^ 64 → count_by p (a ∷ t) ≡ (if p a then more (count_by p t) 1 else count_by p t)
count_after p a t few = at (p a) refl
  where
    at : (b : Bool) → p a ≡ b → count_by p (a ∷ t) ≡ (if b then more (count_by p t) 1 else count_by p t)
    at true is = sym (more_one p a t (count_by p t) few refl is)
    at false is = count_no p a t is

-- a fall is no rise, and of one wire alone
takes_ends : (s : ℕ) (a : Answered) → falls (Slot s) Bbsy a ≡ true → (falls (Slot s) Br a ≡ false) × ((rises (Slot s) Br a || falls (Slot s) Bbsy a) ≡ true)
takes_ends s a h = at (is_accepted a) a.edge.fall a.edge.wire (is_same_driver a.edge.driver (Slot s)) h
  where
    at : (o f : Bool) (w : Wire) (d : Bool) → (o && (f && (is_same_wire w Bbsy && d))) ≡ true → ((o && (f && (is_same_wire w Br && d))) ≡ false)
        × (((o && (not f && (is_same_wire w Br && d))) || (o && (f && (is_same_wire w Bbsy && d)))) ≡ true)
    at true true Bbsy true h = (refl, refl)
    at true true w d h = (cc, cc)
    at o f w d h = (cc, cc)

gives_ends : (s : ℕ) (a : Answered) → rises (Slot s) Bbsy a ≡ true → (falls (Slot s) Bbsy a ≡ false) × (rises (Slot s) Bbsy a ≡ true)
gives_ends s a h = (at (is_accepted a) a.edge.fall (is_edge_of (Slot s) Bbsy a.edge) h, h)
  where
    at : (o f e : Bool) → (o && (not f && e)) ≡ true → (o && (f && e)) ≡ false
    at true true e h = cc
    at true false e h = refl
    at false f e h = refl

pub whole : (s : ℕ) (a : Answered) (t : Answers) → length t + 1 < 2 ^ 64
    → board_tally s (a ∷ t) ≡ moved (board_tally s t) (length (a ∷ t)) (falls (Slot s) Br a) (rises (Slot s) Br a) (falls (Slot s) Bbsy a) (rises (Slot s) Bbsy a) (falls (Slot s) AddressStrobe a)
    (falls (Slot s) Dtack a) (falls (Slot s) Dtack a && delivers a.answer)
whole s a t few =
    let asked = count_after (falls (Slot s) Br) a t few in
    let tenures = count_after (falls (Slot s) Bbsy) a t few in
    let cycles = count_after (falls (Slot s) AddressStrobe) a t few in
    let answers = count_after (falls (Slot s) Dtack) a t few in
    let delivery = count_after (λ x. falls (Slot s) Dtack x && delivers x.answer) a t few in
    let waited = sum_after (falls (Slot s) Br) (λ x. rises (Slot s) Br x || falls (Slot s) Bbsy x) (falls (Slot s) Bbsy) (takes_ends s) a t few in
    let longest_wait = greatest_after (falls (Slot s) Br) (λ x. rises (Slot s) Br x || falls (Slot s) Bbsy x) (falls (Slot s) Bbsy) (takes_ends s) a t in
    let held = sum_after (falls (Slot s) Bbsy) (rises (Slot s) Bbsy) (rises (Slot s) Bbsy) (gives_ends s) a t few in
    let longest_hold = greatest_after (falls (Slot s) Bbsy) (rises (Slot s) Bbsy) (rises (Slot s) Bbsy) (gives_ends s) a t in
    rw (asked, tenures, cycles, answers, delivery, waited, longest_wait, held, longest_hold) refl

-- an edge that is refused, or another driver's, moves nothing
pub unmoved : (s : ℕ) (a : Answered) (t : Answers) → length t + 1 < 2 ^ 64 → ((w : Wire) → (falls (Slot s) w a ≡ false) × (rises (Slot s) w a ≡ false)) → board_tally s (a ∷ t) ≡ board_tally s t
unmoved s a t few none =
    whole s a t few ∙ rw ((none Br).0, (none Br).1, (none Bbsy).0, (none Bbsy).1, (none AddressStrobe).0, (none Dtack).0) refl

-- no edge of another driver, and none that is refused
pub refused_moves_none : (s : ℕ) (a : Answered) → is_accepted a ≡ false → (w : Wire) → (falls (Slot s) w a ≡ false) × (rises (Slot s) w a ≡ false)
refused_moves_none s a refused w = (ap (λ (o : Bool). o && is_fall_of (Slot s) w a.edge) refused, ap (λ (o : Bool). o && (not a.edge.fall && is_edge_of (Slot s) w a.edge)) refused)

pub other_moves_none : (s : ℕ) (a : Answered) → is_same_driver a.edge.driver (Slot s) ≡ false → (w : Wire) → (falls (Slot s) w a ≡ false) × (rises (Slot s) w a ≡ false)
other_moves_none s a other w = at (is_accepted a) a.edge.fall (is_same_wire a.edge.wire w) (is_same_driver a.edge.driver (Slot s)) other
  where
    at : (o f w d : Bool) → d ≡ false → ((o && (f && (w && d))) ≡ false) × ((o && (not f && (w && d))) ≡ false)
    at true true true d is = (is, refl)
    at true false true d is = (refl, is)
    at true true false d is = (refl, refl)
    at true false false d is = (refl, refl)
    at false f w d is = (refl, refl)

-- an accepted edge of the board's own
abbrev pub own : ℕ → Wire → Bool → Option Cycle → ℕ → Option Delivery → (Event → Bool) → Answered
own s w fall v k d comes = record { edge = record { driver = Slot s; wire = w; fall = fall; value = v }; rule = k; answer = Ok d; comes = comes }

after_own : (s : ℕ) (w : Wire) (fall : Bool) (v : Option Cycle) (k : ℕ) (d : Option Delivery) (comes : Event → Bool) (t : Answers) (n : ℕ) → (s == s) ≡ true
    → moved (board_tally s t) n (falls (Slot s) Br (own s w fall v k d comes)) (rises (Slot s) Br (own s w fall v k d comes)) (falls (Slot s) Bbsy (own s w fall v k d comes))
    (rises (Slot s) Bbsy (own s w fall v k d comes)) (falls (Slot s) AddressStrobe (own s w fall v k d comes)) (falls (Slot s) Dtack (own s w fall v k d comes))
    (falls (Slot s) Dtack (own s w fall v k d comes) && delivers (Ok d))
    ≡ board_after (board_tally s t) w fall n (is_some d)
after_own s Br true v k d comes t n same = rw same refl
after_own s Br false v k d comes t n same = rw same refl
after_own s Bbsy true v k d comes t n same = rw same refl
after_own s Bbsy false v k d comes t n same = rw same refl
after_own s AddressStrobe true v k d comes t n same = rw same refl
after_own s AddressStrobe false v k d comes t n same = refl
after_own s Dtack true v k None comes t n same = rw same refl
after_own s Dtack true v k (Some d) comes t n same = rw same refl
after_own s Dtack false v k d comes t n same = refl
after_own s (Bg level) true v k d comes t n same = refl
after_own s (Bg level) false v k d comes t n same = refl
after_own s Bclr true v k d comes t n same = refl
after_own s Bclr false v k d comes t n same = refl
after_own s Iack true v k d comes t n same = refl
after_own s Iack false v k d comes t n same = refl
after_own s Berr true v k d comes t n same = refl
after_own s Berr false v k d comes t n same = refl
after_own s BgOut true v k d comes t n same = refl
after_own s BgOut false v k d comes t n same = refl
after_own s Addr true v k d comes t n same = refl
after_own s Addr false v k d comes t n same = refl
after_own s DataStrobe true v k d comes t n same = refl
after_own s DataStrobe false v k d comes t n same = refl
after_own s Irq true v k d comes t n same = refl
after_own s Irq false v k d comes t n same = refl
after_own s IackOut true v k d comes t n same = refl
after_own s IackOut false v k d comes t n same = refl

moved_by : ℕ → Answered → Answers → BoardTally
moved_by s a t = moved (board_tally s t) (length t + 1) (falls (Slot s) Br a) (rises (Slot s) Br a) (falls (Slot s) Bbsy a) (rises (Slot s) Bbsy a) (falls (Slot s) AddressStrobe a)
    (falls (Slot s) Dtack a) (falls (Slot s) Dtack a && delivers a.answer)

own_is : (s : ℕ) (a : Answered) (w : Wire) (fall : Bool) (d : Option Delivery) → a.answer ≡ Ok d → a.edge.driver ≡ Slot s → a.edge.wire ≡ w → a.edge.fall ≡ fall
    → a ≡ own s w fall a.edge.value a.rule d a.comes
own_is s a w fall d answer driver wire falls_ = rw (sym answer, sym driver, sym wire, sym falls_) refl

pub own_moves : (s : ℕ) (a : Answered) (w : Wire) (fall : Bool) (d : Option Delivery) (t : Answers) → length t + 1 < 2 ^ 64 → a.answer ≡ Ok d → a.edge.driver ≡ Slot s → a.edge.wire ≡ w
    → a.edge.fall ≡ fall
    → board_after (board_tally s t) w fall (length t + 1) (is_some d) ≡ board_tally s (a ∷ t)
unfolding moved_by
own_moves s a w fall d t few answer driver wire falls_ =
    let same : (s == s) ≡ true = grind (arith, nat_tests) in
    let count : length (a ∷ t) ≡ length t + 1 = omega arith in
    sym (
    whole s a t few
    ∙ ap (λ n. moved (board_tally s t) n (falls (Slot s) Br a) (rises (Slot s) Br a) (falls (Slot s) Bbsy a) (rises (Slot s) Bbsy a) (falls (Slot s) AddressStrobe a) (falls (Slot s) Dtack a)
    (falls (Slot s) Dtack a && delivers a.answer)) count
    ∙ ap (λ x. moved_by s x t) (own_is s a w fall d answer driver wire falls_)
    ∙ after_own s w fall a.edge.value a.rule d a.comes t (length t + 1) same
    )
