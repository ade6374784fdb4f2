-- Every accepted edge is counted for one rule, every refused one for one refusal, and every tenure for
-- one board.
use Rattle.std.proofs.Common.{◌≡◌, ◌∙◌, refl, sym, ap, ℕ, zero, suc, ◌+◌, ◌<◌, ◌≤◌, Bool, true, false, List, [], ◌∷◌, ◌++◌, Option, Ok, Err, inl, inr, arith}
use Rattle.std.specs.Prelude.{◌==◌, ◌&&◌, not, count_by, sum_by, map, is_ok, if◌then◌else◌}
use Rattle.std.proofs.lemmas.Bool.{cases_eq}
use Rattle.std.proofs.lemmas.Bool.Decides.{nat_tests}
use Rattle.std.proofs.lemmas.List.Sums.{sum_by-cons, sum_by-append}
use Rattle.vme_model.specs.declared.deliveries.Delivery.{Delivery}
use Rattle.vme_model.specs.declared.refusals.Refused.{Refused}
use Rattle.vme_model.specs.declared.refusals.Refused.TheVariants.{NoSuchDriver, AlreadyThere, Rule, NotSettled, TraceFull}
use Rattle.vme_model.specs.declared.signals.Version.{Version}
use Rattle.vme_model.specs.declared.signals.Driver.{Driver}
use Rattle.vme_model.specs.declared.signals.Driver.TheVariants.{Controller, Slot}
use Rattle.vme_model.specs.declared.signals.Wire.{Wire}
use Rattle.vme_model.specs.declared.signals.Wire.TheVariants.{Bg, Bclr, Iack, Berr, Br, BgOut, Bbsy, Addr, AddressStrobe, DataStrobe, Irq, IackOut, Dtack}
use Rattle.vme_model.specs.declared.signals.Edge.{Edge}
use Rattle.vme_model.specs.Signals.{has_wire, is_same_wire, is_same_driver, is_slot}
use Rattle.vme_model.specs.Plan.{Plan, up_to}
use Rattle.vme_model.specs.History.{drive}
use Rattle.vme_model.specs.Readings.{readings}
use Rattle.vme_model.specs.Guards.{holds}
use Rattle.vme_model.specs.Rules.{rule}
use Rattle.vme_model.specs.Settling.{settling}
use Rattle.vme_model.specs.Verdict.{State, check, driver_guard, state_guard, room_guard, after}
use Rattle.vme_model.specs.Deliveries.{delivery, with_delivery}
use Rattle.vme_model.proofs.Bools.{never}
use Rattle.vme_summary.specs.Summary.{refusals}
use Rattle.vme_summary.specs.Tally.{Answer, Answered, Answers, answered_edge, answered_on, answered, is_accepted, accepted, refused, passed_by, is_refusal, refused_for, falls, board_tally}
use Rattle.vme_summary.specs.Tallied.{rule_number}
use Rattle.vme_summary.proofs.Counted.{count_step}
use Rattle.vme_summary.proofs.OneMore.{numbered}
use Rattle.vme_summary.proofs.Passing.{passed}

-- counts of several kinds, and what an edge adds to all of them
counts_step : {K : Type 0} (p : K → Answered → Bool) (a : Answered) (t : Answers) (ks : List K)
    → sum_by (λ k. count_by (p k) (a ∷ t)) ks ≡ sum_by (λ k. if p k a then 1 else 0) ks + sum_by (λ k. count_by (p k) t) ks
counts_step p a t [] = omega arith
counts_step p a t (k ∷ ks) =
    let all = sum_by-cons (λ k. count_by (p k) (a ∷ t)) k ks in
    let one = sum_by-cons (λ k. if p k a then 1 else 0) k ks in
    let rest = sum_by-cons (λ k. count_by (p k) t) k ks in
    let here = count_step (p k) a t in
    let others = counts_step p a t ks in
    omega (arith, all, one, rest, here, others)

-- counts of several kinds share those that q counts, if each such edge is of one kind
module _ {K : Type 0} (p : K → Answered → Bool) (q : Answered → Bool) (ks : List K) (share : (b : State) (e : Edge)
    → sum_by (λ k. if p k (answered_edge b e) then 1 else 0) ks ≡ (if q (answered_edge b e) then 1 else 0)) where
  one_more : (b : State) (e : Edge) (t : Answers) → sum_by (λ k. count_by (p k) t) ks ≡ count_by q t → sum_by (λ k. count_by (p k) (answered_edge b e ∷ t)) ks ≡ count_by q (answered_edge b e ∷ t)
  one_more b e t before =
      let a = answered_edge b e in
      counts_step p a t ks
      ∙ ap (λ n. n + sum_by (λ k. count_by (p k) t) ks) (share b e)
      ∙ ap (λ n. (if q a then 1 else 0) + n) before ∙ sym (count_step q a t)

  all_on : (b : State) (t : Answers) (es : List Edge) → sum_by (λ k. count_by (p k) t) ks ≡ count_by q t → sum_by (λ k. count_by (p k) (answered_on b t es)) ks ≡ count_by q (answered_on b t es)
  all_on b t [] before = before
  all_on b t (e ∷ es) before = all_on (after b e) (answered_edge b e ∷ t) es (one_more b e t before)

  zeros : (ks : List K) → sum_by (λ k. count_by (p k) []) ks ≡ 0
  zeros [] = refl
  zeros (k ∷ ks) = let all = sum_by-cons (λ k. count_by (p k) []) k ks in let rest = zeros ks in omega (arith, all, rest)

  shared : (b : State) (es : List Edge) → sum_by (λ k. count_by (p k) (answered b es)) ks ≡ count_by q (answered b es)
  shared b es = all_on b [] es (zeros ks)

-- one of the numbers from 1 to 26 is that of its rule
one_rule : (o : Bool) (w : Wire) (fall : Bool) → sum_by (λ k. if o && rule_number w fall == k then 1 else 0) (up_to 26) ≡ (if o then 1 else 0)
one_rule false w fall = refl
one_rule true (Bg level) true = refl
one_rule true (Bg level) false = refl
one_rule true Bclr true = refl
one_rule true Bclr false = refl
one_rule true Iack true = refl
one_rule true Iack false = refl
one_rule true Berr true = refl
one_rule true Berr false = refl
one_rule true Br true = refl
one_rule true Br false = refl
one_rule true BgOut true = refl
one_rule true BgOut false = refl
one_rule true Bbsy true = refl
one_rule true Bbsy false = refl
one_rule true Addr true = refl
one_rule true Addr false = refl
one_rule true AddressStrobe true = refl
one_rule true AddressStrobe false = refl
one_rule true DataStrobe true = refl
one_rule true DataStrobe false = refl
one_rule true Irq true = refl
one_rule true Irq false = refl
one_rule true IackOut true = refl
one_rule true IackOut false = refl
one_rule true Dtack true = refl
one_rule true Dtack false = refl

pub by_one_rule_each : (b : State) (es : List Edge) → sum_by (λ k. passed_by k (answered b es)) (up_to 26) ≡ accepted (answered b es)
by_one_rule_each = shared (λ k a. is_accepted a && a.rule == k) is_accepted (up_to 26) (λ b e.
    ap (λ n. sum_by (λ k. if is_accepted (answered_edge b e) && n == k then 1 else 0) (up_to 26)) (numbered b.version (readings b.plan b.history e.driver) e.wire e.fall e.value)
    ∙ one_rule (is_accepted (answered_edge b e)) e.wire e.fall)

-- how many of the refusals that are counted an answer is
abbrev pub known : List Refused
known = map (λ k. Rule k) (up_to 26) ++ refusals

abbrev as_counted : Answer → ℕ
as_counted x = sum_by (λ r. if is_refusal r x then 1 else 0) known

counted_rule : (w : Wire) (fall : Bool) → as_counted (Err (Rule (rule_number w fall))) ≡ 1
counted_rule (Bg level) true = refl
counted_rule (Bg level) false = refl
counted_rule Bclr true = refl
counted_rule Bclr false = refl
counted_rule Iack true = refl
counted_rule Iack false = refl
counted_rule Berr true = refl
counted_rule Berr false = refl
counted_rule Br true = refl
counted_rule Br false = refl
counted_rule BgOut true = refl
counted_rule BgOut false = refl
counted_rule Bbsy true = refl
counted_rule Bbsy false = refl
counted_rule Addr true = refl
counted_rule Addr false = refl
counted_rule AddressStrobe true = refl
counted_rule AddressStrobe false = refl
counted_rule DataStrobe true = refl
counted_rule DataStrobe false = refl
counted_rule Irq true = refl
counted_rule Irq false = refl
counted_rule IackOut true = refl
counted_rule IackOut false = refl
counted_rule Dtack true = refl
counted_rule Dtack false = refl

-- a settling rule that fails is S1 to S4
counted_settling : (version : Version) (p : Plan) (h : List Edge) (w : Wire) (fall : Bool) → (settling version p h w fall).1 ≡ false → as_counted (Err (NotSettled (settling version p h w fall).0)) ≡ 1
counted_settling version p h AddressStrobe true fails = refl
counted_settling version p h Berr true fails = refl
counted_settling version p h (Bg n) true fails = refl
counted_settling version p h (Bg n) false fails = refl
counted_settling version p h w fall fails = cc

counted_once : (named moves ruled settled room : Bool) (k m : ℕ) (d : Option Delivery) → as_counted (Err (Rule k)) ≡ 1 → (settled ≡ false → as_counted (Err (NotSettled m)) ≡ 1)
    → as_counted (with_delivery (check named NoSuchDriver (check moves AlreadyThere (check ruled (Rule k) (check settled (NotSettled m) (check room TraceFull (Ok tt)))))) d)
    ≡ (if not (is_ok (with_delivery (check named NoSuchDriver (check moves AlreadyThere (check ruled (Rule k) (check settled (NotSettled m) (check room TraceFull (Ok tt)))))) d)) then 1 else 0)
counted_once false moves ruled settled room k m d rules settles = refl
counted_once true false ruled settled room k m d rules settles = refl
counted_once true true false settled room k m d rules settles = rules
counted_once true true true false room k m d rules settles = settles refl
counted_once true true true true false k m d rules settles = refl
counted_once true true true true true k m d rules settles = refl

pub by_one_refusal_each : (b : State) (es : List Edge) → sum_by (λ r. refused_for r (answered b es)) known ≡ refused (answered b es)
by_one_refusal_each = shared (λ r a. is_refusal r a.answer) (λ a. not (is_accepted a)) known (λ b e.
    let own = rule b.version (readings b.plan b.history e.driver) e.wire e.fall e.value in
    let settles = settling b.version b.plan b.history e.wire e.fall in
    counted_once (holds (driver_guard b.plan e)) (holds (state_guard (drive b.history e.driver e.wire) e.fall)) own.1 settles.1 (holds (room_guard b)) own.0 settles.0 (delivery b.plan b.history e)
    (ap (λ n. as_counted (Err (Rule n))) (numbered b.version (readings b.plan b.history e.driver) e.wire e.fall e.value) ∙ counted_rule e.wire e.fall)
    (counted_settling b.version b.plan b.history e.wire e.fall))

-- a number is one of 1 to n once, if it is there
not_above : (s n : ℕ) → n < s → sum_by (λ k. if s == k then 1 else 0) (up_to n) ≡ 0
not_above s zero above = refl
not_above s (suc n) above =
    let all = sum_by-append (λ k. if s == k then 1 else 0) (up_to n) (suc n ∷ []) in
    let before = not_above s n (omega (arith, above)) in
    let apart : (s == suc n) ≡ false = grind (arith, nat_tests, above) in
    let last : sum_by (λ k. if s == k then 1 else 0) (suc n ∷ []) ≡ 0 = ap (λ (x : Bool). 0 + (if x then 1 else 0)) apart in
    omega (arith, all, before, last)

once : (s n : ℕ) → 1 ≤ s → s ≤ n → sum_by (λ k. if s == k then 1 else 0) (up_to n) ≡ 1
once s zero least most = absurd (omega (arith, least, most))
once s (suc n) least most =
    let all = sum_by-append (λ k. if s == k then 1 else 0) (up_to n) (suc n ∷ []) in
    elim (cases_eq s (suc n)) [
      | inl same ↦
          let before = not_above s n (omega (arith, same)) in
          let here : (s == suc n) ≡ true = grind (arith, nat_tests, same) in
          let last : sum_by (λ k. if s == k then 1 else 0) (suc n ∷ []) ≡ 1 = ap (λ (x : Bool). 0 + (if x then 1 else 0)) here in
          omega (arith, all, before, last)
      | inr other ↦
          let before = once s n least (grind (arith, most, other)) in
          let apart : (s == suc n) ≡ false = grind (arith, nat_tests, other) in
          let last : sum_by (λ k. if s == k then 1 else 0) (suc n ∷ []) ≡ 0 = ap (λ (x : Bool). 0 + (if x then 1 else 0)) apart in
          omega (arith, all, before, last)
    ]

-- an accepted fall of BBSY* is of one slot's board
takes_once : (o f w : Bool) (u : Driver) → (o ≡ true → w ≡ true → has_wire u Bbsy ≡ true) → sum_by (λ s. if o && (f && (w && is_same_driver u (Slot s))) then 1 else 0) (up_to 21)
    ≡ (if o && (f && w) then 1 else 0)
takes_once false f w u stands = refl
takes_once true false w u stands = refl
takes_once true true false u stands = refl
takes_once true true true Controller stands = absurd (never (stands refl refl))
takes_once true true true (Slot s) stands = let slot : is_slot s ≡ true = stands refl refl in once s 21 (grind (arith, nat_tests, slot)) (grind (arith, nat_tests, slot))

abbrev pub takes_bus : Answered → Bool
takes_bus a = is_accepted a && (a.edge.fall && is_same_wire a.edge.wire Bbsy)

pub by_one_board_each : (b : State) (es : List Edge) → sum_by (λ s. (board_tally s (answered b es)).tenures) (up_to 21) ≡ count_by takes_bus (answered b es)
by_one_board_each = shared (λ s a. falls (Slot s) Bbsy a) takes_bus (up_to 21) (λ b e.
    takes_once (is_accepted (answered_edge b e)) e.fall (is_same_wire e.wire Bbsy) e.driver (λ ok busy. stands e.driver e.wire busy (passed b e ok).wire))
  where
    stands : (u : Driver) (w : Wire) → is_same_wire w Bbsy ≡ true → has_wire u w ≡ true → has_wire u Bbsy ≡ true
    stands u Bbsy busy there = there
    stands u w busy there = cc
