-- A board asks while its request stands and is not met, and holds while its BBSY* is low.
use Rattle.std.proofs.Common.{◌≡◌, ◌∙◌, refl, sym, ap, subst, ℕ, ◌+◌, Bool, true, false, List, [], ◌∷◌, ◌++◌, length, Option, Some, None, Ok, arith}
use Rattle.std.specs.Prelude.{◌&&◌, ◌||◌, not, is_some, is_ok, if◌then◌else◌}
use Rattle.vme_model.specs.declared.signals.Driver.{Driver}
use Rattle.vme_model.specs.declared.signals.Driver.TheVariants.{Controller, Slot}
use Rattle.vme_model.specs.declared.signals.Wire.{Wire}
use Rattle.vme_model.specs.declared.signals.Wire.TheVariants.{Br, BgOut, Bbsy, Addr, AddressStrobe}
use Rattle.vme_model.specs.declared.signals.Edge.{Edge}
use Rattle.vme_model.specs.Signals.{is_same_driver, is_same_wire, is_edge_of, is_fall_of}
use Rattle.vme_model.specs.History.{drive}
use Rattle.vme_model.specs.Readings.{grant_in, readings}
use Rattle.vme_model.specs.Rules.{release_guard}
use Rattle.vme_model.specs.Guards.{holds}
use Rattle.vme_model.specs.Verdict.{State, verdict, made, after, kept}
use Rattle.vme_model.specs.Deliveries.{with_delivery}
use Rattle.vme_model.proofs.AllowedEdges.{Passed}
use Rattle.vme_model.proofs.Bools.{and_left, and_right, not_true, same_number, never}
use Rattle.vme_summary.specs.Tally.{Answers, answered_edge, answered_on, answered, is_accepted, falls, rises, fall_count, spanned, asks_since, holds_since, waits}
use Rattle.vme_summary.proofs.Counted.{count_step}
use Rattle.vme_summary.proofs.OneBoard.{refused_moves_none}
use Rattle.vme_summary.proofs.Passing.{passed}

-- an edge of that driver's wire
same_driver : (d e : Driver) → is_same_driver d e ≡ true → d ≡ e
same_driver Controller Controller is = refl
same_driver (Slot s) (Slot t) is = ap (λ n. Slot n) (same_number s t is)
same_driver Controller (Slot t) is = cc
same_driver (Slot s) Controller is = cc

same_br : (w : Wire) → is_same_wire w Br ≡ true → w ≡ Br
same_br Br is = refl
same_br w is = cc

same_bbsy : (w : Wire) → is_same_wire w Bbsy ≡ true → w ≡ Bbsy
same_bbsy Bbsy is = refl
same_bbsy w is = cc

one_wire : (w : Wire) (own : Bool) → ((is_same_wire w Br && own) && (is_same_wire w Bbsy && own)) ≡ false
one_wire Br true = refl
one_wire Br false = refl
one_wire w own = refl

-- what has to hold of the board's own request and BBSY* before an edge of them
module _ (b : State) (s : ℕ) where
  at_slot : (d : Driver) (w x : Wire) (f g : Bool) (v : _) → d ≡ Slot s → w ≡ x → f ≡ g → Passed b.version b.plan b.history d w f v → Passed b.version b.plan b.history (Slot s) x g v
  at_slot d w x f g v driver wire fall it =
      subst (λ y. Passed b.version b.plan b.history (Slot s) x y v) fall (subst (λ y. Passed b.version b.plan b.history (Slot s) y f v) wire
      (subst (λ y. Passed b.version b.plan b.history y w f v) driver it))

  module _ (e : Edge) (accepted : is_accepted (answered_edge b e) ≡ true) where
    of_bbsy : (g : Bool) → is_edge_of (Slot s) Bbsy e ≡ true → e.fall ≡ g → Passed b.version b.plan b.history (Slot s) Bbsy g e.value
    of_bbsy g is fall =
        at_slot e.driver e.wire Bbsy e.fall g e.value
        (same_driver e.driver (Slot s) (and_right (is_same_wire e.wire Bbsy) (is_same_driver e.driver (Slot s)) is))
        (same_bbsy e.wire (and_left (is_same_wire e.wire Bbsy) (is_same_driver e.driver (Slot s)) is)) fall (passed b e accepted)

    -- a request falls while BBSY* is high
    asks_high : is_edge_of (Slot s) Br e ≡ true → e.fall ≡ true → drive b.history (Slot s) Bbsy ≡ false
    asks_high is fall =
        not_true (drive b.history (Slot s) Bbsy) (at_slot e.driver e.wire Br e.fall true e.value
        (same_driver e.driver (Slot s) (and_right (is_same_wire e.wire Br) (is_same_driver e.driver (Slot s)) is))
        (same_br e.wire (and_left (is_same_wire e.wire Br) (is_same_driver e.driver (Slot s)) is)) fall (passed b e accepted)).rule

    -- BBSY* falls while the request is low, and rises while it is high
    takes_low : is_edge_of (Slot s) Bbsy e ≡ true → e.fall ≡ true → drive b.history (Slot s) Br ≡ true
    takes_low is fall =
        and_right (grant_in b.plan b.history (Slot s) && not (drive b.history (Slot s) BgOut)) (drive b.history (Slot s) Br) (of_bbsy true is fall).rule

    gives_high : is_edge_of (Slot s) Bbsy e ≡ true → e.fall ≡ false → drive b.history (Slot s) Br ≡ false
    gives_high is fall =
        let own = not (drive b.history (Slot s) Br) in
        let arrived = not (grant_in b.plan b.history (Slot s)) in
        let free = not (drive b.history (Slot s) Addr) || drive b.history (Slot s) AddressStrobe in
        let parts = and_left ((own && arrived) && free) (holds (release_guard (readings b.plan b.history (Slot s)))) (of_bbsy false is fall).rule in
        not_true (drive b.history (Slot s) Br) (and_left own arrived (and_left (own && arrived) free parts))

    moves : (g : Bool) → is_edge_of (Slot s) Bbsy e ≡ true → e.fall ≡ g → drive b.history (Slot s) Bbsy ≡ not g
    moves g is fall = (of_bbsy g is fall).before

-- x and y are the request and BBSY* before an edge; r and u say whether it is one of them, and f its fall
asks_after : (r u f x y asks unasks takes : Bool) (o : Option ℕ) (n : ℕ) → asks ≡ (f && r) → unasks ≡ (not f && r) → takes ≡ (f && u) → (r && u) ≡ false
    → (r ≡ true → f ≡ true → y ≡ false) → (u ≡ true → f ≡ true → x ≡ true) → (u ≡ true → f ≡ false → x ≡ false) → is_some o ≡ (x && not y)
    → is_some (if asks then Some n else (if unasks || takes then None else o)) ≡ ((if r then f else x) && not (if u then f else y))
asks_after r u f x y asks unasks takes o n asks_is unasks_is takes_is apart high low free is = rw (asks_is, unasks_is, takes_is) (at r u f apart high low free)
  where
    at : (r u f : Bool) → (r && u) ≡ false → (r ≡ true → f ≡ true → y ≡ false) → (u ≡ true → f ≡ true → x ≡ true) → (u ≡ true → f ≡ false → x ≡ false)
        → is_some (if f && r then Some n else (if (not f && r) || (f && u) then None else o)) ≡ ((if r then f else x) && not (if u then f else y))
    at true true f apart high low free = absurd (never (sym apart))
    at true false true apart high low free = rw (high refl refl) refl
    at true false false apart high low free = refl
    at false true true apart high low free = rw (low refl refl) refl
    at false true false apart high low free = is ∙ rw (free refl refl) refl
    at false false true apart high low free = is
    at false false false apart high low free = is

holds_after : (u f y takes gives : Bool) (o : Option ℕ) (n : ℕ) → takes ≡ (f && u) → gives ≡ (not f && u) → is_some o ≡ y
    → is_some (if takes then Some n else (if gives then None else o)) ≡ (if u then f else y)
holds_after u f y takes gives o n takes_is gives_is is = rw (takes_is, gives_is) (at u f)
  where
    at : (u f : Bool) → is_some (if f && u then Some n else (if not f && u then None else o)) ≡ (if u then f else y)
    at true true = refl
    at true false = refl
    at false true = is
    at false false = is

one_wait : (n : ℕ) (o : Option ℕ) (ns : List ℕ) → is_some o ≡ true → length (spanned n o ++ ns) ≡ 1 + length ns
one_wait n None ns is = absurd (never is)
one_wait n (Some m) ns is = omega arith

waits_after : (takes : Bool) (n k : ℕ) (o : Option ℕ) (ns : List ℕ) → (takes ≡ true → is_some o ≡ true) → length ns ≡ k
    → length ((if takes then spanned n o else []) ++ ns) ≡ (if takes then 1 else 0) + k
waits_after true n k o ns asks before = one_wait n o ns (asks refl) ∙ ap (λ m. 1 + m) before
waits_after false n k o ns asks before = omega (arith, before)

-- what is printed about a board after a history
pub record IsReported (s : ℕ) (h : List Edge) (t : Answers) : Type 0 where
  pub asks : is_some (asks_since s t) ≡ (drive h (Slot s) Br && not (drive h (Slot s) Bbsy))
  pub holds : is_some (holds_since s t) ≡ drive h (Slot s) Bbsy
  pub waits : length (waits s t) ≡ fall_count Bbsy s t

accepted_reported : (s : ℕ) (b : State) (e : Edge) (t : Answers) → is_accepted (answered_edge b e) ≡ true → IsReported s b.history t → IsReported s (e ∷ b.history) (answered_edge b e ∷ t)
accepted_reported s b e t accepted is =
    let a = answered_edge b e in
    let fallen : (w : Wire) → falls (Slot s) w a ≡ is_fall_of (Slot s) w e = λ w. ap (λ (o : Bool). o && is_fall_of (Slot s) w e) accepted in
    let risen : (w : Wire) → rises (Slot s) w a ≡ (not e.fall && is_edge_of (Slot s) w e) = λ w. ap (λ (o : Bool). o && (not e.fall && is_edge_of (Slot s) w e)) accepted in
    record {
      asks = asks_after (is_edge_of (Slot s) Br e) (is_edge_of (Slot s) Bbsy e) e.fall (drive b.history (Slot s) Br) (drive b.history (Slot s) Bbsy) (falls (Slot s) Br a) (rises (Slot s) Br a)
          (falls (Slot s) Bbsy a) (asks_since s t) (length (a ∷ t)) (fallen Br) (risen Br) (fallen Bbsy) (one_wire e.wire (is_same_driver e.driver (Slot s))) (asks_high b s e accepted)
          (takes_low b s e accepted) (gives_high b s e accepted) is.asks;
      holds = holds_after (is_edge_of (Slot s) Bbsy e) e.fall (drive b.history (Slot s) Bbsy) (falls (Slot s) Bbsy a) (rises (Slot s) Bbsy a) (holds_since s t) (length (a ∷ t)) (fallen Bbsy)
          (risen Bbsy) is.holds;
      waits = waits_after (falls (Slot s) Bbsy a) (length (a ∷ t)) (fall_count Bbsy s t) (asks_since s t) (waits s t) (λ takes. asking (sym (fallen Bbsy) ∙ takes)) is.waits
          ∙ sym (count_step (falls (Slot s) Bbsy) a t);
    }
  where
    asking : is_fall_of (Slot s) Bbsy e ≡ true → is_some (asks_since s t) ≡ true
    asking takes =
        let own = and_right e.fall (is_edge_of (Slot s) Bbsy e) takes in
        let fall = and_left e.fall (is_edge_of (Slot s) Bbsy e) takes in
        is.asks ∙ rw (takes_low b s e accepted own fall, moves b s e accepted true own fall) refl

refused_reported : (s : ℕ) (b : State) (e : Edge) (t : Answers) → is_accepted (answered_edge b e) ≡ false → IsReported s b.history t → IsReported s b.history (answered_edge b e ∷ t)
refused_reported s b e t refused is =
    let a = answered_edge b e in
    let none = refused_moves_none s a refused in
    record {
      asks = ap (λ (x : Bool). is_some (if x then Some (length (a ∷ t)) else (if rises (Slot s) Br a || falls (Slot s) Bbsy a then None else asks_since s t))) (none Br).0
          ∙ ap (λ (x : Bool). is_some (if x || falls (Slot s) Bbsy a then None else asks_since s t)) (none Br).1
          ∙ ap (λ (x : Bool). is_some (if x then None else asks_since s t)) (none Bbsy).0 ∙ is.asks;
      holds = ap (λ (x : Bool). is_some (if x then Some (length (a ∷ t)) else (if rises (Slot s) Bbsy a then None else holds_since s t))) (none Bbsy).0
          ∙ ap (λ (x : Bool). is_some (if x then None else holds_since s t)) (none Bbsy).1 ∙ is.holds;
      waits = waits_after (falls (Slot s) Bbsy a) (length (a ∷ t)) (fall_count Bbsy s t) (asks_since s t) (waits s t) (λ takes. absurd (never (sym (none Bbsy).0 ∙ takes))) is.waits
          ∙ sym (count_step (falls (Slot s) Bbsy) a t);
    }

one_reported : (s : ℕ) (b : State) (e : Edge) (t : Answers) → IsReported s b.history t → IsReported s (after b e).history (answered_edge b e ∷ t)
one_reported s b e t is = at (is_accepted (answered_edge b e)) refl (is_ok (verdict b e)) refl
  where
    same : (v : _) (d : _) → is_ok (with_delivery v d) ≡ is_ok v
    same (Ok done) d = refl
    same v d = refl

    at : (x : Bool) → is_accepted (answered_edge b e) ≡ x → (y : Bool) → is_ok (verdict b e) ≡ y → IsReported s (if y then made b e else b).history (answered_edge b e ∷ t)
    at true accepted true done = accepted_reported s b e t accepted is
    at false refused false done = refused_reported s b e t refused is
    at true accepted false done = absurd (never (sym done ∙ sym (same (verdict b e) _) ∙ accepted))
    at false refused true done = absurd (never (sym refused ∙ same (verdict b e) _ ∙ done))

all_reported : (s : ℕ) (b : State) (t : Answers) (es : List Edge) → IsReported s b.history t → IsReported s (kept b es).history (answered_on b t es)
all_reported s b t [] is = is
all_reported s b t (e ∷ es) is = all_reported s (after b e) (answered_edge b e ∷ t) es (one_reported s b e t is)

pub known : (s : ℕ) (b : State) (es : List Edge) → b.history ≡ [] → IsReported s (kept b es).history (answered b es)
known s b es none = all_reported s b [] es (subst (λ h. IsReported s h []) (sym none) (record { asks = refl; holds = refl; waits = refl }))
