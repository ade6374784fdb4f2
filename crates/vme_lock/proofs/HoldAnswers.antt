-- What the tests of a hold say about its answer.
use Rattle.std.proofs.Common.{◌≡◌, ◌≢◌, ℕ, ◌≤◌, Bool, true, false, refl, sym, ap, ◌∙◌, arith, length}
use Rattle.std.specs.Prelude.{◌==◌, ◌%◌, not, if◌then◌else◌, slice_get, Ok, Err}
use Rattle.std.proofs.lemmas.Bool.{eq-eqb}
use Rattle.std.proofs.lemmas.Bool.Decides.{nat_tests}
use Rattle.std.proofs.lemmas.List.Sums.{count_by-le-length}
use Rattle.vme_model.specs.declared.signals.Driver.{Driver}
use Rattle.vme_model.specs.declared.signals.Edge.{Edge}
use Rattle.vme_model.specs.Signals.{is_same_driver}
use Rattle.vme_model.specs.Verdict.{State}
use Rattle.vme_model.specs.Deliveries.{answer}
use Rattle.vme_model.specs.Counts.{count}
use Rattle.vme_model.specs.Offers.{offered}
use Rattle.vme_model.specs.Views.{pins}
use Rattle.vme_lock.specs.declared.views.View.{View}
use Rattle.vme_lock.specs.declared.views.Turn.{Turn}
use Rattle.vme_lock.specs.declared.views.Lost.{Lost}
use Rattle.vme_lock.specs.declared.views.EdgeRefused.TheVariants as refused
use Rattle.vme_lock.specs.Seats.{Place}
use Rattle.vme_lock.specs.Holds.{is_lost, loss_of, view_of, look_answer, turn_of, turn_answer, edge_answer, by_step}

other : (a b : ℕ) → a ≢ b → (a == b) ≡ false
other a b apart = grind (arith, nat_tests)

is_lost-other : (b : State) (s : Place) → count b.history s.driver ≢ s.made → is_lost b s ≡ true
is_lost-other b s apart = ap not (other (count b.history s.driver) s.made apart)

is_lost-same : (b : State) (s : Place) → count b.history s.driver ≡ s.made → is_lost b s ≡ false
is_lost-same b s same = ap not (eq-eqb (count b.history s.driver) s.made same)

-- the driver's number is not the seat's
pub look_lost : (b : State) (s : Place) (own : ℕ) → own ≡ count b.history s.driver → own ≢ s.made → Err (record { own = own }) ≡ look_answer b s
look_lost b s own is apart =
    let found = ap (λ (x : Bool). if x then Err (loss_of b s) else Ok (view_of b s.driver)) (is_lost-other b s (λ same. apart (is ∙ same))) in
    sym (found ∙ ap (λ (n : ℕ). Err (record { own = n })) (sym is))

pub seen_is : (b : State) (d : Driver) (v : View) → v.pins ≡ pins b.plan b.history d → v.offers.items ≡ offered b d → v.own ≡ count b.history d → v.total ≡ length b.history → v ≡ view_of b d
seen_is b d v pins offers own total = λ i. record { pins = pins i; offers = record { items = offers i }; own = own i; total = total i }

-- the driver's number is the seat's
pub look_seen : (b : State) (s : Place) (v : View) → v ≡ view_of b s.driver → count b.history s.driver ≡ s.made → Ok v ≡ look_answer b s
look_seen b s v is same =
    let found : look_answer b s ≡ Ok (view_of b s.driver) = ap (λ (x : Bool). if x then Err (loss_of b s) else Ok (view_of b s.driver)) (is_lost-same b s same) in
    ap (λ (x : View). Ok x) is ∙ sym found

-- a turn is answered by L5 if the numbers differ
pub turn_lost : (b : State) (s : Place) (t own : ℕ) → own ≡ count b.history s.driver → own ≢ s.made → Err (record { own = own }) ≡ turn_answer b s t
turn_lost b s t own is apart =
    let found = ap (λ (x : Bool). if x then Err (loss_of b s) else Ok (turn_of b s.driver t)) (is_lost-other b s (λ same. apart (is ∙ same))) in
    sym (found ∙ ap (λ (n : ℕ). Err (record { own = n })) (sym is))

pub turn_is : (b : State) (d : Driver) (t : ℕ) (v : Turn) → v.offer ≡ slice_get (offered b d) (t % length (offered b d)) → v.total ≡ length b.history → v ≡ turn_of b d t
turn_is b d t v offer total = λ i. record { offer = offer i; total = total i }

pub turn_seen : (b : State) (s : Place) (t : ℕ) (v : Turn) → v ≡ turn_of b s.driver t → count b.history s.driver ≡ s.made → Ok v ≡ turn_answer b s t
turn_seen b s t v is same =
    let found : turn_answer b s t ≡ Ok (turn_of b s.driver t) = ap (λ (x : Bool). if x then Err (loss_of b s) else Ok (turn_of b s.driver t)) (is_lost-same b s same) in
    ap (λ (x : Turn). Ok x) is ∙ sym found

-- a driver has no more edges than there are
pub own_within : (b : State) (d : Driver) → count b.history d ≤ length b.history
own_within b d = count_by-le-length (λ e. is_same_driver e.driver d) b.history

-- an answer that is no loss
pub not_lost : {A : Type 0} (m n : ℕ) (l : Lost) (v w : A) → Ok v ≡ (if not (m == n) then Err l else Ok w) → (m ≡ n) × (v ≡ w)
not_lost {A} m n l v w is = go (m == n) refl is
  where
    go : (x : Bool) → (m == n) ≡ x → Ok v ≡ (if not x then Err l else Ok w) → (m ≡ n) × (v ≡ w)
    go true same is = (grind (arith, nat_tests), cc)
    go false apart is = absurd (cc)

own_edge : (b : State) (s : Place) (e : Edge) → is_same_driver e.driver s.driver ≡ true → edge_answer b s e ≡ (if is_lost b s then Err (refused.Lost (loss_of b s)) else by_step (answer b e))
own_edge b s e same =
    ap (λ (x : Bool). if not x then Err refused.NotYours else (if is_lost b s then Err (refused.Lost (loss_of b s)) else by_step (answer b e))) same

pub edge_lost : (b : State) (s : Place) (e : Edge) (own : ℕ) → is_same_driver e.driver s.driver ≡ true → own ≡ count b.history s.driver → own ≢ s.made →
    Err (refused.Lost (record { own = own })) ≡ edge_answer b s e
edge_lost b s e own same is apart =
    let read : is_lost b s ≡ true = is_lost-other b s (λ same. apart (is ∙ same)) in
    let found = ap (λ (x : Bool). if x then Err (refused.Lost (loss_of b s)) else by_step (answer b e)) read in
    sym (own_edge b s e same ∙ (found ∙ ap (λ (n : ℕ). Err (refused.Lost (record { own = n }))) (sym is)))
