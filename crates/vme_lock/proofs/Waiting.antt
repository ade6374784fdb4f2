-- What a hold shows a worker that waits or ends.
use Rattle.std.proofs.Common.{◌≡◌, ◌≢◌, ℕ, List, [], ◌∷◌, Bool, true, false, refl, sym, ap, ◌∙◌, subst, arith, length}
use Rattle.std.specs.Prelude.{◌==◌, ◌%◌, not, if◌then◌else◌, slice_get, Option, None, Result, Ok, Err}
use Rattle.std.proofs.lemmas.Bool.Decides.{nat_tests}
use Rattle.std.proofs.lemmas.Option.{slice_get-get_or}
use Rattle.std.proofs.lemmas.Nat.{mod_below}
use Rattle.vme_model.specs.declared.signals.Edge.{Edge}
use Rattle.vme_model.specs.declared.deliveries.Delivery.{Delivery}
use Rattle.vme_model.specs.declared.refusals.Refused.{Refused}
use Rattle.vme_model.specs.Signals.{is_same_driver}
use Rattle.vme_model.specs.Verdict.{State}
use Rattle.vme_model.specs.Deliveries.{answer}
use Rattle.vme_model.specs.Counts.{count}
use Rattle.vme_model.specs.Offers.{offered}
use Rattle.vme_lock.specs.declared.views.Turn.{Turn}
use Rattle.vme_lock.specs.declared.views.Lost.{Lost}
use Rattle.vme_lock.specs.declared.views.EdgeRefused.{EdgeRefused}
use Rattle.vme_lock.specs.declared.views.EdgeRefused.TheVariants as refused
use Rattle.vme_lock.specs.Seats.{Place}
use Rattle.vme_lock.specs.Holds.{OfSome, loss_of, turn_of, turn_answer, edge_answer, ending, by_step}
use Rattle.vme_lock.specs.Endings.{HasNoOffer, HasLost}
use Rattle.vme_lock.proofs.HoldAnswers.{not_lost}

-- an answer that does not end the worker
not_ended : (r : Result Turn Lost) (v : Turn) → Ok v ≡ ending r → Ok v ≡ r
not_ended (Ok u) v is = let here : v ≡ u = cc in ap (λ (x : Turn). Ok x) here
not_ended (Err l) v is = absurd (cc)

-- what a turn shows, and to which driver its edges belong
seen : (b : State) (s : Place) (t : ℕ) (v : Turn) → Ok v ≡ turn_answer b s t → (count b.history s.driver ≡ s.made) × (v ≡ turn_of b s.driver t)
seen b s t v is = not_lost (count b.history s.driver) s.made (loss_of b s) v (turn_of b s.driver t) is

not_lost_by_step : (r : Result (Option Delivery) Refused) (l : Lost) → Err (refused.Lost l) ≡ by_step r → ⊥
not_lost_by_step (Ok d) l is = cc
not_lost_by_step (Err f) l is = cc

-- a seat that is lost at an edge
apart_at_edge : (b : State) (s : Place) (e : Edge) (l : Lost) → Err (refused.Lost l) ≡ edge_answer b s e → count b.history s.driver ≢ s.made
apart_at_edge b s e l is = go (is_same_driver e.driver s.driver) (count b.history s.driver == s.made) refl is
  where
    go : (own x : Bool) → (count b.history s.driver == s.made) ≡ x →
        Err (refused.Lost l) ≡ (if not own then Err refused.NotYours else if not x then Err (refused.Lost (loss_of b s)) else by_step (answer b e)) → count b.history s.driver ≢ s.made
    go false x same is = absurd (cc)
    go true true same is = absurd (not_lost_by_step (answer b e) l is)
    go true false apart is = grind (arith, nat_tests)

pub lost_at_edge : (opened : State) (s after : Place) (e : Edge) (r : Result (Option Delivery) EdgeRefused) (l : Lost) →
    r ≡ Err (refused.Lost l) → after ≡ s → OfSome opened (λ b. r ≡ edge_answer b s e) → HasLost opened after
lost_at_edge opened s after e r l is same some =
    subst (λ (x : Place). HasLost opened x) (sym same) (some.0, some.1, some.2, apart_at_edge some.0 s e l (sym is ∙ some.3))

-- if there are offers, each turn has one
none_there : (es : List Edge) (t : ℕ) → slice_get es (t % length es) ≡ None → es ≡ []
none_there [] t none = refl
none_there (e ∷ es) t none =
    let here = slice_get-get_or (e ∷ es) (t % length (e ∷ es)) e (mod_below t (length (e ∷ es)) (omega arith)) in
    absurd (cc)

-- there is no offer
pub none_in_turn : (opened : State) (s : Place) (t total : ℕ) (v : Turn) → total ≡ v.total → v.offer ≡ None → OfSome opened (λ b. Ok v ≡ ending (turn_answer b s t)) → HasNoOffer opened s.driver total
none_in_turn opened s t total v many none some =
    let is = seen some.0 s t v (not_ended (turn_answer some.0 s t) v some.3) in
    let no_offer = none_there (offered some.0 s.driver) t (sym (ap (λ (x : Turn). x.offer) is.1) ∙ none) in
    (some.0, some.1, some.2, (sym (ap (λ (x : Turn). x.total) is.1) ∙ sym many, no_offer))
