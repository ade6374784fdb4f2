-- The marks of a history, by the places of its edges, and the situations that they report.
use Rattle.std.specs.Prelude.{if◌then◌else◌, []}
use Rattle.std.proofs.Common.{◌≡◌, ◌+◌, ◌∷◌, ℕ, Bool, true, false, Option, Result, is_ok, length, refl, sym, ◌∙◌, ap, subst}
use Rattle.vme_model.specs.declared.signals.Edge.{Edge}
use Rattle.vme_model.specs.declared.deliveries.Delivery.{Delivery}
use Rattle.vme_model.specs.declared.refusals.Refused.{Refused}
use Rattle.vme_model.specs.Deliveries.{answer, delivery}
use Rattle.vme_model.specs.Numbered.{Numbered, numbered_with}
use Rattle.vme_model.specs.Plan.{Plan}
use Rattle.vme_model.specs.Verdict.{State, after, made, verdict}
use Rattle.vme_explain.specs.declared.marks.Marks.{Marks}
use Rattle.vme_explain.specs.Marked.{IsMarksOf}
use Rattle.vme_explain.specs.Traced.{OfTrace}
use Rattle.vme_explain.proofs.MarkedSteps.{ok_with}
use Rattle.vme_events.specs.Events.{events_of}
use Rattle.vme_events.specs.Places.{by_place}
use Rattle.vme_events.proofs.Places.{edges_placed}
use Rattle.vme_shrink_search.specs.Replies.{brought}
use Rattle.vme_shrink_search.proofs.Lists.{kept_plan}

-- the next edge, with its place
placed_next : (b : State) (e : Edge) (n : ℕ) (t : Bool) → n ≡ length b.history + 1
    → by_place (if t then made b e else b).history
    ≡ (if t then (n, e) ∷ by_place b.history else by_place b.history)
placed_next b e n true place = ap (λ i. (i, e) ∷ by_place b.history) (sym place)
placed_next b e n false place = refl

-- with one edge more
pub marked_next : (b : State) (e : Edge) (n : ℕ) (old new : Marks) → n ≡ length b.history + 1
    → IsMarksOf b.plan (by_place b.history) old
    → OfTrace b old (λ k. IsMarksOf b.plan (numbered_with b n e k) new)
    → IsMarksOf (after b e).plan (by_place (after b e).history) new
marked_next b e n old new place marked noted =
    subst (λ (p : Plan). IsMarksOf p (by_place (after b e).history) new)
    (sym (kept_plan b (e ∷ [])))
    (subst (λ (k : Numbered). IsMarksOf b.plan k new)
    (sym (placed_next b e n (is_ok (verdict b e)) place))
    (noted (by_place b.history) (edges_placed b.history) marked))

pub brought_if : (b : State) (e : Edge) (r : Result (Option Delivery) Refused) (t : Bool)
    → r ≡ answer b e → t ≡ is_ok r
    → (if t then events_of b.plan b.history e else []) ≡ brought b e
brought_if b e r t is ok =
    ap (λ (u : Bool). if u then events_of b.plan b.history e else []) (ok ∙ ap is_ok is
    ∙ ok_with (verdict b e) (delivery b.plan b.history e))
