-- What the bus and the marks say behind the edges that were followed.
use Rattle.std.proofs.Common.{◌≡◌, ℕ, ◌+◌, ◌<◌, ◌≤◌, ◌^◌, List, [], ◌∷◌, length, Bool, true, false, Option, Result, Ok, Err, is_ok, refl, sym, ◌∙◌, ap, subst, arith}
use Rattle.std.specs.Prelude.{if◌then◌else◌}
use Rattle.vme_model.specs.declared.deliveries.Delivery.{Delivery}
use Rattle.vme_model.specs.declared.refusals.Refused.{Refused}
use Rattle.vme_model.specs.declared.signals.Driver.{Driver}
use Rattle.vme_model.specs.declared.signals.Edge.{Edge}
use Rattle.vme_model.specs.declared.signals.Version.{Version}
use Rattle.vme_model.specs.Plan.{Plan}
use Rattle.vme_model.specs.History.{cycles}
use Rattle.vme_model.specs.Stands.{holder}
use Rattle.vme_model.specs.Deliveries.{with_delivery}
use Rattle.vme_model.specs.Verdict.{Judgement, State, after, verdict}
use Rattle.vme_model.specs.Numbered.{Numbered, edges_in, numbered, numbered_on, numbered_with}
use Rattle.vme_explain.specs.Marked.{IsMarksOf}
use Rattle.vme_explain.specs.Traced.{OfTrace}
use Rattle.vme_explain.proofs.Witnessed.{cycles_within}
use Rattle.vme_following.specs.declared.following.Following.{Following}
use Rattle.vme_reading.specs.Outcomes.{bench}
use Rattle.vme_following.specs.Followed.{IsAfter}
use Rattle.vme_reading.proofs.KeptEdges.{edges_on, kept_plan}

module _ (p : Plan) (v : Version) (es : List Edge) (f : Following) (is : IsAfter p v es f) where
  pub edges_are : edges_in (numbered (bench p v) es) ≡ f.bus.history
  edges_are = edges_on (bench p v) 0 [] es refl ∙ ap (λ s. s.history) (sym is.bus)

  pub plan_is : f.bus.plan ≡ p
  plan_is = ap (λ s. s.plan) is.bus ∙ kept_plan (bench p v) es

  -- what is so of all edges that the bus and the marks are of
  pub of_trace : (P : Numbered → Type 0) → OfTrace f.bus f.marks P → P (numbered (bench p v) es)
  of_trace P h = h (numbered (bench p v) es) edges_are (subst (λ (q : Plan). IsMarksOf q (numbered (bench p v) es) f.marks) (sym plan_is) is.marks)

  -- a board's cycles are few enough to be counted
  pub few_cycles : (d : Driver) → length f.bus.history < 2 ^ 64 → cycles (edges_in (numbered (bench p v) es)) d < 2 ^ 64
  few_cycles d few = subst (λ (h : List Edge). cycles h d < 2 ^ 64) (sym edges_are) (let most = cycles_within f.bus.history d in omega (arith, few, most))

  -- who holds the bus
  pub holder_is : (o : Option ℕ) → o ≡ holder f.bus.plan f.bus.history → holder p (edges_in (numbered (bench p v) es)) ≡ o
  holder_is o h = ap (λ q. holder q (edges_in (numbered (bench p v) es))) (sym plan_is) ∙ ap (holder f.bus.plan) edges_are ∙ sym h

within_one : (t : Bool) (n : ℕ) (e : Edge) (k : Numbered) → length (if t then (n, e) ∷ k else k) ≤ length k + 1
within_one true n e k = omega arith
within_one false n e k = omega arith

numbered_on_within : (b : State) (n : ℕ) (k : Numbered) (es : List Edge) → length (numbered_on b n k es) ≤ length k + length es
numbered_on_within b n k [] = omega arith
numbered_on_within b n k (e ∷ es) =
    let one = within_one (is_ok (verdict b e)) (n + 1) e k in
    let others = numbered_on_within (after b e) (n + 1) (numbered_with b (n + 1) e k) es in omega (arith, one, others)

-- no more edges are accepted than came
pub numbered_within : (p : Plan) (v : Version) (es : List Edge) → length (numbered (bench p v) es) ≤ length es
numbered_within p v es = let all = numbered_on_within (bench p v) 0 [] es in omega (arith, all)

sent_or : Option Delivery → Result (Option Delivery) Refused → Option Delivery
sent_or d (Ok sent) = sent
sent_or d (Err refused) = d

-- what an accepted edge delivers
pub sent_is : (j : Judgement) (d sent : Option Delivery) (r : Result (Option Delivery) Refused) → r ≡ Ok sent → r ≡ with_delivery j d → sent ≡ d
unfolding sent_or
sent_is (Ok u) d sent r is h = ap (sent_or d) (sym is ∙ h)
sent_is (Err refused) d sent r is h = absurd (cc (is, h))
