-- Where a trace has room, E5 does not come: `Bus::step`, `BusState::step`.
use Rattle.std.proofs.Common.{◌≡◌, ◌∙◌, refl, sym, ap, ℕ, suc, ◌+◌, ◌≤◌, Bool, true, false, List, ◌∷◌, length, arith}
use Rattle.std.specs.Prelude.{◌==◌, not, if◌then◌else◌, Option, Result, Ok, Err, is_ok}
use Rattle.std.proofs.lemmas.Bool.Decides.{nat_tests}
use Rattle.vme_model.specs.declared.deliveries.Delivery.{Delivery}
use Rattle.vme_model.specs.declared.refusals.Refused.{Refused}
use Rattle.vme_model.specs.declared.refusals.Refused.TheVariants.{TraceFull}
use Rattle.vme_model.specs.declared.signals.Version.{Version}
use Rattle.vme_model.specs.declared.signals.Edge.{Edge}
use Rattle.vme_model.specs.Plan.{Plan}
use Rattle.vme_model.specs.Deliveries.{answer, delivery, with_delivery}
use Rattle.vme_model.specs.Verdict.{State, Judgement, check, judged, verdict, verdict_but_full, made, after}
use Rattle.vme_histories.proofs.AcceptedOffers.{has_room}
use Rattle.vme_bus.specs.Steps.{answer_but_full, kept_but_full}

verdict_with_room : (b : State) (e : Edge) → (length b.history == b.max) ≡ false → verdict b e ≡ verdict_but_full b.version b.plan b.history e
verdict_with_room b e room = ap (λ x. judged b.version b.plan b.history e (check (not x) TraceFull (Ok tt))) room

pub answer_with_room : (b : State) (e : Edge) → (length b.history == b.max) ≡ false → answer b e ≡ answer_but_full b.version b.plan b.history e
answer_with_room b e room = ap (λ v. with_delivery v (delivery b.plan b.history e)) (verdict_with_room b e room)

pub after_with_room : (b : State) (e : Edge) → (length b.history == b.max) ≡ false → after b e ≡ record b { history = kept_but_full b.version b.plan b.history e }
after_with_room b e room = ap (λ v. if is_ok v then made b e else b) (verdict_with_room b e room) ∙ inside (is_ok (verdict_but_full b.version b.plan b.history e))
  where
    inside : (x : Bool) → (if x then made b e else b) ≡ record b { history = if x then e ∷ b.history else b.history }
    inside true = refl
    inside false = refl

-- without room nothing is taken
pub after_without_room : (b : State) (e : Edge) → (length b.history == b.max) ≡ true → b ≡ after b e
after_without_room b e full = by_verdict (verdict b e) refl
  where
    by_verdict : (v : Judgement) → verdict b e ≡ v → b ≡ (if is_ok v then made b e else b)
    by_verdict (Ok u) is = let room = has_room b e is in absurd (cc)
    by_verdict (Err refused) is = refl

-- an answer is Ok where the verdict is
with_same : (v : Judgement) (d : Option Delivery) → is_ok (with_delivery v d) ≡ is_ok v
with_same (Ok u) d = refl
with_same (Err refused) d = refl

pub kept_where : (version : Version) (p : Plan) (h : List Edge) (e : Edge) (answered : Result (Option Delivery) Refused) (b : Bool) → answered ≡ answer_but_full version p h e → is_ok answered ≡ b
    → kept_but_full version p h e ≡ (if b then e ∷ h else h)
kept_where version p h e answered b is on =
    ap (λ x. if x then e ∷ h else h) (sym (with_same (verdict_but_full version p h e) (delivery p h e)) ∙ ap is_ok (sym is) ∙ on)

pub one_more : (made n max f : ℕ) → made ≡ n → made ≤ max → (n == max) ≡ false → f ≡ 1 → (made + f ≡ suc n) × (made + f ≤ max)
one_more made n max f same within room one = (omega arith, grind (arith, nat_tests))
