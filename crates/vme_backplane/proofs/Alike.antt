-- The answers of two backplanes on which an edge's driver saw the same.
use Rattle.std.proofs.Common.{◌≡◌, ◌∙◌, refl, sym, ap, subst, ℕ, Bool, true, false, length, arith}
use Rattle.std.specs.Prelude.{◌==◌, ◌<◌, not, Ok}
use Rattle.std.proofs.lemmas.Bool.Decides.{nat_tests}
use Rattle.vme_model.specs.declared.refusals.Refused.TheVariants.{TraceFull}
use Rattle.vme_model.specs.declared.signals.Edge.{Edge}
use Rattle.vme_model.specs.Accepted.{IsAccepted}
use Rattle.vme_model.specs.Views.{view}
use Rattle.vme_model.specs.Verdict.{State, IsLegal, check, judged, verdict, verdict_but_full}
use Rattle.vme_model.proofs.Local.{legal_local}
use Rattle.vme_backplane.specs.Alike.{AnswerAlike}

has_room : (n max : ℕ) → n < max → not (n == max) ≡ true
has_room n max room = by_test (n == max) (λ e. grind (arith, nat_tests))
  where
    by_test : (b : Bool) → (b ≡ true → ⊥) → not b ≡ true
    by_test true not_true = absurd (not_true refl)
    by_test false not_true = refl

-- with room, the verdict is that without the end of the trace
not_full : (b : State) (e : Edge) → length b.history < b.max → verdict b e ≡ verdict_but_full b.version b.plan b.history e
not_full b e room = ap (λ x. judged b.version b.plan b.history e (check x TraceFull (Ok tt))) (has_room (length b.history) b.max room)

module _ (a b : State) (e : Edge) (version : a.version ≡ b.version) (plan : a.plan ≡ b.plan) where
  same_rules : verdict_but_full a.version a.plan b.history e ≡ verdict_but_full b.version b.plan b.history e
  same_rules = ap (λ x. verdict_but_full x a.plan b.history e) version ∙ ap (λ x. verdict_but_full b.version x b.history e) plan

  legal_too : IsLegal b.version b.plan b.history → IsLegal a.version a.plan b.history
  legal_too legal = subst (λ x. IsLegal x a.plan b.history) (sym version) (subst (λ x. IsLegal b.version x b.history) (sym plan) legal)

pub alike : (a b : State) (e : Edge) → IsAccepted a.plan → IsLegal a.version a.plan a.history → IsLegal b.version b.plan b.history → AnswerAlike a b e
alike a b e accepted legal other version plan room space local seen =
    let same_view = seen ∙ ap (λ x. view x b.history e.driver) (sym plan) in
    not_full a e room
    ∙ legal_local a.version a.plan a.history b.history e accepted legal (legal_too a b e version plan other) local same_view
    ∙ same_rules a b e version plan
    ∙ sym (not_full b e space)
