-- A condition that is reported for an edge fails exactly if the edge is refused.
use Rattle.std.proofs.Common.{◌≡◌, ◌∙◌, Bool, true, false, Ok, Err, refl, sym}
use Rattle.std.specs.Prelude.{is_ok}
use Rattle.std.specs.List.{list_all}
use Rattle.std.proofs.lemmas.List.Folds.{list_all-map}
use Rattle.vme_model.specs.declared.signals.Edge.{Edge}
use Rattle.vme_model.specs.Guards.{holds, conditions}
use Rattle.vme_model.specs.Verdict.{State, Judgement, verdict}
use Rattle.vme_model.specs.Failing.{tested}
use Rattle.vme_model.specs.Numbered.{Numbered}
use Rattle.vme_model.specs.Witnesses.{witnesses_of}
use Rattle.vme_model.specs.Why.{why}
use Rattle.vme_model.proofs.Guards.{fails_by_conditions, all_conditions}
use Rattle.vme_model.proofs.Failing.{none_met, fails_of_tested}

accepted_is : (j : Judgement) (c : Bool) → (j ≡ Ok tt → c ≡ true) → (c ≡ true → j ≡ Ok tt) → is_ok j ≡ c
accepted_is (Ok tt) c there back = sym (there refl)
accepted_is (Err r) true there back = absurd (let bad = back refl in cc)
accepted_is (Err r) false there back = refl

-- what is tested for an edge holds exactly if the edge is accepted
tested_holds : (b : State) (e : Edge) → is_ok (verdict b e) ≡ holds (tested b e)
tested_holds b e =
    accepted_is (verdict b e) (holds (tested b e))
    (λ ok. (fails_by_conditions (tested b e)).0 (fails_of_tested b e ∙ (none_met b e).1 ok))
    (λ held. (none_met b e).0 (sym (fails_of_tested b e) ∙ (fails_by_conditions (tested b e)).1 held))

pub why_states_verdict : (b : State) (k : Numbered) (e : Edge) → is_ok (verdict b e) ≡ list_all (λ r. r.tested.holds) (why b k e)
why_states_verdict b k e =
    tested_holds b e ∙ all_conditions (tested b e)
    ∙ sym (list_all-map (λ r. r.tested.holds) (λ t. record { tested = t; witnesses = witnesses_of b k e t.condition }) (conditions (tested b e)))
