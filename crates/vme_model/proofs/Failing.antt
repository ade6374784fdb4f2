-- An edge fails the conditions of the first guard that does not hold.
use Rattle.std.proofs.Common.{◌≡◌, ◌∙◌, refl, ap, ℕ, Bool, true, false, List, [], ◌∷◌, length}
use Rattle.std.specs.Prelude.{◌==◌, ◌&&◌, ◌++◌, ◌↔◌, not, if◌then◌else◌, Ok, Err}
use Rattle.vme_model.specs.declared.conditions.Condition.{Condition}
use Rattle.vme_model.specs.declared.conditions.Condition.TheVariants.{HasDriver, OtherState, HasRoom}
use Rattle.vme_model.specs.declared.refusals.Refused.{Refused}
use Rattle.vme_model.specs.declared.refusals.Refused.TheVariants.{NoSuchDriver, AlreadyThere, Rule, NotSettled, TraceFull}
use Rattle.vme_model.specs.declared.signals.Version.{Version}
use Rattle.vme_model.specs.declared.signals.Edge.{Edge}
use Rattle.vme_model.specs.Signals.{is_well_formed}
use Rattle.vme_model.specs.Plan.{Plan, has_driver}
use Rattle.vme_model.specs.History.{drive}
use Rattle.vme_model.specs.Readings.{readings}
use Rattle.vme_model.specs.Guards.{Guard, asks, holds, failed}
use Rattle.vme_model.specs.Rules.{guard, rule}
use Rattle.vme_model.specs.Settling.{settling, settling_guard}
use Rattle.vme_model.specs.Verdict.{State, Judgement, check, is_other_state, verdict, verdict_but_full}
use Rattle.vme_model.specs.Failing.{refused_for, unmet, unmet_but_full, all_asked, first_failed, tested_for, tested, tested_but_full}
use Rattle.vme_model.proofs.Guards.{all_held, none_failed}

-- the failing condition, if only one condition is asked
alone_of_one : (c : Condition) (b : Bool) (rest : List Condition) → (if b then rest else c ∷ []) ≡ (if b then rest else (if b then [] else c ∷ []))
alone_of_one c true rest = refl
alone_of_one c false rest = refl

module _ (version : Version) (p : Plan) (h : List Edge) (e : Edge) where
  abbrev ruled : Guard
  ruled = (guard version (readings p h e.driver) e.wire e.fall e.value).1

  abbrev settles : Guard
  settles = (settling_guard version p h e.wire e.fall).1

  abbrev answer : Bool → Bool → Bool → Bool → Bool → ℕ → ℕ → Judgement
  answer a b c d x n m = check a NoSuchDriver (check b AlreadyThere (check c (Rule n) (check d (NotSettled m) (check x TraceFull (Ok tt)))))

  none_only : (a b c d x : Bool) (n m : ℕ) → (failed ruled ≡ [] → c ≡ true) → (failed settles ≡ [] → d ≡ true) →
      refused_for version p h e (answer a b c d x n m) ≡ [] → answer a b c d x n m ≡ Ok tt
  none_only false b c d x n m r s none = absurd (cc)
  none_only true false c d x n m r s none = absurd (cc)
  none_only true true false d x n m r s none = let bad : false ≡ true = r none in absurd (cc)
  none_only true true true false x n m r s none = let bad : false ≡ true = s none in absurd (cc)
  none_only true true true true false n m r s none = absurd (cc)
  none_only true true true true true n m r s none = refl

  abbrev exists : Bool
  exists = is_well_formed e && has_driver p e.driver e.wire

  abbrev turns : Bool
  turns = is_other_state (drive h e.driver e.wire) e.fall

  abbrev number : ℕ
  number = (rule version (readings p h e.driver) e.wire e.fall e.value).0

  abbrev last_number : ℕ
  last_number = (settling version p h e.wire e.fall).0

  pub none_where_accepted : (x : Bool) →
      (refused_for version p h e (answer exists turns (holds ruled) (holds settles) x number last_number) ≡ []) ↔ (answer exists turns (holds ruled) (holds settles) x number last_number ≡ Ok tt)
  none_where_accepted x = (
    none_only exists turns (holds ruled) (holds settles) x number last_number (all_held ruled) (all_held settles),
    λ is. ap (refused_for version p h e) is,
  )

  told : (b : Bool) (r : Refused) (rest : Judgement) → refused_for version p h e (check b r rest) ≡ (if b then refused_for version p h e rest else refused_for version p h e (Err r))
  told true r rest = refl
  told false r rest = refl

  pub first_of_all : (a b x : Bool) (n m : ℕ) →
      refused_for version p h e (answer a b (holds ruled) (holds settles) x n m) ≡ first_failed (asks HasDriver a ∷ asks OtherState b ∷ ruled ∷ settles ∷ asks HasRoom x ∷ [])
  first_of_all a b x n m =
      let full = check x TraceFull (Ok tt) in
      let last = check (holds settles) (NotSettled m) full in
      let third = check (holds ruled) (Rule n) last in
      let second = check b AlreadyThere third in
      told a NoSuchDriver second
      ∙ alone_of_one HasDriver a (refused_for version p h e second)
      ∙ ap (λ t. if a then t else failed (asks HasDriver a)) (
      told b AlreadyThere third
      ∙ alone_of_one OtherState b (refused_for version p h e third)
      ∙ ap (λ t. if b then t else failed (asks OtherState b)) (
      told (holds ruled) (Rule n) last
      ∙ ap (λ t. if holds ruled then t else failed ruled) (
      told (holds settles) (NotSettled m) full
      ∙ ap (λ t. if holds settles then t else failed settles) (
      told x TraceFull (Ok tt) ∙ alone_of_one HasRoom x []))))

  -- among all that is tested, the same conditions fail
  none_before : (c : Bool) (xs : List Condition) → (c ≡ true → failed ruled ≡ []) → c ≡ true → failed ruled ++ xs ≡ xs
  none_before c xs held is = ap (λ t. t ++ xs) (held is)

  fails_so : (a b c d x : Bool) (n m : ℕ) → (c ≡ true → failed ruled ≡ []) → (d ≡ true → failed settles ≡ []) →
      failed (tested_for version p h e (answer a b c d x n m)) ≡ refused_for version p h e (answer a b c d x n m)
  fails_so false b c d x n m r s = refl
  fails_so true false c d x n m r s = refl
  fails_so true true false d x n m r s = refl
  fails_so true true true false x n m r s = none_before true (failed settles) r refl
  fails_so true true true true false n m r s =
      ap (λ t. (t ++ failed settles) ++ HasRoom ∷ []) (r refl) ∙ ap (λ t. t ++ HasRoom ∷ []) (s refl)
  fails_so true true true true true n m r s = none_before true (failed settles) r refl ∙ s refl

  pub tested_fail : (x : Bool) →
      failed (tested_for version p h e (answer exists turns (holds ruled) (holds settles) x number last_number))
      ≡ refused_for version p h e (answer exists turns (holds ruled) (holds settles) x number last_number)
  tested_fail x = fails_so exists turns (holds ruled) (holds settles) x number last_number (none_failed ruled) (none_failed settles)

pub none_met : (b : State) (e : Edge) → (unmet b e ≡ []) ↔ (verdict b e ≡ Ok tt)
none_met b e = none_where_accepted b.version b.plan b.history e (not (length b.history == b.max))

pub none_met_but_full : (version : Version) (p : Plan) (h : List Edge) (e : Edge) → (unmet_but_full version p h e ≡ []) ↔ (verdict_but_full version p h e ≡ Ok tt)
none_met_but_full version p h e = none_where_accepted version p h e true

pub first_unmet : (b : State) (e : Edge) → unmet b e ≡ first_failed (all_asked b e)
first_unmet b e =
    first_of_all b.version b.plan b.history e (exists b.version b.plan b.history e) (turns b.version b.plan b.history e) (not (length b.history == b.max))
    (number b.version b.plan b.history e) (last_number b.version b.plan b.history e)

pub fails_of_tested : (b : State) (e : Edge) → failed (tested b e) ≡ unmet b e
fails_of_tested b e = tested_fail b.version b.plan b.history e (not (length b.history == b.max))

pub fails_of_tested_but_full : (version : Version) (p : Plan) (h : List Edge) (e : Edge) → failed (tested_but_full version p h e) ≡ unmet_but_full version p h e
fails_of_tested_but_full version p h e = tested_fail version p h e true
