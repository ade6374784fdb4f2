-- The verdict from E1, what a part answers, and the settling rules.
use Rattle.std.proofs.Common.{◌≡◌, ◌∙◌, refl, sym, ap, ℕ, Bool, true, false, List}
use Rattle.std.specs.Prelude.{◌&&◌, Ok, Err}
use Rattle.vme_model.specs.declared.refusals.Refused.{Refused}
use Rattle.vme_model.specs.declared.refusals.Refused.TheVariants.{NoSuchDriver, AlreadyThere, Rule, NotSettled, TraceFull}
use Rattle.vme_model.specs.declared.signals.Version.{Version}
use Rattle.vme_model.specs.declared.signals.Edge.{Edge}
use Rattle.vme_model.specs.Signals.{is_well_formed}
use Rattle.vme_model.specs.Plan.{Plan, has_driver}
use Rattle.vme_model.specs.History.{drive}
use Rattle.vme_model.specs.Readings.{readings}
use Rattle.vme_model.specs.Rules.{rule}
use Rattle.vme_model.specs.Settling.{settling}
use Rattle.vme_model.specs.Verdict.{Judgement, check, is_other_state, settled, verdict_but_full}
use Rattle.vme_histories.specs.Asked.{asked}

refused_before : (a b : Bool) (x y r : Refused) (rest : Judgement) → check a x (check b y (Ok tt)) ≡ Err r → check a x (check b y rest) ≡ Err r
refused_before true true x y r rest e = absurd (cc)
refused_before true false x y r rest e = e
refused_before false b x y r rest e = e

passed_before : (a b : Bool) (x y : Refused) (rest : Judgement) → check a x (check b y (Ok tt)) ≡ Ok tt → check a x (check b y rest) ≡ rest
passed_before true true x y rest e = refl
passed_before true false x y rest e = absurd (cc)
passed_before false b x y rest e = absurd (cc)

driven_where_ruled : (a : Bool) (n : ℕ) (rest : Judgement) → check a NoSuchDriver rest ≡ Err (Rule n) → a ≡ true
driven_where_ruled true n rest e = refl
driven_where_ruled false n rest e = absurd (cc)

driven_where_settled : (a : Bool) (n : ℕ) (rest : Judgement) → check a NoSuchDriver rest ≡ Err (NotSettled n) → a ≡ true
driven_where_settled true n rest e = refl
driven_where_settled false n rest e = absurd (cc)

driven_where_accepted : (a : Bool) (rest : Judgement) → check a NoSuchDriver rest ≡ Ok tt → a ≡ true
driven_where_accepted true rest e = refl
driven_where_accepted false rest e = absurd (cc)

not_full : (a b c d : Bool) (n m : ℕ) → ¬ (check a NoSuchDriver (check b AlreadyThere (check c (Rule n) (check d (NotSettled m) (Ok tt)))) ≡ Err TraceFull)
not_full false b c d n m e = cc
not_full true false c d n m e = cc
not_full true true false d n m e = cc
not_full true true true false n m e = cc
not_full true true true true n m e = cc

-- E1 asks whether a well-formed edge has a driver in the plan
pub exists_as : (p : Plan) (e : Edge) (b : Bool) → is_well_formed e ≡ true → has_driver p e.driver e.wire ≡ b → (is_well_formed e && has_driver p e.driver e.wire) ≡ b
exists_as p e b formed has = ap (λ f. f && has_driver p e.driver e.wire) formed ∙ has

-- a well-formed edge whose driver is in the plan
pub exists_by : (p : Plan) (e : Edge) → is_well_formed e ≡ true → has_driver p e.driver e.wire ≡ true → (is_well_formed e && has_driver p e.driver e.wire) ≡ true
exists_by p e formed has = exists_as p e true formed has

module _ (version : Version) (p : Plan) (h : List Edge) (e : Edge) where
  abbrev exists : Bool
  exists = is_well_formed e && has_driver p e.driver e.wire

  abbrev last : Judgement
  last = check (settled version p h e) (NotSettled (settling version p h e.wire e.fall).0) (Ok tt)

  abbrev named : Refused
  named = Rule (rule version (readings p h e.driver) e.wire e.fall e.value).0

  abbrev holds : Bool
  holds = (rule version (readings p h e.driver) e.wire e.fall e.value).1

  abbrev between : Judgement
  between = check (is_other_state (drive h e.driver e.wire) e.fall) AlreadyThere (check holds named last)

  pub no_such : exists ≡ false → Err NoSuchDriver ≡ verdict_but_full version p h e
  no_such none = sym (ap (λ b. check b NoSuchDriver between) none)

  pub refused : (r : Refused) → exists ≡ true → asked version p h e ≡ Err r → Err r ≡ verdict_but_full version p h e
  refused r some is =
      sym (refused_before (is_other_state (drive h e.driver e.wire) e.fall) holds AlreadyThere named r last is)
      ∙ sym (ap (λ b. check b NoSuchDriver between) some)

  pub passed : exists ≡ true → asked version p h e ≡ Ok tt → last ≡ verdict_but_full version p h e
  passed some is =
      sym (passed_before (is_other_state (drive h e.driver e.wire) e.fall) holds AlreadyThere named last is)
      ∙ sym (ap (λ b. check b NoSuchDriver between) some)

  -- the refusal is that of the verdict, if E1 is asked for together with what a part answers
  pub refused_asked : (r : Refused) → check exists NoSuchDriver (asked version p h e) ≡ Err r → Err r ≡ verdict_but_full version p h e
  refused_asked r is = by_driver exists refl
    where
      by_driver : (b : Bool) → exists ≡ b → Err r ≡ verdict_but_full version p h e
      by_driver true some = refused r some (sym (ap (λ b. check b NoSuchDriver (asked version p h e)) some) ∙ is)
      by_driver false none = sym is ∙ ap (λ b. check b NoSuchDriver (asked version p h e)) none ∙ no_such none

  -- what a board answers if it has the part that drives the wire, and if it does not
  pub board_asked : (b : Bool) → exists ≡ b → (answer : Judgement) → (b ≡ false → answer ≡ Err NoSuchDriver) → (b ≡ true → answer ≡ asked version p h e)
      → answer ≡ check exists NoSuchDriver (asked version p h e)
  board_asked b is answer lacks known = by_part b refl ∙ sym (ap (λ x. check x NoSuchDriver (asked version p h e)) is)
    where
      by_part : (x : Bool) → b ≡ x → answer ≡ check b NoSuchDriver (asked version p h e)
      by_part false none = lacks none ∙ sym (ap (λ x. check x NoSuchDriver (asked version p h e)) none)
      by_part true some = known some ∙ sym (ap (λ x. check x NoSuchDriver (asked version p h e)) some)

  pub passed_asked : check exists NoSuchDriver (asked version p h e) ≡ Ok tt → last ≡ verdict_but_full version p h e
  passed_asked is =
      let some = driven_where_accepted exists (asked version p h e) is in
      passed some (sym (ap (λ b. check b NoSuchDriver (asked version p h e)) some) ∙ is)

  -- an edge that is answered by anything but E1 has a driver in the plan
  pub exists_ruled : (n : ℕ) → verdict_but_full version p h e ≡ Err (Rule n) → exists ≡ true
  exists_ruled n is = driven_where_ruled exists n between is

  pub exists_settled : (n : ℕ) → verdict_but_full version p h e ≡ Err (NotSettled n) → exists ≡ true
  exists_settled n is = driven_where_settled exists n between is

  pub exists_accepted : verdict_but_full version p h e ≡ Ok tt → exists ≡ true
  exists_accepted is = driven_where_accepted exists between is

  pub never_full : ¬ (verdict_but_full version p h e ≡ Err TraceFull)
  never_full is = not_full exists (is_other_state (drive h e.driver e.wire) e.fall) holds (settled version p h e)
      (rule version (readings p h e.driver) e.wire e.fall e.value).0 (settling version p h e.wire e.fall).0 is
