-- The verdict on an edge that no settling rule names: `BusState::judge_requester`, `judge_interrupter`.
use Rattle.std.proofs.Common.{◌≡◌, refl, Bool, true, false, List}
use Rattle.vme_model.specs.declared.refusals.Refused.{Refused}
use Rattle.vme_model.specs.declared.refusals.Refused.TheVariants.{NoSuchDriver, AlreadyThere, Rule, NotSettled}
use Rattle.vme_model.specs.declared.signals.Version.{Version}
use Rattle.vme_model.specs.declared.signals.Edge.{Edge}
use Rattle.vme_model.specs.Plan.{Plan}
use Rattle.vme_model.specs.History.{drive}
use Rattle.vme_model.specs.Readings.{readings}
use Rattle.vme_model.specs.Rules.{rule}
use Rattle.vme_model.specs.Settling.{settling}
use Rattle.vme_model.specs.Verdict.{check, is_other_state, verdict_but_full}
use Rattle.std.specs.Prelude.{Ok}
use Rattle.vme_histories.specs.Asked.{asked, exists}

between : (there settles : Bool) (a b : Bool) (x y z : Refused) → there ≡ true → settles ≡ true → check a x (check b y (Ok tt)) ≡ check there NoSuchDriver
    (check a x (check b y (check settles z (Ok tt))))
between true true a b x y z e f = refl
between true false a b x y z e f = absurd (cc)
between false s a b x y z e f = absurd (cc)

pub asked_alone : (version : Version) (p : Plan) (h : List Edge) (e : Edge) → exists p e ≡ true → (settling version p h e.wire e.fall).1 ≡ true → asked version p h e ≡ verdict_but_full version p h e
asked_alone version p h e there settles =
    let row = rule version (readings p h e.driver) e.wire e.fall e.value in
    between (exists p e) (settling version p h e.wire e.fall).1 (is_other_state (drive h e.driver e.wire) e.fall) row.1 AlreadyThere (Rule row.0)
    (NotSettled (settling version p h e.wire e.fall).0) there settles
