-- The verdict with the end of the trace, from that without.
use Rattle.std.proofs.Common.{◌≡◌, refl, Bool, true, false, List}
use Rattle.std.specs.Prelude.{◌&&◌, Ok, Err}
use Rattle.vme_model.specs.declared.refusals.Refused.{Refused}
use Rattle.vme_model.specs.declared.refusals.Refused.TheVariants.{NoSuchDriver, AlreadyThere, Rule, NotSettled}
use Rattle.vme_model.specs.declared.signals.Version.{Version}
use Rattle.vme_model.specs.declared.signals.Edge.{Edge}
use Rattle.vme_model.specs.Signals.{is_well_formed}
use Rattle.vme_model.specs.Plan.{Plan, has_driver}
use Rattle.vme_model.specs.History.{drive}
use Rattle.vme_model.specs.Readings.{readings}
use Rattle.vme_model.specs.Rules.{rule}
use Rattle.vme_model.specs.Settling.{settling}
use Rattle.vme_model.specs.Verdict.{Judgement, check, is_other_state, settled, judged, verdict_but_full}

refused_by : (b : Bool) (x r : Refused) (j k : Judgement) → (j ≡ Err r → k ≡ Err r) → check b x j ≡ Err r → check b x k ≡ Err r
refused_by true x r j k on e = on e
refused_by false x r j k on e = e

passed_by : (b : Bool) (x : Refused) (j k rest : Judgement) → (j ≡ Ok tt → k ≡ rest) → check b x j ≡ Ok tt → check b x k ≡ rest
passed_by true x j k rest on e = on e
passed_by false x j k rest on e = absurd (cc)

four_refused : (a b c d : Bool) (w x y z r : Refused) (rest : Judgement) → check a w (check b x (check c y (check d z (Ok tt)))) ≡ Err r → check a w (check b x (check c y (check d z rest))) ≡ Err r
four_refused a b c d w x y z r rest =
    refused_by a w r (check b x (check c y (check d z (Ok tt)))) (check b x (check c y (check d z rest))) (refused_by b x r (check c y (check d z (Ok tt))) (check c y (check d z rest))
    (refused_by c y r (check d z (Ok tt)) (check d z rest) (refused_by d z r (Ok tt) rest (λ e. absurd (cc)))))

four_passed : (a b c d : Bool) (w x y z : Refused) (rest : Judgement) → check a w (check b x (check c y (check d z (Ok tt)))) ≡ Ok tt → check a w (check b x (check c y (check d z rest))) ≡ rest
four_passed a b c d w x y z rest =
    passed_by a w (check b x (check c y (check d z (Ok tt)))) (check b x (check c y (check d z rest))) rest (passed_by b x (check c y (check d z (Ok tt))) (check c y (check d z rest)) rest
    (passed_by c y (check d z (Ok tt)) (check d z rest) rest (passed_by d z (Ok tt) rest rest (λ e. refl))))

module _ (version : Version) (p : Plan) (h : List Edge) (e : Edge) where
  abbrev exists : Bool
  exists = is_well_formed e && has_driver p e.driver e.wire

  abbrev turns : Bool
  turns = is_other_state (drive h e.driver e.wire) e.fall

  abbrev holds : Bool
  holds = (rule version (readings p h e.driver) e.wire e.fall e.value).1

  abbrev broken : Refused
  broken = Rule (rule version (readings p h e.driver) e.wire e.fall e.value).0

  abbrev unsettled : Refused
  unsettled = NotSettled (settling version p h e.wire e.fall).0

  pub refused : (r : Refused) (rest : Judgement) → verdict_but_full version p h e ≡ Err r → judged version p h e rest ≡ Err r
  refused r rest is = four_refused exists turns holds (settled version p h e) NoSuchDriver AlreadyThere broken unsettled r rest is

  pub passed : (rest : Judgement) → verdict_but_full version p h e ≡ Ok tt → judged version p h e rest ≡ rest
  passed rest is = four_passed exists turns holds (settled version p h e) NoSuchDriver AlreadyThere broken unsettled rest is
