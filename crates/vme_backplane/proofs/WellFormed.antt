-- An edge that is allowed is well formed.
use Rattle.std.proofs.Common.{◌≡◌, Bool, true, false, List, refl}
use Rattle.std.specs.Prelude.{Ok, ◌&&◌}
use Rattle.std.proofs.lemmas.Bool.{and_parts}
use Rattle.vme_model.specs.declared.refusals.Refused.{Refused}
use Rattle.vme_model.specs.declared.refusals.Refused.TheVariants.{NoSuchDriver}
use Rattle.vme_model.specs.declared.signals.Edge.{Edge}
use Rattle.vme_model.specs.declared.signals.Version.{Version}
use Rattle.vme_model.specs.Plan.{Plan, has_driver}
use Rattle.vme_model.specs.Signals.{is_well_formed}
use Rattle.vme_model.specs.Verdict.{Judgement, check, verdict_but_full}

first_holds : (b : Bool) (r : Refused) (rest : Judgement) → check b r rest ≡ Ok tt → b ≡ true
first_holds true r rest e = refl
first_holds false r rest e = absurd (cc)

pub allowed_is_well_formed : (version : Version) (p : Plan) (h : List Edge) (e : Edge) → verdict_but_full version p h e ≡ Ok tt → is_well_formed e ≡ true
allowed_is_well_formed version p h e v =
    (and_parts (is_well_formed e) (has_driver p e.driver e.wire) (first_holds (is_well_formed e && has_driver p e.driver e.wire) NoSuchDriver _ v)).0
