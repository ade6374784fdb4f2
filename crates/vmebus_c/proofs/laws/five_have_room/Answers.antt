use Rattle.std.proofs.Common.{◌≤◌, List, ap, arith, length}
use Rattle.std.specs.Prelude.{Option, Some, None}
use Rattle.vme_model.specs.declared.signals.Edge.{Edge}
use Rattle.vme_model.specs.declared.signals.Version.{Version}
use Rattle.vme_model.specs.Failing.{tested_but_full}
use Rattle.vme_model.specs.Plan.{Plan}
use Rattle.vme_model.proofs.Failing.{fails_of_tested_but_full}
use Rattle.vme_rules.proofs.Room.{few_fail}
use Rattle.vme_rules.proofs.TestedRoom.{five_tested}
use Rattle.vmebus_c.specs.Asked.{failed_by}
use Rattle.vmebus_c.proofs.laws.five_have_room.Goals as goal

at_most : (version : Version) (p : Plan) (h : List Edge) (e : Option Edge) → length (failed_by version p h e) ≤ 5
at_most version p h (Some e) =
    let all = ap length (fails_of_tested_but_full version p h e) in
    omega (arith, few_fail (tested_but_full version p h e), five_tested version p h e, all)
at_most version p h None = omega arith

pub returns : goal.returns
returns c = at_most
