use Rattle.std.proofs.Common.{◌≡◌, [], drop, take}
use Rattle.vme_probe.specs.Demands.{first_failing, is_left}
use Rattle.vme_probe.proofs.left.first_failing.Given as goal

abbrev pub invariant-loop-place : goal.invariant-loop-place
invariant-loop-place l =
    first_failing (is_left l.plan l.standings l.own) [] l.demands
    ≡ first_failing (is_left l.plan l.standings l.own) (take l.place l.demands) (drop l.place l.demands)
