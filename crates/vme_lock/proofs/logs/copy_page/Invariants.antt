use Rattle.std.specs.Prelude.{◌≡◌, ◌++◌, take, vec_capacity}
use Rattle.vme_lock.proofs.logs.copy_page.Given as goal

abbrev pub invariant-loop-edge : goal.invariant-loop-edge
invariant-loop-edge l = (l.log.items ≡ l.fn.log.items ++ take l.edge-index l.page) × (vec_capacity l.log ≡ vec_capacity l.fn.log)
