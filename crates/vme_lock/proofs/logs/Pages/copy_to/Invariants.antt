use Rattle.std.specs.Prelude.{◌≡◌, ◌++◌, take, vec_capacity}
use Rattle.vme_lock.specs.Logs.{edges_in}
use Rattle.vme_lock.proofs.logs.Pages.copy_to.Given as goal

abbrev pub invariant-loop-page : goal.invariant-loop-page
invariant-loop-page l = (l.log.items ≡ l.fn.log.items ++ edges_in (take l.page-index l.page-items)) × (vec_capacity l.log ≡ vec_capacity l.fn.log)
