use Rattle.std.proofs.Common.{◌≡◌, inl, inr, Some, length, refl, sym, subst, arith}
use Rattle.std.specs.List.{slice_get}
use Rattle.std.proofs.lemmas.Option.{slice_get_read}
use Rattle.vme_order_search.proofs.Steps.{WentBack, step_back, whole_way}
use Rattle.vme_order_search.proofs.trails.Trail.newest_first.Goals as goal
use Rattle.vme_order_search.proofs.trails.Trail.newest_first.Goals.{then-steps-test+else-at-len, else-steps-test}

pub steps-preserved : goal.steps-preserved
steps-preserved c path ends =
    let t = c.args.self.now in
    let s = c.index-made.result.now in
    let there : slice_get t.steps.items c.steps.at ≡ Some s =
    slice_get_read t.steps.items (length t.steps.items) c.steps.at s refl (omega arith)
    c.index-made.ensures in
    subst (λ l. WentBack t s.front path l) (sym c.in-Ok.ensures.items)
    (step_back t c.steps.at path c.steps.places.items s there (omega arith)
    (c.steps.invariant path ends))

pub returns-clause-path : goal.returns-clause-path
returns-clause-path c path ends =
    whole_way c.args.self.now c.steps.at path c.steps.places.items (c.steps.invariant path ends)
    (elim c.steps-test.branch [
      | then-steps-test+else-at-len w ↦ inr (omega arith)
      | else-steps-test w ↦ inl (omega arith)
    ])
