use Rattle.std.proofs.Common.{◌∙◌, ◌∷◌, sym, subst}
use Rattle.vme_order_search.specs.declared.trails.Trail.{Trail}
use Rattle.vme_order_search.specs.Trails.{Ends}
use Rattle.vme_order_search.proofs.Steps.{ends_more, ends_there}
use Rattle.vme_order_search.proofs.trails.Trail.push.Goals as goal

pub returns-in-Ok-clause-kept : goal.returns-in-Ok-clause-kept
returns-in-Ok-clause-kept c step path ends =
    ends_more c.args.self.now (record { steps = c.push.new.self }) _ c.in-Ok.ensures.items step path ends

pub returns-in-Ok-clause-ends : goal.returns-in-Ok-clause-ends
returns-in-Ok-clause-ends c path ends =
    let t = c.args.self.now in
    let u : Trail = record { steps = c.push.new.self } in
    subst (λ n. Ends u n (c.args.place ∷ path)) (sym (c.len-step.ensures ∙ t.steps.ok.0))
    (ends_there t u (record { front = c.args.front; place = c.args.place }) c.in-Ok.ensures.items
    c.requires.trail.some path ends)
