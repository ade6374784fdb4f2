use Rattle.std.proofs.Common.{◌∙◌, ◌∷◌, [], ◌++◌, ap, sym}
use Rattle.vme_shrink_search.proofs.Leads.{leads_more}
use Rattle.vme_shrink_search.proofs.fronts.Front.step.Goals as goal

pub invariant_of-self-else-not-is_accepted : goal.invariant_of-self-else-not-is_accepted
invariant_of-self-else-not-is_accepted c =
    let edges = c.self.inside.edges.items in
    leads_more c.self.inside.bus c.step.new.self edges c.push.new.self.items
    c.args.edge c.self.invariant c.step.ensures.state
    (c.in_ok-push.ensures.items ∙ ap (λ d. edges ++ d ∷ []) c.of.ensures)
    (sym c.step.ensures.accepted ∙ sym c.is_ok-is_accepted.ensures.value
    ∙ c.if-not-is_accepted.false)
