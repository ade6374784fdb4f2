use Rattle.std.proofs.Common.{◌≡◌, ◌∙◌, ap, subst, sym, ℕ}
use Rattle.std.specs.Prelude.{Option}
use Rattle.vme_model.specs.Signals.{grant_level}
use Rattle.vme_model.specs.Sets.{has_bus_level}
use Rattle.vme_model.specs.Rules.{is_pick}
use Rattle.vme_model.specs.declared.boards.ArbiterKind.TheVariants.{Pri}
use Rattle.vme_arbiter.proofs.Local.{guards_over, grant_guards_over, pick_alike, pick_alone, pick_of, alone}
use Rattle.vme_arbiter.proofs.arbiters.Arbiter.told.Goals as goal

pub returns-clause-rows : goal.returns-clause-rows
returns-clause-rows g c = λ kind version noted same own picks.
    let inside : c.args.self.now.1 ≡ c.self.inside.controller = cc (ap (λ v. v.1) c.self.view_is) in
    subst (λ k. g.A.Outcome.tells c.rule.result.1 k)
    (guards_over kind version noted c.self.inside.controller c.args.pins c.args.edge (sym inside ∙ same) own)
    (c.rule.ensures.rows own
    (λ grant. pick_alike c.args.self.now.1.kind c.args.pins.requests c.args.self.now.1.last_level c.args.edge own
    (pick_of c.args.self.now.1 kind version noted (g.P.Policy.picked c.args.self.now.0 c.args.pins.requests) c.args.pins.requests same (picks grant))
    c.picks-is_picked.ensures grant
    ∙ ap (λ s. is_pick s.kind (has_bus_level c.args.pins.requests) s.last_level (grant_level c.args.edge.wire)) inside))

pub returns-clause-grants : goal.returns-clause-grants
returns-clause-grants g c = λ kind version noted same own grant.
    let inside : c.args.self.now.1 ≡ c.self.inside.controller = cc (ap (λ v. v.1) c.self.view_is) in
    let picked : ℕ → Option ℕ = g.P.Policy.picked c.args.self.now.0 c.args.pins.requests in
    subst (λ k. g.A.Outcome.tells c.rule.result.1 k)
    (grant_guards_over kind version noted c.self.inside.controller c.args.pins c.args.edge picked (sym inside ∙ same) own)
    (c.rule.ensures.grants Pri (alone (picked c.self.inside.controller.last_level)) own grant
    (rw (← inside) (pick_alone c.args.self.now.1.last_level c.args.edge (picked c.args.self.now.1.last_level) c.picks-is_picked.ensures grant)))
