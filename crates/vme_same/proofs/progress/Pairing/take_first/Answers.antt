use Rattle.std.proofs.Common.{◌∷◌, subst, sym}
use Rattle.vme_same.specs.Kept.{Goes, GoesBy, edges_of, with_first}
use Rattle.vme_same.proofs.Leading.{on_ok, open_more, sure_more}
use Rattle.vme_same.proofs.progress.Pairing.take_first.Goals as goal

pub returns-in-Open-clause-going : goal.returns-in-Open-clause-going
returns-in-Open-clause-going c =
    let now = c.args.self.now in
    on_ok c.push.result (λ is. λ t going goes legal.
    subst (GoesBy (with_first t (c.args.number, c.args.edge.now)) now.has_ended now.is_over
    now.waiting.items c.push.new.self now.taken) (sym c.in-Open.is)
    (open_more t (edges_of now.waiting.items) now.rest now.taken
    (subst (Goes t now) c.in-Open.is going) c.args.number c.args.edge.now
    c.push.new.self legal is c.push.ensures.state)) c.push.ensures.edges

pub returns-in-Seeks-clause-going : goal.returns-in-Seeks-clause-going
returns-in-Seeks-clause-going c = λ t going goes legal.
    c.far_or_sought-self.ensures.going t
    (subst (Goes t c.args.self.now) c.in-Seeks.is going)

pub returns-in-Finds-clause-going : goal.returns-in-Finds-clause-going
returns-in-Finds-clause-going c = λ t going goes legal.
    let now = c.args.self.now in
    subst (Goes (with_first t (c.args.number, c.args.edge.now)) now) (sym c.in-Finds.is)
    (sure_more t now.has_ended now.is_over c.in-Finds.field-0
    (subst (Goes t now) c.in-Finds.is going) (c.args.number, c.args.edge.now) goes)
