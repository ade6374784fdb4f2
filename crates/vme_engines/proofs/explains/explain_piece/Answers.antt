use Rattle.std.proofs.Common.{inl, inr, refl}
use Rattle.std.proofs.lemmas.Result.{err_from_is_err_and}
use Rattle.std.specs.Io.KnownBytes.{Appends}
use Rattle.vme_trace.specs.Writing.{AppendsFront}
use Rattle.vme_engines.specs.Explaining.{edge_status}
use Rattle.vme_engines.proofs.ToldPieces.{edge_told}
use Rattle.vme_engines.proofs.explains.explain_piece.Goals as goal

pub returns-in_err-status : goal.returns-in_err-status
returns-in_err-status g c =
    let e = err_from_is_err_and c.from_residual.result c.from_residual.ensures.1 in
    let status = edge_status c.follow_to.new.self.bus c.in-Some.found.edge in
    rw (e.1, e.2)
    (inr (
      c.in_err-status.ensures.fault,
      status,
      inl
          (edge_told c.args.edge c.args.following.now c.follow_to.new.self c.args.edges.now c.in-Some.found status (AppendsFront (g.W.Write.contents c.args.out.now) (g.W.Write.contents c.tell_edge.new.out)) c.in-Some.ensures.some refl
          c.in_err-status.ensures.front),
    ))

pub returns-in-Some : goal.returns-in-Some
returns-in-Some g c =
    inl
    (edge_told c.args.edge c.args.following.now c.follow_to.new.self c.args.edges.now c.in-Some.found _ (Appends (g.W.Write.contents c.args.out.now) (g.W.Write.contents c.tell_edge.new.out)) c.in-Some.ensures.some
    c.in_ok-status.ensures.status c.in_ok-status.ensures.ok)
