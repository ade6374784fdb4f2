use Rattle.std.proofs.Common.{ℕ, Option, subst}
use Rattle.vme_engines.specs.Followed.{ExplainsPiece}
use Rattle.vme_engines.proofs.ToldPieces.{explains_more}
use Rattle.vme_engines.proofs.explains.ExplainingJudge.take.Goals as goal

pub returns : goal.returns
returns g c =
    λ first es old before. (
      before.0,
      explains_more first.following c.args.self.now.following es c.args.edges.now old (g.W.Write.contents c.args.out.now) (g.W.Write.contents c.explain_piece.new.out) before.1.1 before.1.3 first.edge c.args.more c.explain_piece.new.following c.explain_piece.result
          before.1.2
          (subst (λ (a : Option ℕ). ExplainsPiece a c.args.self.now.following c.args.edges.now c.args.more (g.W.Write.contents c.args.out.now) (g.W.Write.contents c.explain_piece.new.out) c.explain_piece.new.following c.explain_piece.result) before.0 c.explain_piece.ensures),
    )
