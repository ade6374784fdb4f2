use Rattle.std.proofs.Common.{ℕ, Option, subst}
use Rattle.vme_engines.specs.Followed.{StatesPiece}
use Rattle.vme_engines.proofs.ToldPieces.{states_more}
use Rattle.vme_engines.proofs.states.StatingJudge.take.Goals as goal

pub returns : goal.returns
returns g c =
    λ first es old before. (
      before.0,
      states_more first.following c.args.self.now.following es c.args.edges.now old (g.W.Write.contents c.args.out.now) (g.W.Write.contents c.state_piece.new.out) before.1.1 before.1.3 first.after c.args.more c.state_piece.new.following c.state_piece.result
          before.1.2
          (subst (λ (a : Option ℕ). StatesPiece a c.args.self.now.following c.args.edges.now c.args.more (g.W.Write.contents c.args.out.now) (g.W.Write.contents c.state_piece.new.out) c.state_piece.new.following c.state_piece.result) before.0 c.state_piece.ensures),
    )
