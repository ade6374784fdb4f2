use Rattle.std.proofs.Common.{◌≡◌, ◌∙◌, ap, sym, subst, suc, ◌+◌, ◌-◌, arith}
use Rattle.std.proofs.lemmas.Result.{err_from_is_err_and}
use Rattle.vme_model.specs.Verdict.{made}
use Rattle.vme_seeds.specs.Walks.{Walk, walked}
use Rattle.vme_seeds.proofs.Walked.{walk_ends, walk_goes_on}
use Rattle.vme_reading.specs.Texts.{IsListed, lines_made}
use Rattle.vme_drive.proofs.ListedLines.{IsBefore, edge_listed, edge_cut}
use Rattle.vme_drive.proofs.DrawnLines.{before_walked}
use Rattle.vme_drive.proofs.draws.take.Goals as goal

pub loop-made-init : goal.loop-made-init
loop-made-init g c =
    let all : c.args.edges ≡ c.args.edges - 0 = omega arith in
    record {
      rest = ap (λ n. walked n c.args.walk.now) all;
      listed = λ first listed. listed;
    }

pub returns-in_err-put_line-in-Some : goal.returns-in_err-put_line-in-Some
returns-in_err-put_line-in-Some g c =
    let e = err_from_is_err_and c.from_residual.result c.from_residual.ensures.1 in
    let within : IsBefore c.loop-made.walk.state (walked c.args.edges c.args.walk.now).state =
    subst (λ (w : Walk). IsBefore c.loop-made.walk.state w.state) (sym c.loop-made.invariant.rest) (before_walked (c.args.edges - c.loop-made._made) c.loop-made.walk) in
    rw (e.1, e.2) (
      c.in_err-put_line-in-Some.ensures.fault,
      λ first listed. edge_cut c.loop-made.walk.state (walked c.args.edges c.args.walk.now).state _ _ _ within c.in_err-put_line-in-Some.ensures.front first
          (c.loop-made.invariant.listed first listed),
    )

pub returns-in-None : goal.returns-in-None
returns-in-None g c =
    let more = c.args.edges - (c.loop-made._made + 1) in
    let one_less : c.args.edges - c.loop-made._made ≡ suc more = omega arith in (
      ap (λ (w : Walk). w.state)
          (walk_ends more c.loop-made.walk c.draw.new.self c.draw.ensures.state (sym c.in-None.is ∙ c.draw.ensures.edge)
          ∙ ap (λ n. walked n c.loop-made.walk) (sym one_less) ∙ sym c.loop-made.invariant.rest),
      λ first listed. subst (λ (w : Walk). IsListed first (g.W.Write.contents c.loop-made.out) c.loop-made.text (lines_made w.state)) (sym c.draw.ensures.state)
          (c.loop-made.invariant.listed first listed),
    )

pub loop-made-preserved : goal.loop-made-preserved
loop-made-preserved g c =
    let more = c.args.edges - (c.loop-made._made + 1) in
    let one_less : c.args.edges - c.loop-made._made ≡ suc more = omega arith in
    let is : c.make.new.self.state ≡ made c.loop-made.walk.state c.in-Some.edge =
    ap (λ (w : Walk). w.state) c.make.ensures ∙ ap (λ (w : Walk). made w.state c.in-Some.edge) c.draw.ensures.state in
    record {
      rest =
          c.loop-made.invariant.rest ∙ ap (λ n. walked n c.loop-made.walk) one_less
          ∙ walk_goes_on more c.loop-made.walk c.draw.new.self c.draw.ensures.state c.in-Some.edge c.make.new.self (sym c.in-Some.is ∙ c.draw.ensures.edge) c.make.ensures;
      listed = λ first listed. edge_listed _ _ _ _ _ _ _ is c.in_ok-put_line-in-Some.ensures.ok first (c.loop-made.invariant.listed first listed);
    }

pub returns : goal.returns
returns g c =
    let none : c.args.edges - c.loop-made._made ≡ 0 = omega arith in
    (sym (ap (λ (w : Walk). w.state) (c.loop-made.invariant.rest ∙ ap (λ n. walked n c.loop-made.walk) none)), c.loop-made.invariant.listed)
