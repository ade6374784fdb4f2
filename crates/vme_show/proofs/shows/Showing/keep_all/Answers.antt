use Rattle.std.proofs.Common.{◌∙◌, ◌++◌, ◌∷◌, [], List, false, None, get_or, take, sym, ap, subst, arith, append_assoc}
use Rattle.std.proofs.lemmas.List.{take_more}
use Rattle.vme_model.specs.declared.signals.Driver.TheVariants.{Controller}
use Rattle.vme_model.specs.declared.signals.Wire.TheVariants.{Bg}
use Rattle.vme_model.specs.declared.signals.Edge.{Edge}
use Rattle.vme_show.specs.Shown.{IsShown}
use Rattle.vme_show.proofs.shows.Showing.keep_all.Goals as goal

abbrev some_edge : Edge
some_edge = record { driver = Controller; wire = Bg 0; fall = false; value = None }

pub loop-edge-preserved : goal.loop-edge-preserved
loop-edge-preserved c =
    let es = c.args.edges.now in
    let i = c.loop-edge.edge-index in
    record {
      stretch = c.keep.ensures.stretch ∙ c.loop-edge.invariant.stretch;
      judged = let was = c.loop-edge.invariant.judged in let now = c.keep.ensures.judged in omega (arith, was, now);
      shown = λ b fs h.
          subst (λ (l : List Edge). IsShown b l c.keep.new.self) (append_assoc fs (take i es) (get_or es i some_edge ∷ []) ∙ ap (λ (l : List Edge). fs ++ l)
          (sym (take_more es i some_edge c.loop-edge-test.true)))
          (c.keep.ensures.shown b (fs ++ take i es) (c.loop-edge.invariant.shown b fs h));
    }
