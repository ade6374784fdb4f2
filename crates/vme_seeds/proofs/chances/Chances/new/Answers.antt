use Rattle.std.proofs.Common.{◌≡◌, sym, subst, ℕ, ◌<◌, ◌+◌, get_or, slice_set, arith, rules}
use Rattle.std.proofs.lemmas.List.Edits.{fill_by_more}
use Rattle.vme_seeds.specs.Choices.{chance}
use Rattle.vme_seeds.proofs.chances.Chances.new.Goals as goal

pub loop-place-preserved : goal.loop-place-preserved
loop-place-preserved c =
    let i = c.loop-place.place in
    let chance_at : ℕ → ℕ = λ n. chance (get_or c.args.weights.now.by_kind n 0) (get_or c.args.made.now.counts n 0) (get_or c.args.ready.now.counts n 0) in
    record {
      long = search rules;
      each =
          subst (λ (v : ℕ). (k : ℕ) → k < i + 1 → get_or (slice_set c.loop-place.by_kind i v) k 0 ≡ chance_at k) (sym c.chance.ensures)
          (fill_by_more chance_at c.loop-place.by_kind i 0 (omega (arith, c.loop-place-test.true, c.loop-place.invariant.long)) c.loop-place.invariant.each);
    }
