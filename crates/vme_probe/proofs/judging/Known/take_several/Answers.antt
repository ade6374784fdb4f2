use Rattle.std.proofs.Common.{◌∙◌, ◌+◌, ◌-◌, ◌^◌, ℕ, List, Some, None, length, min, refl, ap, subst, inl, inr, arith}
use Rattle.std.specs.Io.KnownBytes.{Appends}
use Rattle.std.proofs.Math.Pow.{pow_pos}
use Rattle.std.proofs.lemmas.Result.{err_from_is_err_and}
use Rattle.vme_trace.specs.Writing.{AppendsFront}
use Rattle.vme_samples.specs.declared.places.Places.{Places}
use Rattle.vme_samples.specs.Makers.{by_at}
use Rattle.vme_samples.specs.Ways.{AreMakers}
use Rattle.vme_samples.proofs.Furthest.{few_sets}
use Rattle.vme_probe.specs.declared.judging.Known.{Known}
use Rattle.vme_probe.specs.Sampled.{all_places, placed_lines}
use Rattle.vme_probe.proofs.SampleLines.{all_first, gathered_all}
use Rattle.vme_probe.proofs.judging.Known.take_several.Goals as goal

pub returns-in_err-write_last : goal.returns-in_err-write_last
returns-in_err-write_last g c =
    let e = err_from_is_err_and c.from_residual.result c.from_residual.ensures.1 in
    rw (e.1, e.2) (
      c.in_err-write_last.ensures.fault,
      c.stopped_in-report.result.items,
      inr (c.stopped_in-report.ensures c.fill.ensures
          (gathered_all c.args.plan.now c.args.self.now.probed c.args.sample.now c.fill.new.self.known.items c.first-all.result c.behind.result
          None c.first-all.ensures c.in_default.is c.behind.ensures)),
      subst (λ (l : List ℕ). AppendsFront (g.W.Write.contents c.args.out.now) (g.W.Write.contents c.write_last.new.out) l) c.as_slice.ensures.value c.in_err-write_last.ensures.front,
    )

pub returns-in_default : goal.returns-in_default
returns-in_default g c = (
  c.stopped_in-report.result.items,
  c.stopped_in-report.ensures c.fill.ensures
      (gathered_all c.args.plan.now c.args.self.now.probed c.args.sample.now c.fill.new.self.known.items c.first-all.result c.behind.result None c.first-all.ensures c.in_default.is c.behind.ensures),
  subst (λ (l : List ℕ). Appends (g.W.Write.contents c.args.out.now) (g.W.Write.contents c.write_last.new.out) l) c.as_slice.ensures.value c.in_ok-write_last.ensures.ok,
  refl,
)

pub makers-makers-requires-clause-small : goal.makers-makers-requires-clause-small
makers-makers-requires-clause-small g c =
    let few = few_sets (length c.args.sample.now) c.requires.few in
    let some = pow_pos (length c.args.sample.now) in
    let all = c.first-all.ensures in
    omega (arith, few, some, all)

pub returns-in_err-put : goal.returns-in_err-put
returns-in_err-put g c =
    let e = err_from_is_err_and c.from_residual-in_err-put.result c.from_residual-in_err-put.ensures.1 in
    let all = all_first c.args.sample.now c.first-all.result c.first-all.ensures in
    let lines = λ (set : Places). placed_lines c.args.sample.now set c.makers-makers.result (length c.args.sample.now) in
    let known : Known = record c.args.self.now {
      standings = c.in-Some.standings;
      changes = min (c.args.self.now.changes + length c.args.sample.now) (2 ^ 64 - 1);
    } in
    rw (e.1, e.2) (
      c.in_err-put.ensures.fault,
      lines (all_places c.args.sample.now),
      inl (
        known,
        record {
          ways = c.fill.new.self.known.items;
          are_ways = c.fill.ensures;
          behind = gathered_all c.args.plan.now c.args.self.now.probed c.args.sample.now c.fill.new.self.known.items c.first-all.result c.behind.result
              (Some c.in-Some.standings) c.first-all.ensures c.in-Some.is c.behind.ensures;
          makers = c.makers-makers.result;
          are_makers = subst (λ (set : Places). AreMakers c.args.plan.now c.args.self.now.probed c.args.sample.now c.fill.new.self.known.items set
              (by_at c.makers-makers.result)) all c.makers-makers.ensures.makers;
          is = refl;
          probed = refl;
          changes = refl;
        },
      ),
      subst (λ (l : List ℕ). AppendsFront (g.W.Write.contents c.args.out.now) (g.W.Write.contents c.put.new.out) l)
          (c.as_slice-2.ensures.value ∙ c.push_placed.ensures.items ∙ ap lines all) c.in_err-put.ensures.front,
    )
