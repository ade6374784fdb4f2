use Rattle.std.proofs.Common.{◌≡◌, ◌∙◌, ◌<◌, sym, subst, slice_index}
use Rattle.vme_bus.specs.Sets.{has}
use Rattle.vme_seeds.specs.declared.tallies.Tally.{Tally}
use Rattle.vme_seeds.specs.Kinds.{kind_of, number}
use Rattle.vme_seeds.specs.Tallies.{CountsIn}
use Rattle.vmebus_c.proofs.played.draw_one.Goals as goal

pub returns-in-Some-clause-counts : goal.returns-in-Some-clause-counts
returns-in-Some-clause-counts c =
    let e = c.in-Some.drawn in
    let new = c.count.new.self.made.counts in
    subst (λ (m : Tally). slice_index m.counts (number (kind_of (has c.args.boards) e)) < 4294967295 → CountsIn (has c.args.boards) e m.counts new) c.draw.ensures.made c.count.ensures.counts
