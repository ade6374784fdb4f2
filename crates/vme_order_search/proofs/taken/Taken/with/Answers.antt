use Rattle.std.proofs.Common.{◌-◌, ◌+◌, ◌/◌, ◌*◌, ◌%◌, ◌^◌, refl, ap, arith, bit_or}
use Rattle.vme_order_search.specs.declared.taken.Taken.{Taken}
use Rattle.vme_order_search.proofs.Sets.{holds_full, holds_more, narrow_more}
use Rattle.vme_order_search.proofs.taken.Taken.with.Goals as goal

pub returns-then-place-self-clause-narrow : goal.returns-then-place-self-clause-narrow
returns-then-place-self-clause-narrow c =
    narrow_more c.args.self.now.behind (c.args.place - c.args.self.now.least - 1) c.requires.narrow
    (omega arith)

pub returns-then-place-self-clause-places : goal.returns-then-place-self-clause-places
returns-then-place-self-clause-places c i =
    let t = c.args.self.now in
    let u : Taken = record {
      least = t.least;
      behind = bit_or t.behind (1 * 2 ^ (c.args.place - t.least - 1) % 2 ^ 128);
    } in
    holds_more t u c.args.place i refl refl c.if-place-self.true (omega arith)

pub returns-clause-places : goal.returns-clause-places
returns-clause-places c i =
    let t = c.args.self.now in
    let more = c.trailing_ones-more.result in
    let u : Taken = record { least = t.least + more + 1; behind = t.behind / 2 ^ more / 2 } in
    holds_full t u c.args.place i c.requires.narrow (omega arith)
    (ap (λ n. t.least + n + 1) c.trailing_ones-more.ensures)
    (ap (λ n. t.behind / 2 ^ n / 2) c.trailing_ones-more.ensures)
