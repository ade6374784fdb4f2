use Rattle.std.proofs.Common.{◌≡◌, ◌<◌, ◌+◌, length, sym, ◌∙◌, subst, ap, arith, set}
use Rattle.vme_order_search.specs.Layers.{StandsBelow}
use Rattle.vme_order_search.specs.Places.{bucket_of}
use Rattle.vme_order_search.proofs.Tables.{IsBefore, got_table}
use Rattle.vme_order_search.proofs.layers.Layer.push.Goals as goal

pub returns-clause-table : goal.returns-clause-table
returns-clause-table c =
    let l = c.args.self.now in
    let b = c.args.beginning in
    let at : c.bucket-bucket.result ≡ bucket_of b.taken = c.bucket-bucket.ensures.bucket in
    let one : IsBefore l b c.last_of-before.result = record {
      few = c.last_of-before.ensures.few;
      all = λ i d there is. c.last_of-before.ensures.all i d there (is ∙ sym at);
      ends = λ some. subst (λ k. StandsBelow l k c.last_of-before.result) at (c.last_of-before.ensures.ends some);
    } in
    let count : c.len-count.result ≡ length l.kept.items = c.len-count.ensures ∙ l.kept.ok.0 in
    got_table l _ b c.last_of-before.result (record {
      kept = c.in-Ok-push.ensures.items;
      before_items = c.in-Ok.ensures.items;
      last_items = ap (λ k. set l.last.items k (c.len-count.result + 1)) at
          ∙ ap (λ n. set l.last.items (bucket_of b.taken) (n + 1)) count;
    }) c.requires one (subst (λ n. n < 65536) at c.bucket-bucket.ensures.within) (omega arith)
