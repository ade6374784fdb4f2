use Rattle.std.proofs.Common.{◌≡◌, ◌<◌, ◌+◌, ◌∙◌, length, vec_len, arith}
use Rattle.std.proofs.lemmas.List.{length-drop}
use Rattle.vme_trace.proofs.KnownLines.{more_lines, few_lines, some_line}
use Rattle.vme_trace.proofs.known.Known.take_block.Goals as goal

pub push_reserved-requires : goal.push_reserved-requires
push_reserved-requires g c =
    let text = c.args.piece.now in
    let feed = c.lines.invariant.feeds c.lowest.result c.lowest.ensures in
    let end = c.args.at + c.lowest.result in
    let some : c.lines.start < end + 1 = some_line text c.lines.start (end + 1) c.in-Some.edge c.in-Some.ensures (omega (arith, feed.0)) in
    let few = few_lines _ _ _ _ c.lines.invariant.so_far in
    let from = length-drop c.args.from text in
    let to = length-drop c.lines.start text in
    let many : vec_len c.lines.edges ≡ length c.lines.edges.items = c.lines.edges.ok.0 in
    let first : vec_len c.args.edges.now ≡ length c.args.edges.now.items = c.args.edges.now.ok.0 in
    let capacity = c.lines.invariant.capacity in
    let spare = c.requires.spare in
    omega (arith, feed.0, some, few, from, to, many, first, capacity, spare)

pub lines-preserved : goal.lines-preserved
lines-preserved g c =
    let feed = c.lines.invariant.feeds c.lowest.result c.lowest.ensures in
    record {
      next = omega (arith, feed.0);
      feeds = λ k set. c.lines.invariant.feeds k (c.without_lowest-feeds.ensures.others k set);
      so_far = more_lines _ _ _ c.in-Some.edge _ _ _ c.lines.invariant.so_far c.in-Some.ensures c.push_reserved.ensures.items;
      capacity = c.push_reserved.ensures.capacity ∙ c.lines.invariant.capacity;
    }
