use Rattle.std.proofs.Common.{◌≡◌, ◌-◌, ◌+◌, ◌≤◌, ◌^◌, ◌++◌, ℕ, [], length, arith, refl, ap, subst}
use Rattle.std.proofs.lemmas.Result.{err_from_is_err_and}
use Rattle.std.proofs.KnownBytes.{Appends-nil}
use Rattle.vme_engines.specs.Steps.{IsCounted}
use Rattle.vme_engines.proofs.Replaying.{IsReplaying, came, stays_known, counted_few, counted_more, goes_on, ended, stopped, takes_is, flushed, too_many, unflushed}
use Rattle.vme_engines.proofs.replays.replay_on.Goals as goal

pub returns-in_err-status : goal.returns-in_err-status
returns-in_err-status g c =
    λ p version from text head is known came_first.
    let e = err_from_is_err_and c.from_residual.result c.from_residual.ensures.1 in
    rw (e.1, e.2) (stopped p version text head from _ _ _ _ _ c.take_piece.new.backplane c.args.reader 0 c.take_piece.new.judged c.args.reads [] c.args.edges.items (Appends-nil _) is refl c.args.first _ came_first known
    (rw c.deref.ensures.value at c.in_err-status.ensures))

pub returns-in-Some : goal.returns-in-Some
returns-in-Some g c =
    λ p version from text head is known came_first.
    ended p version text head from _ _ _ _ _ c.take_piece.new.backplane c.args.reader 0 c.take_piece.new.judged c.args.reads [] c.args.edges.items (Appends-nil _) is refl c.args.first c.in-Some.status came_first known
    (takes_is c.args.backplane 0 c.deref.result.now c.args.first (g.W.Write.contents c.args.out.now) (g.W.Write.contents c.take_piece.new.out) c.take_piece.new.backplane c.take_piece.new.judged c.in_ok-status.field-0 c.args.edges.items _ c.in_ok-status.ensures c.deref.ensures.value c.in-Some.is)

pub take_piece-requires-in-reads : goal.take_piece-requires-in-reads
take_piece-requires-in-reads g c =
    let few : c.reads.judged ≤ 2 ^ 34 = counted_few _ _ _ c.reads.invariant.counted in
    let same = ap length c.deref-in-reads.ensures.value in
    omega (arith, same, c.pump-more.new.edges.small, c.pump-more.new.edges.ok.0, c.pump-more.new.edges.ok.1)

pub returns-in_err-status-2 : goal.returns-in_err-status-2
returns-in_err-status-2 g c =
    λ p version from text head is known came_first.
    let e = err_from_is_err_and c.from_residual-in_err-status-2.result c.from_residual-in_err-status-2.ensures.1 in
    let one_less : c.args.reads - c.reads.counter ≡ (c.args.reads - (c.reads.counter + 1)) + 1 = omega arith in
    let r = subst (IsReplaying p version text head from _ _ _ c.reads.backplane c.reads.reader c.reads.judged) one_less (c.reads.invariant.replaying p version from text head is known came_first) in
    let h = rw c.clear.ensures.items at (c.pump-more.ensures.reads (head ++ r.reading.later) r.es r.reading.read) in
    rw (e.1, e.2)
    (stopped p version text head from _ _ _ _ _ c.take_piece-in-reads.new.backplane c.pump-more.new.reader c.reads.judged c.take_piece-in-reads.new.judged (c.args.reads - (c.reads.counter + 1)) r.es c.pump-more.new.edges.items r.wrote r.state r.count c.pump-more.result _
    (came text head from _ _ _ _ _ r.es _ r.reading c.pump-more.result h) (stays_known text head from _ _ _ _ _ r.es _ r.reading version r.known c.pump-more.result h)
    (rw c.deref-in-reads.ensures.value at c.in_err-status-2.ensures))

pub returns-in-Some-2 : goal.returns-in-Some-2
returns-in-Some-2 g c =
    λ p version from text head is known came_first.
    let one_less : c.args.reads - c.reads.counter ≡ (c.args.reads - (c.reads.counter + 1)) + 1 = omega arith in
    let r = subst (IsReplaying p version text head from _ _ _ c.reads.backplane c.reads.reader c.reads.judged) one_less (c.reads.invariant.replaying p version from text head is known came_first) in
    let h = rw c.clear.ensures.items at (c.pump-more.ensures.reads (head ++ r.reading.later) r.es r.reading.read) in
    ended p version text head from _ _ _ _ _ c.take_piece-in-reads.new.backplane c.pump-more.new.reader c.reads.judged c.take_piece-in-reads.new.judged (c.args.reads - (c.reads.counter + 1)) r.es c.pump-more.new.edges.items r.wrote r.state r.count c.pump-more.result c.in-Some-2.status
    (came text head from _ _ _ _ _ r.es _ r.reading c.pump-more.result h) (stays_known text head from _ _ _ _ _ r.es _ r.reading version r.known c.pump-more.result h)
    (takes_is c.reads.backplane c.reads.judged c.deref-in-reads.result.now c.pump-more.result (g.W.Write.contents c.reads.out) (g.W.Write.contents c.take_piece-in-reads.new.out) c.take_piece-in-reads.new.backplane c.take_piece-in-reads.new.judged c.in_ok-status-2.field-0 c.pump-more.new.edges.items _ c.in_ok-status-2.ensures c.deref-in-reads.ensures.value c.in-Some-2.is)

pub reads-init : goal.reads-init
reads-init g c =
    let all : c.args.reads ≡ c.args.reads - 0 = omega arith in
    let sum : 0 + length c.args.edges.items ≡ length c.args.edges.items = omega arith in
    let h = takes_is c.args.backplane 0 c.deref.result.now c.args.first (g.W.Write.contents c.args.out.now) (g.W.Write.contents c.take_piece.new.out) c.take_piece.new.backplane c.take_piece.new.judged c.in_ok-status.field-0 c.args.edges.items _ c.in_ok-status.ensures c.deref.ensures.value c.in-None.is in
    record {
      counted = subst (λ (n : ℕ). IsCounted c.args.reader n c.take_piece.new.judged) all (rw (h.3, sum) (c.requires h.0));
      replaying = λ p version from text head is known came_first. subst (IsReplaying p version text head from _ _ _ c.take_piece.new.backplane c.args.reader c.take_piece.new.judged) all
          (goes_on p version text head from _ _ _ _ _ c.take_piece.new.backplane c.args.reader 0 c.take_piece.new.judged c.args.reads [] c.args.edges.items (Appends-nil _) is refl c.args.first came_first known h);
    }

pub reads-preserved : goal.reads-preserved
reads-preserved g c =
    let one_less : c.args.reads - c.reads.counter ≡ (c.args.reads - (c.reads.counter + 1)) + 1 = omega arith in
    let h = takes_is c.reads.backplane c.reads.judged c.deref-in-reads.result.now c.pump-more.result (g.W.Write.contents c.reads.out) (g.W.Write.contents c.take_piece-in-reads.new.out) c.take_piece-in-reads.new.backplane c.take_piece-in-reads.new.judged c.in_ok-status-2.field-0 c.pump-more.new.edges.items _ c.in_ok-status-2.ensures c.deref-in-reads.ensures.value c.in-None-2.is in
    let counted = subst (λ (n : ℕ). IsCounted c.reads.reader n c.reads.judged) one_less c.reads.invariant.counted in
    let went = rw (c.clear.ensures.items, h.0) at (c.pump-more.ensures.reads counted.bytes counted.es counted.read) in
    record {
      counted = rw h.3 (counted_more _ _ _ _ (c.args.reads - (c.reads.counter + 1)) c.reads.judged _ counted went);
      replaying = λ p version from text head is known came_first.
          let r = subst (IsReplaying p version text head from _ _ _ c.reads.backplane c.reads.reader c.reads.judged) one_less (c.reads.invariant.replaying p version from text head is known came_first) in
          let more = rw c.clear.ensures.items at (c.pump-more.ensures.reads (head ++ r.reading.later) r.es r.reading.read) in
          goes_on p version text head from _ _ _ _ _ c.take_piece-in-reads.new.backplane c.pump-more.new.reader c.reads.judged c.take_piece-in-reads.new.judged (c.args.reads - (c.reads.counter + 1)) r.es c.pump-more.new.edges.items r.wrote r.state r.count c.pump-more.result
          (came text head from _ _ _ _ _ r.es _ r.reading c.pump-more.result more) (stays_known text head from _ _ _ _ _ r.es _ r.reading version r.known c.pump-more.result more) h;
    }

pub returns-in_err-flush : goal.returns-in_err-flush
returns-in_err-flush g c =
    λ p version from text head is known came_first.
    let e = err_from_is_err_and c.from_residual-in_err-flush.result c.from_residual-in_err-flush.ensures.1 in
    rw (e.1, e.2, c.in_err-flush.ensures.fault)
    (unflushed p version text head from _ _ _ c.reads.backplane c.reads.reader c.reads.judged (c.args.reads - c.reads.counter)
    (flushed p version text head from _ _ _ _ c.reads.backplane c.reads.reader c.reads.judged _ (c.reads.invariant.replaying p version from text head is known came_first) c.in_err-flush.ensures.kept))

pub returns : goal.returns
returns g c =
    λ p version from text head is known came_first.
    too_many p version text head from _ _ _ c.reads.backplane c.reads.reader c.reads.judged (c.args.reads - c.reads.counter)
    (flushed p version text head from _ _ _ _ c.reads.backplane c.reads.reader c.reads.judged _ (c.reads.invariant.replaying p version from text head is known came_first) c.in_ok-flush.ensures.kept)
