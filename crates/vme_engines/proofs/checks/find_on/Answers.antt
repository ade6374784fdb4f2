use Rattle.std.proofs.Common.{◌≡◌, ◌-◌, ◌+◌, ◌≤◌, ◌^◌, ℕ, [], length, arith, refl, ap, subst}
use Rattle.std.proofs.lemmas.Result.{err_from_is_err_and}
use Rattle.vme_engines.specs.Steps.{IsCounted}
use Rattle.vme_engines.proofs.Replaying.{came, stays_known, counted_few, counted_more}
use Rattle.vme_engines.proofs.Checked.{IsChecking, goes_on, found, stopped, checks_is, too_many}
use Rattle.vme_engines.proofs.checks.find_on.Goals as goal

pub returns-in_err-finding : goal.returns-in_err-finding
returns-in_err-finding g c =
    λ p version from is known came_first.
    let e = err_from_is_err_and c.from_residual.result c.from_residual.ensures.1 in
    rw (e.1, e.2) (stopped p version from _ _ c.check_piece.new.backplane c.args.reader 0 c.check_piece.new.judged c.args.reads [] c.args.edges.items refl is refl c.args.first _ came_first known
    (rw c.deref.ensures.value at c.in_err-finding.ensures))

pub returns-in-Some : goal.returns-in-Some
returns-in-Some g c =
    λ p version from is known came_first.
    found p version from _ _ c.check_piece.new.backplane c.args.reader 0 c.check_piece.new.judged c.args.reads [] c.args.edges.items refl is refl c.args.first c.in-Some.finding came_first known
    (checks_is c.args.backplane 0 c.deref.result.now c.args.first c.check_piece.new.backplane c.check_piece.new.judged c.in_ok-finding.field-0 c.args.edges.items _ c.in_ok-finding.ensures c.deref.ensures.value c.in-Some.is)

pub check_piece-requires-in-reads : goal.check_piece-requires-in-reads
check_piece-requires-in-reads g c =
    let few : c.reads.judged ≤ 2 ^ 34 = counted_few _ _ _ c.reads.invariant.counted in
    let same = ap length c.deref-in-reads.ensures.value in
    omega (arith, same, c.pump-more.new.edges.small, c.pump-more.new.edges.ok.0, c.pump-more.new.edges.ok.1)

pub returns-in_err-finding-2 : goal.returns-in_err-finding-2
returns-in_err-finding-2 g c =
    λ p version from is known came_first.
    let e = err_from_is_err_and c.from_residual-in_err-finding-2.result c.from_residual-in_err-finding-2.ensures.1 in
    let one_less : c.args.reads - c.reads.counter ≡ (c.args.reads - (c.reads.counter + 1)) + 1 = omega arith in
    let r = subst (IsChecking p version from _ c.reads.backplane c.reads.reader c.reads.judged) one_less (c.reads.invariant.checking p version from is known came_first) in
    let h = rw c.clear.ensures.items at (c.pump-more.ensures.reads r.reading.later r.es r.reading.read) in
    rw (e.1, e.2)
    (stopped p version from _ _ c.check_piece-in-reads.new.backplane c.pump-more.new.reader c.reads.judged c.check_piece-in-reads.new.judged (c.args.reads - (c.reads.counter + 1)) r.es c.pump-more.new.edges.items r.unrefused r.state r.count c.pump-more.result _
    (came [] [] from _ _ _ _ _ r.es _ r.reading c.pump-more.result h) (stays_known [] [] from _ _ _ _ _ r.es _ r.reading version r.known c.pump-more.result h)
    (rw c.deref-in-reads.ensures.value at c.in_err-finding-2.ensures))

pub returns-in-Some-2 : goal.returns-in-Some-2
returns-in-Some-2 g c =
    λ p version from is known came_first.
    let one_less : c.args.reads - c.reads.counter ≡ (c.args.reads - (c.reads.counter + 1)) + 1 = omega arith in
    let r = subst (IsChecking p version from _ c.reads.backplane c.reads.reader c.reads.judged) one_less (c.reads.invariant.checking p version from is known came_first) in
    let h = rw c.clear.ensures.items at (c.pump-more.ensures.reads r.reading.later r.es r.reading.read) in
    found p version from _ _ c.check_piece-in-reads.new.backplane c.pump-more.new.reader c.reads.judged c.check_piece-in-reads.new.judged (c.args.reads - (c.reads.counter + 1)) r.es c.pump-more.new.edges.items r.unrefused r.state r.count c.pump-more.result c.in-Some-2.finding
    (came [] [] from _ _ _ _ _ r.es _ r.reading c.pump-more.result h) (stays_known [] [] from _ _ _ _ _ r.es _ r.reading version r.known c.pump-more.result h)
    (checks_is c.reads.backplane c.reads.judged c.deref-in-reads.result.now c.pump-more.result c.check_piece-in-reads.new.backplane c.check_piece-in-reads.new.judged c.in_ok-finding-2.field-0 c.pump-more.new.edges.items _ c.in_ok-finding-2.ensures c.deref-in-reads.ensures.value c.in-Some-2.is)

pub reads-init : goal.reads-init
reads-init g c =
    let all : c.args.reads ≡ c.args.reads - 0 = omega arith in
    let sum : 0 + length c.args.edges.items ≡ length c.args.edges.items = omega arith in
    let h = checks_is c.args.backplane 0 c.deref.result.now c.args.first c.check_piece.new.backplane c.check_piece.new.judged c.in_ok-finding.field-0 c.args.edges.items _ c.in_ok-finding.ensures c.deref.ensures.value c.in-None.is in
    record {
      counted = subst (λ (n : ℕ). IsCounted c.args.reader n c.check_piece.new.judged) all (rw (h.3, sum) (c.requires h.0));
      checking = λ p version from is known came_first. subst (IsChecking p version from _ c.check_piece.new.backplane c.args.reader c.check_piece.new.judged) all
          (goes_on p version from _ _ c.check_piece.new.backplane c.args.reader 0 c.check_piece.new.judged c.args.reads [] c.args.edges.items refl is refl c.args.first came_first known h);
    }

pub reads-preserved : goal.reads-preserved
reads-preserved g c =
    let one_less : c.args.reads - c.reads.counter ≡ (c.args.reads - (c.reads.counter + 1)) + 1 = omega arith in
    let h = checks_is c.reads.backplane c.reads.judged c.deref-in-reads.result.now c.pump-more.result c.check_piece-in-reads.new.backplane c.check_piece-in-reads.new.judged c.in_ok-finding-2.field-0 c.pump-more.new.edges.items _ c.in_ok-finding-2.ensures c.deref-in-reads.ensures.value c.in-None-2.is in
    let counted = subst (λ (n : ℕ). IsCounted c.reads.reader n c.reads.judged) one_less c.reads.invariant.counted in
    let went = rw (c.clear.ensures.items, h.0) at (c.pump-more.ensures.reads counted.bytes counted.es counted.read) in
    record {
      counted = rw h.3 (counted_more _ _ _ _ (c.args.reads - (c.reads.counter + 1)) c.reads.judged _ counted went);
      checking = λ p version from is known came_first.
          let r = subst (IsChecking p version from _ c.reads.backplane c.reads.reader c.reads.judged) one_less (c.reads.invariant.checking p version from is known came_first) in
          let more = rw c.clear.ensures.items at (c.pump-more.ensures.reads r.reading.later r.es r.reading.read) in
          goes_on p version from _ _ c.check_piece-in-reads.new.backplane c.pump-more.new.reader c.reads.judged c.check_piece-in-reads.new.judged (c.args.reads - (c.reads.counter + 1)) r.es c.pump-more.new.edges.items r.unrefused r.state r.count c.pump-more.result
          (came [] [] from _ _ _ _ _ r.es _ r.reading c.pump-more.result more) (stays_known [] [] from _ _ _ _ _ r.es _ r.reading version r.known c.pump-more.result more) h;
    }

pub returns : goal.returns
returns g c =
    λ p version from is known came_first.
    too_many p version from _ c.reads.backplane c.reads.reader c.reads.judged (c.args.reads - c.reads.counter) (c.reads.invariant.checking p version from is known came_first)
