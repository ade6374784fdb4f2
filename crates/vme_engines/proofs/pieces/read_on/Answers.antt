use Rattle.std.proofs.Common.{◌≡◌, ◌-◌, ◌+◌, ◌≤◌, ◌^◌, ◌++◌, ℕ, [], length, Ok, Err, arith, refl, ◌∙◌, ap, subst, append-nil}
use Rattle.std.proofs.lemmas.Result.{err_from_is_err_and}
use Rattle.vme_engines.specs.Steps.{IsCounted}
use Rattle.vme_engines.proofs.TraceReads.{came, stays_known, counted_few, counted_more}
use Rattle.vme_engines.proofs.ReadOn.{IsUnderWay, answers_so, answers_unread, goes_on}
use Rattle.vme_engines.proofs.FormedEdges.{formed_piece}
use Rattle.vme_engines.proofs.pieces.read_on.Goals as goal

pub returns-in_err-answer : goal.returns-in_err-answer
returns-in_err-answer g c =
    λ version from text head known came_first.
    let e = err_from_is_err_and c.from_residual.result c.from_residual.ensures.1 in
    let took = rw c.deref.ensures.value at (c.in_err-answer.ensures c.args.judge.now [] (g.W.Write.contents c.args.out.now) (g.met.J.Judge.begins c.args.judge.now (g.W.Write.contents c.args.out.now))) in
    rw (e.1, e.2)
    (answers_so (g.J.Judge.takes c.args.judge.now) version text head from _ _ _ c.args.reads c.args.reader.now c.args.edges.now.items known c.args.first c.take.new.self (Err c.in_err-answer.field-0.0) came_first took)

pub returns-in-Some : goal.returns-in-Some
returns-in-Some g c =
    λ version from text head known came_first.
    let took = rw (c.deref.ensures.value, c.in-Some.is) at (c.in_ok-answer.ensures c.args.judge.now [] (g.W.Write.contents c.args.out.now) (g.met.J.Judge.begins c.args.judge.now (g.W.Write.contents c.args.out.now))) in
    answers_so (g.J.Judge.takes c.args.judge.now) version text head from _ _ _ c.args.reads c.args.reader.now c.args.edges.now.items known c.args.first c.take.new.self (Ok c.in-Some.answer) came_first took

pub reads-init : goal.reads-init
reads-init g c =
    let all : c.args.reads ≡ c.args.reads - 0 = omega arith in
    let sum : 0 + length c.args.edges.now.items ≡ length c.args.edges.now.items = omega arith in
    let took = rw (c.deref.ensures.value, c.in-None.is) at (c.in_ok-answer.ensures c.args.judge.now [] (g.W.Write.contents c.args.out.now) (g.met.J.Judge.begins c.args.judge.now (g.W.Write.contents c.args.out.now))) in
    let on = g.met.J.Judge.goes_on c.args.judge.now c.args.edges.now.items c.args.first _ _ c.take.new.self took in
    let count : g.J.Judge.count c.take.new.self ≡ length c.args.edges.now.items = on.1 ∙ ap (λ n. n + length c.args.edges.now.items) c.requires.begun ∙ sum in
    record {
      counted = subst (λ (n : ℕ). IsCounted c.args.reader.now n (g.J.Judge.count c.take.new.self)) all (rw count (c.requires.counted on.0));
      under_way = λ version from text head known came_first.
          subst (IsUnderWay (g.J.Judge.takes c.args.judge.now) version text head from _ _ _ c.take.new.self c.args.reader.now) all
          (goes_on (g.J.Judge.takes c.args.judge.now) version text head from _ _ _ c.args.reads c.args.reader.now c.args.edges.now.items known c.args.first c.take.new.self on.0 came_first took);
    }

pub take-requires-in-reads : goal.take-requires-in-reads
take-requires-in-reads g c =
    let few : g.J.Judge.count c.reads.judge ≤ 2 ^ 41 = counted_few _ _ _ c.reads.invariant.counted in
    let same = ap length c.deref-in-reads.ensures.value in
    record {
      count = omega (arith, same, c.pump_counted-more.new.edges.small, c.pump_counted-more.new.edges.ok.0, c.pump_counted-more.new.edges.ok.1);
      well_formed = rw c.deref-in-reads.ensures.value
          (let counted = c.reads.invariant.counted in
          let size : length c.reads.buffer ≡ 69632 = omega (arith, c.reads.auto.buffer, c.requires.room) in
          formed_piece _ _ counted.bytes c.pump_counted-more.new.reader counted.es c.pump_counted-more.new.edges.items c.pump_counted-more.result.0 (rw (c.clear.ensures.items, size) at (c.pump_counted-more.ensures.reads counted.bytes counted.es counted.read)));
    }

pub returns-in_err-answer-2 : goal.returns-in_err-answer-2
returns-in_err-answer-2 g c =
    λ version from text head known came_first.
    let e = err_from_is_err_and c.from_residual-in_err-answer-2.result c.from_residual-in_err-answer-2.ensures.1 in
    let one_less : c.args.reads - c.reads.counter ≡ (c.args.reads - (c.reads.counter + 1)) + 1 = omega arith in
    let r = subst (IsUnderWay (g.J.Judge.takes c.args.judge.now) version text head from _ _ _ c.reads.judge c.reads.reader) one_less (c.reads.invariant.under_way version from text head known came_first) in
    let size : length c.reads.buffer ≡ 69632 = omega (arith, c.reads.auto.buffer, c.requires.room) in
    let h = rw (c.clear.ensures.items, size) at (c.pump_counted-more.ensures.reads (head ++ r.reading.later) r.es r.reading.read) in
    let next = came text head from _ _ _ _ _ r.es _ r.reading c.pump_counted-more.result.0 h in
    let stays = stays_known text head from _ _ _ _ _ r.es _ r.reading version r.known c.pump_counted-more.result.0 h in
    let took = rw c.deref-in-reads.ensures.value at (c.in_err-answer-2.ensures c.args.judge.now r.es (g.W.Write.contents c.args.out.now) r.taken) in
    rw (e.1, e.2) (answers_so (g.J.Judge.takes c.args.judge.now) version text head from _ _ _ (c.args.reads - (c.reads.counter + 1)) c.pump_counted-more.new.reader (r.es ++ c.pump_counted-more.new.edges.items) stays c.pump_counted-more.result.0 c.take-in-reads.new.self (Err c.in_err-answer-2.field-0.0) next took)

pub returns-in-Some-2 : goal.returns-in-Some-2
returns-in-Some-2 g c =
    λ version from text head known came_first.
    let one_less : c.args.reads - c.reads.counter ≡ (c.args.reads - (c.reads.counter + 1)) + 1 = omega arith in
    let r = subst (IsUnderWay (g.J.Judge.takes c.args.judge.now) version text head from _ _ _ c.reads.judge c.reads.reader) one_less (c.reads.invariant.under_way version from text head known came_first) in
    let size : length c.reads.buffer ≡ 69632 = omega (arith, c.reads.auto.buffer, c.requires.room) in
    let h = rw (c.clear.ensures.items, size) at (c.pump_counted-more.ensures.reads (head ++ r.reading.later) r.es r.reading.read) in
    let next = came text head from _ _ _ _ _ r.es _ r.reading c.pump_counted-more.result.0 h in
    let stays = stays_known text head from _ _ _ _ _ r.es _ r.reading version r.known c.pump_counted-more.result.0 h in
    let took = rw (c.deref-in-reads.ensures.value, c.in-Some-2.is) at (c.in_ok-answer-2.ensures c.args.judge.now r.es (g.W.Write.contents c.args.out.now) r.taken) in
    answers_so (g.J.Judge.takes c.args.judge.now) version text head from _ _ _ (c.args.reads - (c.reads.counter + 1)) c.pump_counted-more.new.reader (r.es ++ c.pump_counted-more.new.edges.items) stays c.pump_counted-more.result.0 c.take-in-reads.new.self (Ok c.in-Some-2.answer) next took

pub reads-preserved : goal.reads-preserved
reads-preserved g c =
    let less : c.args.reads - c.reads.counter ≡ (c.args.reads - (c.reads.counter + 1)) + 1 = omega arith in
    let counted = subst (λ (n : ℕ). IsCounted c.reads.reader n (g.J.Judge.count c.reads.judge)) less c.reads.invariant.counted in
    let here = rw (c.deref-in-reads.ensures.value, c.in-None-2.is) at (c.in_ok-answer-2.ensures c.reads.judge [] (g.W.Write.contents c.reads.out) (g.met.J.Judge.begins c.reads.judge (g.W.Write.contents c.reads.out))) in
    let grown = g.met.J.Judge.goes_on c.reads.judge c.pump_counted-more.new.edges.items c.pump_counted-more.result.0 _ _ c.take-in-reads.new.self here in
    let size : length c.reads.buffer ≡ 69632 = omega (arith, c.reads.auto.buffer, c.requires.room) in
    let went = rw (c.clear.ensures.items, grown.0, size) at (c.pump_counted-more.ensures.reads counted.bytes counted.es counted.read) in
    record {
      counted = rw grown.1 (counted_more _ _ _ _ (c.args.reads - (c.reads.counter + 1)) (g.J.Judge.count c.reads.judge) _ counted went);
      under_way = λ version from text head known came_first.
          let one_less : c.args.reads - c.reads.counter ≡ (c.args.reads - (c.reads.counter + 1)) + 1 = omega arith in
          let r = subst (IsUnderWay (g.J.Judge.takes c.args.judge.now) version text head from _ _ _ c.reads.judge c.reads.reader) one_less (c.reads.invariant.under_way version from text head known came_first) in
          let size : length c.reads.buffer ≡ 69632 = omega (arith, c.reads.auto.buffer, c.requires.room) in
          let h = rw (c.clear.ensures.items, size) at (c.pump_counted-more.ensures.reads (head ++ r.reading.later) r.es r.reading.read) in
          let next = came text head from _ _ _ _ _ r.es _ r.reading c.pump_counted-more.result.0 h in
          let stays = stays_known text head from _ _ _ _ _ r.es _ r.reading version r.known c.pump_counted-more.result.0 h in
          let took = rw (c.deref-in-reads.ensures.value, c.in-None-2.is) at (c.in_ok-answer-2.ensures c.args.judge.now r.es (g.W.Write.contents c.args.out.now) r.taken) in
          let on = g.met.J.Judge.goes_on c.args.judge.now (r.es ++ c.pump_counted-more.new.edges.items) c.pump_counted-more.result.0 _ _ c.take-in-reads.new.self took in
          goes_on (g.J.Judge.takes c.args.judge.now) version text head from _ _ _ (c.args.reads - (c.reads.counter + 1)) c.pump_counted-more.new.reader (r.es ++ c.pump_counted-more.new.edges.items) stays c.pump_counted-more.result.0 c.take-in-reads.new.self on.0 next took;
    }

pub take-requires-2 : goal.take-requires-2
take-requires-2 g c =
    let few : g.J.Judge.count c.reads.judge ≤ 2 ^ 41 = counted_few _ _ _ c.reads.invariant.counted in
    record { count = omega (arith, few); well_formed = refl }

pub returns-in_err-answer-3 : goal.returns-in_err-answer-3
returns-in_err-answer-3 g c =
    λ version from text head known came_first.
    let e = err_from_is_err_and c.from_residual-in_err-answer-3.result c.from_residual-in_err-answer-3.ensures.1 in
    let r = c.reads.invariant.under_way version from text head known came_first in
    let took = rw (append-nil r.es) at (c.in_err-answer-3.ensures c.args.judge.now r.es (g.W.Write.contents c.args.out.now) r.taken) in
    rw (e.1, e.2) (answers_unread (g.J.Judge.takes c.args.judge.now) version text head from _ _ _ (c.args.reads - c.reads.counter) c.reads.reader r.es r.known c.take-2.new.self (Err c.in_err-answer-3.field-0.0) r.reading took)

pub returns-in-Some-3 : goal.returns-in-Some-3
returns-in-Some-3 g c =
    λ version from text head known came_first.
    let r = c.reads.invariant.under_way version from text head known came_first in
    let took = rw (append-nil r.es, c.in-Some-3.is) at (c.in_ok-answer-3.ensures c.args.judge.now r.es (g.W.Write.contents c.args.out.now) r.taken) in
    (answers_unread (g.J.Judge.takes c.args.judge.now) version text head from _ _ _ (c.args.reads - c.reads.counter) c.reads.reader r.es r.known c.take-2.new.self (Ok c.in-Some-3.answer) r.reading took)

pub returns-in-None-3 : goal.returns-in-None-3
returns-in-None-3 g c =
    λ version from text head known came_first.
    let r = c.reads.invariant.under_way version from text head known came_first in
    let took = rw (append-nil r.es, c.in-None-3.is) at (c.in_ok-answer-3.ensures c.args.judge.now r.es (g.W.Write.contents c.args.out.now) r.taken) in
    let on = g.met.J.Judge.goes_on c.args.judge.now r.es _ _ _ c.take-2.new.self took in
    absurd (let never = on.0 in cc)
