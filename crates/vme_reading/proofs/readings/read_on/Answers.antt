use Rattle.std.proofs.Common.{◌≡◌, ◌-◌, ◌+◌, ◌≤◌, ◌^◌, ◌++◌, ℕ, [], length, Ok, Err, arith, refl, ◌∙◌, ap, subst, append-nil}
use Rattle.std.proofs.lemmas.Result.{err_from_is_err_and}
use Rattle.vme_trace.specs.declared.Fault.TheVariants.{Read}
use Rattle.vme_reading.specs.Steps.{IsCounted}
use Rattle.vme_reading.proofs.TraceReads.{came, stays_known, counted_few, counted_more}
use Rattle.vme_reading.proofs.ReadTraces.{IsUnderWay, leaves_so, leaves_unread, took_err, took_none, took_some, under_way, went_on}
use Rattle.vme_reading.proofs.FormedEdges.{formed_piece}
use Rattle.vme_reading.proofs.readings.read_on.Goals as goal

pub returns-in_err-answer : goal.returns-in_err-answer
returns-in_err-answer g c =
    λ task p v begun from head known came_first.
    let e = err_from_is_err_and c.from_residual.result c.from_residual.ensures.1 in
    let took = took_err (g.J.Judge.stands task p v) (g.J.Judge.leaves task p) v _ _ _ _ _ c.take.new.self c.deref.ensures.value _ (c.in_err-answer.ensures.takes task p v [] _ begun) in
    rw (e.1, e.2) (leaves_so v head from _ _ _ c.args.reads c.args.reader.now c.args.edges.now.items known (g.J.Judge.leaves task p) c.args.first (Err c.in_err-answer.field-0.0) came_first took)

pub returns-in-Some : goal.returns-in-Some
returns-in-Some g c =
    λ task p v begun from head known came_first.
    let took = took_some (g.J.Judge.stands task p v) (g.J.Judge.leaves task p) v _ _ _ _ _ _ c.deref.ensures.value _ _ c.in-Some.is (c.in_ok-answer.ensures.takes task p v [] _ begun) in
    leaves_so v head from _ _ _ c.args.reads c.args.reader.now c.args.edges.now.items known (g.J.Judge.leaves task p) c.args.first (Ok c.in-Some.answer) came_first took

pub reads-init : goal.reads-init
reads-init g c =
    let all : c.args.reads ≡ c.args.reads - 0 = omega arith in
    let sum : 0 + length c.args.edges.now.items ≡ length c.args.edges.now.items = omega arith in
    let on = went_on _ _ _ _ c.in-None.is c.in_ok-answer.ensures.goes_on in
    let count : g.J.Judge.count c.take.new.self ≡ length c.args.edges.now.items = on.1 ∙ ap (λ n. n + length c.deref.result.now) c.requires.begun ∙ ap (λ l. 0 + length l)
    c.deref.ensures.value ∙ sum in
    record {
      counted = subst (λ (n : ℕ). IsCounted c.args.reader.now n (g.J.Judge.count c.take.new.self)) all (rw count (c.requires.counted on.0));
      under_way = λ task p v from head begun known came_first.
          let took = took_none (g.J.Judge.stands task p v) (g.J.Judge.leaves task p) v _ _ _ _ _ _ c.deref.ensures.value _ c.in-None.is (c.in_ok-answer.ensures.takes task p v [] _ begun) in
          subst (IsUnderWay (g.J.Judge.stands task p v) v head from _ _ _ c.take.new.self c.args.reader.now) all
          (under_way v head from _ _ _ c.args.reads c.args.reader.now c.args.edges.now.items known (g.J.Judge.stands task p v) c.args.first c.take.new.self on.0 came_first took);
    }

pub take-requires-in-reads : goal.take-requires-in-reads
take-requires-in-reads g c =
    let few : g.J.Judge.count c.reads.judge ≤ 2 ^ 41 = counted_few _ _ _ c.reads.invariant.counted in
    let same = ap length c.deref-in-reads.ensures.value in
    record {
      count = omega (arith, same, c.pump_counted-more.new.edges.small, c.pump_counted-more.new.edges.ok.0, c.pump_counted-more.new.edges.ok.1);
      well_formed = rw c.deref-in-reads.ensures.value
          (let counted = c.reads.invariant.counted in
          let size : length c.reads.buffer ≡ 69632 = omega (arith, c.reads.auto.buffer, c.requires.room) in
          formed_piece _ _ counted.bytes _ counted.es _ _ (rw (c.clear.ensures.items, size) at (c.pump_counted-more.ensures.reads counted.bytes counted.es counted.read)));
    }

pub returns-in_err-answer-2 : goal.returns-in_err-answer-2
returns-in_err-answer-2 g c =
    λ task p v begun from head known came_first.
    let e = err_from_is_err_and c.from_residual-in_err-answer-2.result c.from_residual-in_err-answer-2.ensures.1 in
    let one_less : c.args.reads - c.reads.counter ≡ (c.args.reads - (c.reads.counter + 1)) + 1 = omega arith in
    let r = subst (IsUnderWay (g.J.Judge.stands task p v) v head from _ _ _ c.reads.judge c.reads.reader) one_less (c.reads.invariant.under_way task p v from head begun known came_first) in
    let size : length c.reads.buffer ≡ 69632 = omega (arith, c.reads.auto.buffer, c.requires.room) in
    let h = rw (c.clear.ensures.items, size) at (c.pump_counted-more.ensures.reads (head ++ r.reading.later) r.es r.reading.read) in
    let next = came head from _ _ _ _ _ r.es _ r.reading c.pump_counted-more.result.0 h in
    let stays = stays_known head from _ _ _ _ _ r.es _ r.reading v r.known c.pump_counted-more.result.0 h in
    let took = took_err (g.J.Judge.stands task p v) (g.J.Judge.leaves task p) v _ _ _ _ _ c.take-in-reads.new.self (ap (λ l. r.es ++ l) c.deref-in-reads.ensures.value) _
    (c.in_err-answer-2.ensures.takes task p v r.es _ r.stands_so) in
    rw (e.1, e.2) (leaves_so v head from _ _ _ (c.args.reads - (c.reads.counter + 1)) _ (r.es ++ _) stays (g.J.Judge.leaves task p) _ (Err _) next took)

pub returns-in-Some-2 : goal.returns-in-Some-2
returns-in-Some-2 g c =
    λ task p v begun from head known came_first.
    let one_less : c.args.reads - c.reads.counter ≡ (c.args.reads - (c.reads.counter + 1)) + 1 = omega arith in
    let r = subst (IsUnderWay (g.J.Judge.stands task p v) v head from _ _ _ c.reads.judge c.reads.reader) one_less (c.reads.invariant.under_way task p v from head begun known came_first) in
    let size : length c.reads.buffer ≡ 69632 = omega (arith, c.reads.auto.buffer, c.requires.room) in
    let h = rw (c.clear.ensures.items, size) at (c.pump_counted-more.ensures.reads (head ++ r.reading.later) r.es r.reading.read) in
    let next = came head from _ _ _ _ _ r.es _ r.reading c.pump_counted-more.result.0 h in
    let stays = stays_known head from _ _ _ _ _ r.es _ r.reading v r.known c.pump_counted-more.result.0 h in
    let took = took_some (g.J.Judge.stands task p v) (g.J.Judge.leaves task p) v _ _ _ _ _ _ (ap (λ l. r.es ++ l) c.deref-in-reads.ensures.value) _ _ c.in-Some-2.is
    (c.in_ok-answer-2.ensures.takes task p v r.es _ r.stands_so) in
    leaves_so v head from _ _ _ (c.args.reads - (c.reads.counter + 1)) _ (r.es ++ _) stays (g.J.Judge.leaves task p) _ (Ok _) next took

pub reads-preserved : goal.reads-preserved
reads-preserved g c =
    let less : c.args.reads - c.reads.counter ≡ (c.args.reads - (c.reads.counter + 1)) + 1 = omega arith in
    let counted = subst (λ (n : ℕ). IsCounted c.reads.reader n (g.J.Judge.count c.reads.judge)) less c.reads.invariant.counted in
    let on = went_on _ _ _ _ c.in-None-2.is c.in_ok-answer-2.ensures.goes_on in
    let grown = on.1 ∙ ap (λ l. g.J.Judge.count c.reads.judge + length l) c.deref-in-reads.ensures.value in
    let size : length c.reads.buffer ≡ 69632 = omega (arith, c.reads.auto.buffer, c.requires.room) in
    let went = rw (c.clear.ensures.items, on.0, size) at (c.pump_counted-more.ensures.reads counted.bytes counted.es counted.read) in
    record {
      counted = rw grown (counted_more _ _ _ _ (c.args.reads - (c.reads.counter + 1)) (g.J.Judge.count c.reads.judge) _ counted went);
      under_way = λ task p v from head begun known came_first.
          let r = subst (IsUnderWay (g.J.Judge.stands task p v) v head from _ _ _ c.reads.judge c.reads.reader) less (c.reads.invariant.under_way task p v from head begun known came_first) in
          let h = rw (c.clear.ensures.items, size) at (c.pump_counted-more.ensures.reads (head ++ r.reading.later) r.es r.reading.read) in
          let next = came head from _ _ _ _ _ r.es _ r.reading c.pump_counted-more.result.0 h in
          let stays = stays_known head from _ _ _ _ _ r.es _ r.reading v r.known c.pump_counted-more.result.0 h in
          let took = took_none (g.J.Judge.stands task p v) (g.J.Judge.leaves task p) v _ _ _ _ _ _ (ap (λ l. r.es ++ l) c.deref-in-reads.ensures.value) _ c.in-None-2.is
          (c.in_ok-answer-2.ensures.takes task p v r.es _ r.stands_so) in
          under_way v head from _ _ _ (c.args.reads - (c.reads.counter + 1)) _ (r.es ++ _) stays (g.J.Judge.stands task p v) _ _ on.0 next took;
    }

pub take-requires-2 : goal.take-requires-2
take-requires-2 g c =
    let few : g.J.Judge.count c.reads.judge ≤ 2 ^ 41 = counted_few _ _ _ c.reads.invariant.counted in
    record { count = omega (arith, few); well_formed = refl }

pub returns-in_err-answer-3 : goal.returns-in_err-answer-3
returns-in_err-answer-3 g c =
    λ task p v begun from head known came_first.
    let e = err_from_is_err_and c.from_residual-in_err-answer-3.result c.from_residual-in_err-answer-3.ensures.1 in
    let r = c.reads.invariant.under_way task p v from head begun known came_first in
    let took = took_err (g.J.Judge.stands task p v) (g.J.Judge.leaves task p) v _ _ (Err Read) _ _ c.take-2.new.self (append-nil r.es) _ (c.in_err-answer-3.ensures.takes task p v r.es _ r.stands_so)
    in
    rw (e.1, e.2) (leaves_unread v head from _ _ _ (c.args.reads - c.reads.counter) c.reads.reader r.es r.known (g.J.Judge.leaves task p) (Err c.in_err-answer-3.field-0.0) r.reading took)

pub returns-in-Some-3 : goal.returns-in-Some-3
returns-in-Some-3 g c =
    λ task p v begun from head known came_first.
    let r = c.reads.invariant.under_way task p v from head begun known came_first in
    let took = took_some (g.J.Judge.stands task p v) (g.J.Judge.leaves task p) v _ _ (Err Read) _ _ _ (append-nil r.es) _ _ c.in-Some-3.is (c.in_ok-answer-3.ensures.takes task p v r.es _ r.stands_so)
    in
    leaves_unread v head from _ _ _ (c.args.reads - c.reads.counter) c.reads.reader r.es r.known (g.J.Judge.leaves task p) (Ok c.in-Some-3.answer) r.reading took

pub returns-in-None-3 : goal.returns-in-None-3
returns-in-None-3 g c =
    let on = went_on _ _ _ _ c.in-None-3.is c.in_ok-answer-3.ensures.goes_on in
    absurd (let never = on.0 in cc)
