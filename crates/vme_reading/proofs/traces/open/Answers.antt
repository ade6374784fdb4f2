use Rattle.std.proofs.Common.{◌≡◌, ◌-◌, ◌+◌, ℕ, [], length, None, Some, inl, refl, sym, ◌∙◌, arith, subst}
use Rattle.vme_reading.proofs.TraceReads.{IsReading, came, opens_more}
use Rattle.std.proofs.KnownBytes.{Consumes-nil}
use Rattle.vme_reading.proofs.TraceSoFar.{none_known}
use Rattle.vme_reading.proofs.CanGoOn.{can_go_on}
use Rattle.vme_reading.proofs.traces.open.Goals as goal

pub returns-then-is_settled : goal.returns-then-is_settled
returns-then-is_settled g c =
    let one_less : 16777216 - c.reads.done ≡ (16777215 - c.reads.done) + 1 = omega arith in
    let r = subst (λ (n : ℕ). IsReading [] (g.R.Read.remaining c.args.input.now) (g.R.Read.remaining c.reads.input) c.reads.reader n []) one_less c.reads.invariant.reading in
    let size : length c.reads.buffer ≡ 69632 = omega (arith, c.reads.auto.buffer, c.requires.room) in
    let h = rw (c.reads.invariant.empty, size) at (c.pump_with-more.ensures.reads r.later [] r.read) in
    (came [] _ _ _ _ _ (16777215 - c.reads.done) [] _ r c.pump_with-more.result h, c.is_settled.ensures.settled c.if-is_settled.true)

pub reads-preserved : goal.reads-preserved
reads-preserved g c =
    let one_less : 16777216 - c.reads.done ≡ (16777215 - c.reads.done) + 1 = omega arith in
    let left : 16777215 - c.reads.done ≡ 16777216 - (c.reads.done + 1) = omega arith in
    let r = subst (λ (n : ℕ). IsReading [] (g.R.Read.remaining c.args.input.now) (g.R.Read.remaining c.reads.input) c.reads.reader n []) one_less c.reads.invariant.reading in
    let goes = c.is_settled.ensures.goes_on c.if-is_settled.false in
    let size : length c.reads.buffer ≡ 69632 = omega (arith, c.reads.auto.buffer, c.requires.room) in
    let h = rw (c.reads.invariant.empty, goes.0, size) at (c.pump_with-more.ensures.reads r.later [] r.read) in
    let on = opens_more _ _ _ _ _ (16777215 - c.reads.done) _ r h goes.1 in
    record {
      reading = subst (λ (n : ℕ). IsReading [] (g.R.Read.remaining c.args.input.now) (g.R.Read.remaining c.pump_with-more.new.input) c.pump_with-more.new.reader n []) left on.0;
      version = goes.1;
      empty = on.1;
    }

pub returns : goal.returns
returns g c =
    let r = c.reads.invariant.reading in
    let unknown = c.reads.invariant.version in (
      (
        r.later,
        r.taken,
        inl (
          refl,
          record {
            version = sym r.read.version;
            edges = r.read.edges ∙ sym c.reads.invariant.empty;
            goes_on = can_go_on _ r.later [] r.read;
            begins = λ v known. absurd (let no : None ≡ Some v = sym unknown ∙ known in cc);
          },
        ),
      ),
      λ e. cc,
    )

pub reads-init : goal.reads-init
reads-init g c = record {
  reading = record { later = []; taken = Consumes-nil _; bounded = omega arith; read = c.requires.reader };
  version = none_known _ c.requires.reader;
  empty = c.requires.empty;
}
