use Rattle.std.proofs.Common.{◌≡◌, ◌+◌, ◌-◌, append-nil, arith}
use Rattle.vme_reading.proofs.PairReads.{unread_came, one_read, piece_known, piece_came}
use Rattle.vme_reading.proofs.traces.Input.read_piece.Goals as goal

pub returns-then-self-eq0-clause-comes : goal.returns-then-self-eq0-clause-comes
returns-then-self-eq0-clause-comes g c = λ from v es h. record {
  known = h.known;
  came = rw (c.clear.ensures.items, append-nil) (unread_came from _ v es c.args.self.now h c.requires.goes_on c.args.self.now.reads);
}

pub returns-clause-comes : goal.returns-clause-comes
returns-clause-comes g c = λ from v es h.
    let left = c.args.self.now.reads - 1 in
    let one_less : c.args.self.now.reads ≡ left + 1 = omega arith in
    let to = g.R.Read.remaining c.pump_with-self.new.input in
    let r = one_read from _ v es c.args.self.now h c.requires.goes_on to left one_less in
    let p = rw (c.clear.ensures.items, c.requires.room) at (c.pump_with-self.ensures.reads r.later es r.read) in
    record {
      known = piece_known from _ v es c.args.self.now h c.requires.goes_on to left one_less _ _ _ p;
      came = piece_came from _ v es c.args.self.now h c.requires.goes_on to left one_less _ _ _ p;
    }
