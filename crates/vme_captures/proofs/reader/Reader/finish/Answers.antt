use Rattle.std.proofs.Common.{arith}
use Rattle.vme_captures.proofs.Took.{ends_absent, ends_cut, ends_whole}
use Rattle.vme_captures.proofs.reader.Reader.finish.Goals as goal

pub returns-then-not-is_empty : goal.returns-then-not-is_empty
returns-then-not-is_empty c = λ p bytes said read. ends_cut p c.args.self.now bytes said read (grind arith)

pub returns-then-is_none : goal.returns-then-is_none
returns-then-is_none c = λ p bytes said read. ends_absent p c.args.self.now bytes said read (grind arith) (grind arith)

pub returns : goal.returns
returns c = λ p bytes said read. ends_whole p c.args.self.now bytes said read (grind arith) (grind arith)
