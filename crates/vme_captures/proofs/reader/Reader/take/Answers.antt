use Rattle.std.proofs.Common.{◌≡◌, ◌++◌, ◌∷◌, [], arith, refl, rules}
use Rattle.vme_captures.specs.declared.reader.Reader.{Reader}
use Rattle.vme_captures.proofs.Took.{byte_taken, byte_too_long}
use Rattle.vme_captures.proofs.reader.Reader.take.Goals as goal

pub returns-then-byte-eq10 : goal.returns-then-byte-eq10
returns-then-byte-eq10 c = λ bytes said read. rw c.if-byte-eq10.true (c.take_line.ensures bytes said read)

pub returns-in-Ok : goal.returns-in-Ok
returns-in-Ok c =
    let new : Reader = record c.args.self.now { part = c.try_push.new.self } in
    let part : c.try_push.new.self.items ≡ c.args.self.now.part.items ++ c.args.byte ∷ [] = search rules in
    λ bytes said read.
    byte_taken c.args.plan.now c.args.self.now bytes said read new c.args.byte c.if-byte-eq10.false refl part (search rules)

pub returns-in-Err : goal.returns-in-Err
returns-in-Err c = λ bytes said read.
    byte_too_long c.args.plan.now c.args.self.now bytes said read c.args.self.now c.args.byte c.if-byte-eq10.false (search (rules, arith))
