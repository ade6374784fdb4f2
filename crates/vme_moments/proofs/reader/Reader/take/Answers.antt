use Rattle.std.proofs.Common.{◌≡◌, ◌++◌, ◌∷◌, [], arith, refl, rules}
use Rattle.vme_moments.specs.declared.reader.Reader.{Reader}
use Rattle.vme_moments.proofs.TakenBytes.{byte_sound, byte_taken, byte_too_long}
use Rattle.vme_moments.proofs.reader.Reader.take.Goals as goal

pub returns-in-Ok : goal.returns-in-Ok
returns-in-Ok c =
    let new : Reader = record c.args.self.now { part = c.try_push.new.self } in
    let part : c.try_push.new.self.items ≡ c.args.self.now.part.items ++ c.args.byte ∷ [] = search rules in (
      byte_sound c.args.self.now new c.args.byte c.requires c.if-byte-eq10.false refl refl refl refl part (search rules),
      byte_taken c.args.self.now new c.args.byte refl refl refl refl part,
      λ none. (none, part),
    )

pub returns-in-Err : goal.returns-in-Err
returns-in-Err c =
    byte_too_long c.args.self.now c.args.byte c.requires c.if-byte-eq10.false (search (rules, arith))
