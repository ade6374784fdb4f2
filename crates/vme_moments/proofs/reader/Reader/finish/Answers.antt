use Rattle.std.proofs.Common.{arith}
use Rattle.vme_moments.proofs.TakenBytes.{ends_absent, ends_cut, ends_whole}
use Rattle.vme_moments.proofs.reader.Reader.finish.Goals as goal

pub returns-then-not-is_empty : goal.returns-then-not-is_empty
returns-then-not-is_empty c = ends_cut c.args.self c.requires (grind arith)

pub returns-in-Some : goal.returns-in-Some
returns-in-Some c = ends_whole c.args.self c.in-Some.version c.requires (grind arith) c.in-Some.is

pub returns-in-None : goal.returns-in-None
returns-in-None c = ends_absent c.args.self c.requires (grind arith) c.in-None.is
