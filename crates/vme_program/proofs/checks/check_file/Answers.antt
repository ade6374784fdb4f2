use Rattle.std.proofs.Common.{sym, subst, Ok}
use Rattle.std.proofs.KnownBytes.{Appends-nil}
use Rattle.vme_program.specs.CheckedFiles.{file_line}
use Rattle.vme_program.specs.CheckingFiles.{Writes}
use Rattle.vme_program.proofs.CheckedFiles.{writes}
use Rattle.vme_program.proofs.checks.check_file.Goals as goal

pub returns-in-Ok : goal.returns-in-Ok
returns-in-Ok g c = λ p short is. (
  c.find_in_file-found.result,
  c.find_in_file-found.ensures p short is,
  c.note.ensures,
  subst (λ found. Writes (g.W.Write.contents c.args.out.now) (g.W.Write.contents c.write_found.new.out) (file_line c.args.trace.now found) c.write_found.result) (sym c.in-Ok.is)
      (writes _ _ _ c.write_found.result c.write_found.ensures.ok c.write_found.ensures.front c.write_found.ensures.fault),
)

pub returns-in-Err : goal.returns-in-Err
returns-in-Err g c = λ p short is. (
  c.find_in_file-found.result,
  c.find_in_file-found.ensures p short is,
  c.note.ensures,
  subst (λ found. Writes (g.W.Write.contents c.args.out.now) (g.W.Write.contents c.args.out.now) (file_line c.args.trace.now found) (Ok tt)) (sym c.in-Err.is) (Appends-nil _),
)
