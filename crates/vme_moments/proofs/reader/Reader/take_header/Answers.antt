use Rattle.std.proofs.Common.{◌≡◌, ◌∷◌, [], Some, None, sym, ◌∙◌, ap}
use Rattle.vme_model.specs.Text.{version_of}
use Rattle.vme_moments.proofs.TakenBytes.{header_absent, header_sound, header_taken, start_over}
use Rattle.vme_moments.proofs.reader.Reader.take_header.Goals as goal

pub returns-in-Some : goal.returns-in-Some
returns-in-Some c =
    let named : version_of c.args.self.now.part.items ≡ Some c.in-Some.version =
    ap version_of (sym c.as_slice.ensures.value) ∙ sym c.header_of.ensures ∙ c.in-Some.is in (
      header_sound c.args.self.now c.go_on.new.self c.in-Some.version c.requires.sound
          c.go_on.ensures.part c.go_on.ensures.version c.go_on.ensures.seen,
      header_taken c.args.self.now c.go_on.new.self c.in-Some.version c.requires.sound c.requires.unnamed named
          c.go_on.ensures.part c.go_on.ensures.version c.go_on.ensures.line c.go_on.ensures.last
          c.go_on.ensures.seen,
      start_over c.args.self.now c.go_on.new.self (10 ∷ []) c.in-Some.version c.go_on.ensures.version,
    )

pub returns-in-None : goal.returns-in-None
returns-in-None c =
    let named : version_of c.args.self.now.part.items ≡ None =
    ap version_of (sym c.as_slice.ensures.value) ∙ sym c.header_of.ensures ∙ c.in-None.is in
    header_absent c.args.self.now c.requires.sound c.requires.unnamed named
