use Rattle.std.proofs.Common.{◌∙◌, ◌≤◌, ◌++◌, length, take, ap, arith}
use Rattle.vme_text.proofs.Copied.{first_of_row}
use Rattle.vme_text.proofs.texts.Text.append.Goals as goal

pub returns : goal.returns
returns g c =
    let within : c.self.inside.len ≤ length c.self.inside.bytes = omega (arith, c.self.told, c.self.invariant) in
    first_of_row c.self.inside.len c.args.many g.row.N _ c.self.inside.bytes c.args.row.now _ within c.requires.many c.requires.row c.copy_from_slice.ensures.after
    ∙ ap (λ l. l ++ take c.args.many c.args.row.now) c.self.view_is
