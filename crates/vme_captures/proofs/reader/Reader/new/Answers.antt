use Rattle.std.proofs.Common.{◌≡◌, [], refl, rules}
use Rattle.vme_captures.proofs.Took.{new_read}
use Rattle.vme_captures.proofs.reader.Reader.new.Goals as goal

pub returns : goal.returns
returns c =
    let none : c.new.result.items ≡ [] = search rules in
    let empty : c.new-2.result.items ≡ [] = search rules in
    λ p. new_read p _ refl refl none refl refl empty c.high.ensures
