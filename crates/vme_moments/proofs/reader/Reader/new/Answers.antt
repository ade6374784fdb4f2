use Rattle.std.proofs.Common.{◌≡◌, [], refl, rules}
use Rattle.vme_moments.proofs.InputRead.{new_reader}
use Rattle.vme_moments.proofs.reader.Reader.new.Goals as goal

pub returns : goal.returns
returns c =
    let none : c.new.result.items ≡ [] = search rules in
    let empty : c.new-2.result.items ≡ [] = search rules in
    new_reader _ refl refl refl empty none
