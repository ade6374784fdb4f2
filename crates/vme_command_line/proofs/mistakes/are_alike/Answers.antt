use Rattle.std.proofs.Common.{rules, ◌≡◌, length, eq-eqb}
use Rattle.std.proofs.lemmas.Iterator.{YieldsList-from_zip, YieldsList-from_slice}
use Rattle.std.proofs.lemmas.Iterator.Search.{all_from_yields_List}
use Rattle.std.specs.List.{list_all, zip}
use Rattle.vme_command_line.specs.Mistakes as spec
use Rattle.vme_command_line.proofs.mistakes.are_alike.Goals as goal

pub returns-then-words-text : goal.returns-then-words-text
returns-then-words-text c =
    let all : c.all.result ≡ list_all (λ p. spec.is_alike p.0 p.1) (zip c.args.words.now c.args.text.now) =
    all_from_yields_List {s = c.zip.result} (λ p. spec.is_alike p.0 p.1) c.all.new.self _ c.all.result c.all.ensures.ran
    (YieldsList-from_zip (YieldsList-from_slice c.args.words.now search (rules, c.zip.ensures, c.iter.ensures)) (YieldsList-from_slice c.args.text.now search (rules, c.zip.ensures, c.iter.ensures)))
    (λ x b q k. search (rules, k)) in
    rw (eq-eqb (length c.args.words.now) (length c.args.text.now) c.if-words-text.true) all
