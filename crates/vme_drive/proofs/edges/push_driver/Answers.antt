use Rattle.std.proofs.Common.{◌≡◌, ◌∙◌, ap, ◌++◌, take, get_or, []}
use Rattle.std.proofs.lemmas.Bool.{cond_below, cond_above}
use Rattle.vme_drive.specs.declared.edges.TheConstants.{DRIVERS}
use Rattle.vme_drive.proofs.EdgeWords.{name_size, row_is_driver}
use Rattle.vme_drive.proofs.edges.push_driver.Goals as goal
use Rattle.vme_drive.proofs.edges.push_driver.Goals.{then-place-lt10, else-place-lt10}

pub returns-clause-text : goal.returns-clause-text
returns-clause-text c =
    let text = c.args.text.now in
    let place = c.driver_place-place.result in
    let size_is : c.if-place-lt10.append ≡ name_size place =
    elim c.if-place-lt10.branch [
      | then-place-lt10 w ↦ w.append-is ∙ cond_below place 10 2 3 w.if-place-lt10.true
      | else-place-lt10 w ↦ cond_above place 10 2 3 c.if-place-lt10.append w.if-place-lt10.false w.append-is
    ] in
    c.append.ensures
    ∙ ap (λ n. text ++ take n (get_or DRIVERS place [])) size_is
    ∙ ap (λ k. text ++ take (name_size k) (get_or DRIVERS k [])) c.driver_place-place.ensures.place
    ∙ ap (λ l. text ++ l) (row_is_driver c.args.driver c.requires.known)
