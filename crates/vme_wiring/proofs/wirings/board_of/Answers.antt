use Rattle.std.proofs.Common.{◌≡◌, ◌∙◌, sym, ap, []}
use Rattle.std.specs.Prelude.{Some, option_map}
use Rattle.std.specs.Option.{option_copied}
use Rattle.vme_wiring.specs.Boards.{parts_of}
use Rattle.vme_wiring.specs.declared.boards.Board.{Board}
use Rattle.vme_wiring.proofs.wirings.board_of.Goals as goal

pub returns-in-Some : goal.returns-in-Some
returns-in-Some c =
    ap (λ (b : Board). Some b) (c.new.ensures c.args.plan.now)
    ∙ ap (option_map (parts_of c.args.version c.args.plan.now [])) (sym (ap option_copied c.in-Some.is) ∙ c.row.ensures)
