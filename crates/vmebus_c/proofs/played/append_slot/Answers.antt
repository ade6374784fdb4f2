use Rattle.std.proofs.Common.{◌≡◌, ◌∙◌, sym, ap, ℕ, Bool, false, List, ◌++◌, filter, arith}
use Rattle.std.proofs.lemmas.Bool.Decides.{nat_tests}
use Rattle.std.proofs.lemmas.List.{append-nil}
use Rattle.vme_model.specs.declared.signals.Edge.{Edge}
use Rattle.vme_bus.specs.Sets.{has}
use Rattle.vme_seeds.specs.Kinds.{has_board}
use Rattle.vmebus_c.specs.Played.{is_played}
use Rattle.vmebus_c.proofs.AllPlayed.{no_edge_without_board}
use Rattle.vmebus_c.proofs.played.append_slot.Goals as goal

pub returns-then-not-has-clause-items : goal.returns-then-not-has-clause-items
returns-then-not-has-clause-items g c = λ version p h at is.
    let none : has c.args.boards c.args.slot ≡ false = grind (arith, nat_tests) in
    let out : has_board p c.args.slot ≡ false = sym (ap (λ (f : ℕ → Bool). f c.args.slot) is) ∙ none in
    sym (append-nil c.args.edges.now)
    ∙ ap (λ (es : List Edge). c.args.edges.now ++ filter (is_played c.args.wires.now) es) (sym (no_edge_without_board version p h c.args.slot out))
