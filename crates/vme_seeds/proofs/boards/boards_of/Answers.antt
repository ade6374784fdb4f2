use Rattle.std.proofs.Common.{◌≡◌, ◌∙◌, refl, ap, ℕ, true, false, arith}
use Rattle.std.proofs.Math.Path.{fun_ext}
use Rattle.std.proofs.lemmas.Bool.Decides.{nat_tests}
use Rattle.std.specs.Prelude.{◌&&◌, nat_lt, Option, Some, None, is_some}
use Rattle.std.specs.Option.{option_map_or}
use Rattle.vme_model.specs.declared.boards.Row.{Row}
use Rattle.vme_model.specs.Plan.{board}
use Rattle.vme_bus.proofs.Boards.{all_below}
use Rattle.vme_seeds.specs.Kinds.{has_board}
use Rattle.vme_seeds.proofs.boards.boards_of.Goals as goal

stands : (o : Option Row) → is_some o ≡ option_map_or (λ r. true) o false
stands None = refl
stands (Some r) = refl

pub returns : goal.returns
returns c = fun_ext (λ (s : ℕ).
    let p = c.args.plan.now in
    let ended : c.loop-slot.slot ≡ 22 = grind (arith, nat_tests, c.loop-slot.auto.slot-end, c.loop-slot-test.false) in
    c.loop-slot.invariant.held s
    ∙ ap (λ n. nat_lt s n && has_board p s) ended
    ∙ ap (λ t. nat_lt s 22 && t) (stands (board p s))
    ∙ all_below p c.loop-slot.invariant.accepted s (λ r. true)
    ∙ back (board p s))
  where
    back : (o : Option Row) → option_map_or (λ r. true) o false ≡ is_some o
    back None = refl
    back (Some r) = refl
