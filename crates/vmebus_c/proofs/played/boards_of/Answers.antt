use Rattle.std.proofs.Common.{◌≡◌, ◌≢◌, ◌∙◌, ⊎_elim, refl, sym, ap, ℕ, ◌+◌, Bool, true, false, arith}
use Rattle.std.proofs.Math.Path.{fun_ext}
use Rattle.std.proofs.lemmas.Bool.{cases_eq}
use Rattle.std.proofs.lemmas.Bool.Decides.{nat_tests}
use Rattle.std.specs.Prelude.{◌&&◌, nat_lt, Option, Some, None, is_some}
use Rattle.std.specs.Option.{option_map_or}
use Rattle.vme_model.specs.declared.boards.Row.{Row}
use Rattle.vme_model.specs.Plan.{board}
use Rattle.vme_bus.specs.Sets.{has}
use Rattle.vme_bus.specs.declared.sets.SlotSet.{SlotSet}
use Rattle.vme_bus.proofs.Boards.{all_below}
use Rattle.vme_seeds.specs.Kinds.{has_board}
use Rattle.vmebus_c.proofs.played.boards_of.Goals as goal
use Rattle.vmebus_c.proofs.played.boards_of.Goals.{then-has_board, else-has_board}

-- one slot more
step : (old new there : ℕ → Bool) (n : ℕ) → ((s : ℕ) → old s ≡ (nat_lt s n && there s)) → new n ≡ there n → ((s : ℕ) → s ≢ n → new s ≡ old s)
    → (s : ℕ) → new s ≡ (nat_lt s (n + 1) && there s)
step old new there n held here others s = ⊎_elim same other (cases_eq s n)
  where
    same : s ≡ n → new s ≡ (nat_lt s (n + 1) && there s)
    same is = let below : nat_lt s (n + 1) ≡ true = grind (arith, nat_tests) in ap new is ∙ here ∙ ap there (sym is) ∙ sym (ap (λ t. t && there s) below)

    other : s ≢ n → new s ≡ (nat_lt s (n + 1) && there s)
    other ne = let alike : nat_lt s n ≡ nat_lt s (n + 1) = grind (arith, nat_tests) in others s ne ∙ held s ∙ ap (λ t. t && there s) alike

pub loop-place-preserved : goal.loop-place-preserved
loop-place-preserved c = λ version p h at.
    let n = c.loop-place.place in
    let held = c.loop-place.invariant version p h at in
    let found : c.has_board.result ≡ has_board p n = c.has_board.ensures version p h at in
    elim c.if-has_board.branch [
      | then-has_board w ↦
          let is : c.if-has_board.boards ≡ w.with-boards.result = w.boards-is in
          step (has c.loop-place.boards) (has c.if-has_board.boards) (has_board p) n held
          (ap (λ (b : SlotSet). has b n) is ∙ w.with-boards.ensures.same ∙ sym w.if-has_board.true ∙ found)
          (λ s ne. ap (λ (b : SlotSet). has b s) is ∙ w.with-boards.ensures.others s ne)
      | else-has_board w ↦
          let is : c.if-has_board.boards ≡ c.loop-place.boards = w.boards-is in
          let not_below : nat_lt n n ≡ false = grind (arith, nat_tests) in
          step (has c.loop-place.boards) (has c.if-has_board.boards) (has_board p) n held
          (ap (λ (b : SlotSet). has b n) is ∙ held n ∙ ap (λ t. t && has_board p n) not_below ∙ sym w.if-has_board.false ∙ found)
          (λ s ne. ap (λ (b : SlotSet). has b s) is)
    ]

stands : (o : Option Row) → is_some o ≡ option_map_or (λ r. true) o false
stands None = refl
stands (Some r) = refl

pub returns : goal.returns
returns c = λ version p h at. fun_ext (λ (s : ℕ).
    let ended : c.loop-place.place ≡ 22 = grind (arith, nat_tests, c.loop-place.auto.place-end, c.loop-place-test.false) in
    c.loop-place.invariant version p h at s
    ∙ ap (λ n. nat_lt s n && has_board p s) ended
    ∙ ap (λ t. nat_lt s 22 && t) (stands (board p s))
    ∙ all_below p at.accepted s (λ r. true)
    ∙ sym (stands (board p s)))
