use Rattle.std.proofs.Common.{◌≡◌, ◌∙◌, ◌<◌, ◌+◌, ℕ, true, false, sym, ap, arith}
use Rattle.std.specs.Prelude.{◌==◌, not}
use Rattle.std.proofs.lemmas.Bool.Decides.{nat_tests}
use Rattle.vme_bus.specs.Sets.{has}
use Rattle.vme_model.proofs.Bools.{and_left, and_right, is_false, not_true}
use Rattle.vme_standings.specs.Phases.{has_phase, held_row}
use Rattle.vme_standings.proofs.Growing.{both}
use Rattle.vme_standings.proofs.Rows.{each_row, free_kept}
use Rattle.vme_standings.proofs.grants.behind_request.Goals as goal

pub loop-slot-preserved : goal.loop-slot-preserved
loop-slot-preserved c =
    let inv = c.loop-slot.invariant in
    let k = c.loop-slot.slot in
    let row = c.row_if.ensures in
    let read = c.held_row.ensures in
    let alone = c.is_alone-is_alone.ensures in
    record {
      kept = each_row k _ c.loop-slot.behind _ c.set_held_row.ensures (λ b r. (t : ℕ) → has r t ≡ true → has (held_row c.args.phases.now b) t ≡ true)
          (λ t h. ap (λ r. has r t) (sym read) ∙ and_right _ _ (sym (row t) ∙ h))
          (λ b _ t h. inv.kept b t h);
      another = λ b t l h a. each_row k _ c.loop-slot.behind _ c.set_held_row.ensures (λ b r. (t : ℕ) → b < k + 1 → has r t ≡ true → has c.args.askers b ≡ true → (s : ℕ) × (has c.args.askers s ≡ true)
          × ((s == b) ≡ false))
          (λ t l h a. alone.other (not_true _ (and_left _ _ (sym (row t) ∙ h))) a)
          (λ b at t l h a. inv.another b t (grind (arith, nat_tests)) h a)
          b t l h a;
      others = each_row k _ c.loop-slot.behind _ c.set_held_row.ensures (λ b r. (t : ℕ) → has (held_row c.args.phases.now b) t ≡ true → has c.args.askers b ≡ false → has r t ≡ true)
          (λ t h a. row t ∙ both _ _ (ap not (is_false _ (λ x. cc (alone.held x, a)))) (ap (λ r. has r t) read ∙ h))
          (λ b _ t h a. inv.others b t h a);
      several = each_row k _ c.loop-slot.behind _ c.set_held_row.ensures (λ b r. (t s : ℕ) → has (held_row c.args.phases.now b) t ≡ true → s < 32 → has c.args.askers s ≡ true → (s == b) ≡ false
          → has r t ≡ true)
          (λ t s h l a n. row t ∙ both _ _ (ap not (is_false _ (λ x. let e = alone.alone x s l a in grind (arith, nat_tests)))) (ap (λ r. has r t) read ∙ h))
          (λ b _ t s h l a n. inv.several b t s h l a n);
      free = free_kept k _ c.loop-slot.behind _ (λ q. has_phase c.args.phases.now q) c.set_held_row.ensures inv.free;
    }
