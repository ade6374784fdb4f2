use Rattle.std.proofs.Common.{◌≡◌, ◌∙◌, ◌<◌, ◌≤◌, ◌+◌, ℕ, Bool, true, false, ap, sym, inl, inr, arith}
use Rattle.std.proofs.lemmas.Bool.{cases_Bool}
use Rattle.std.proofs.lemmas.Bool.Decides.{nat_tests}
use Rattle.std.specs.Prelude.{◌&&◌, nat_lt}
use Rattle.vme_bus.specs.Sets.{has}
use Rattle.vme_model.specs.Accepted.{IsAccepted}
use Rattle.vme_model.specs.Plan.{Plan}
use Rattle.vme_standings.specs.declared.fronts.Fronts.{Fronts}
use Rattle.vme_standings.specs.declared.interrupters.Interrupters.TheVariants.{All}
use Rattle.vme_standings.specs.Fronts.{input_place, is_reached}
use Rattle.vme_standings.specs.Interrupters.{is_meant, is_meant_at}
use Rattle.vme_standings.proofs.Slots.{all_within, slots_near}
use Rattle.vme_standings.proofs.standings.Standings.answering_at.Goals as goal

off : (s n : ℕ) → n ≤ 22 → 22 ≤ s → nat_lt s n ≡ false
off s n most far = grind (arith, nat_tests)

-- the acknowledge reaches no board beyond the slots
none_beyond : (p : Plan) → IsAccepted p → (f : Fronts) (s : ℕ) → 22 ≤ s → is_reached f p s ≡ false
none_beyond p ok f s far =
    ap (λ x. x && has f.ends (input_place p s))
    (sym (all_within p ok s (is_meant All)) ∙ ap (λ b. b && is_meant_at All p s) (off s (p.slots + 1) (slots_near p ok) far))

same : (a b c d e : Bool) → b ≡ d → c ≡ e → (a && (b && c)) ≡ (a && (d && e))
same a b c d e f g = grind arith

none : (a b c : Bool) → b ≡ false → (a && (b && c)) ≡ false
none a b c e = grind arith

below : (s : ℕ) → nat_lt s 22 ≡ true → s < 22
below s e = grind (arith, nat_tests)

beyond : (s : ℕ) → nat_lt s 22 ≡ false → 22 ≤ s
beyond s e = grind (arith, nat_tests)

pub returns : goal.returns
returns c s = elim (cases_Bool (nat_lt s 22)) [
  | inl near ↦ (c.answering.ensures.within s (below s near) ∙ same _ _ _ _ _ (c.reached-near.ensures s) (c.answering_with-able.ensures s))
  | inr far ↦ (c.answering.ensures.beyond s (beyond s far) ∙ sym (none _ _ _ (none_beyond c.args.plan.now c.accepted.ensures c.args.self.now.fronts s (beyond s far))))
]
