-- What an edge fails with the end of the trace, from what it fails without it.
use Rattle.std.proofs.Common.{◌≡◌, ◌∙◌, refl, sym, ap, Bool, true, false, [], ◌∷◌, length}
use Rattle.std.specs.Prelude.{◌==◌, ◌&&◌, not, Ok, Err, is_ok}
use Rattle.vme_model.specs.declared.conditions.Condition.TheVariants.{HasRoom}
use Rattle.vme_model.specs.declared.refusals.Refused.TheVariants.{TraceFull}
use Rattle.vme_model.specs.declared.signals.Edge.{Edge}
use Rattle.vme_model.specs.Guards.{asks, ◌⊓◌}
use Rattle.vme_model.specs.Verdict.{State, Judgement, check, judged, verdict, verdict_but_full}
use Rattle.vme_model.specs.Failing.{refused_for, tested_for, tested, tested_but_full, unmet, unmet_but_full}
use Rattle.vme_histories.proofs.Judged.{refused, passed}

module _ (b : State) (e : Edge) where
  abbrev without : Judgement
  without = verdict_but_full b.version b.plan b.history e

  abbrev at_end : Bool → Judgement
  at_end full = check (not full) TraceFull (Ok tt)

  abbrev is_full : Bool
  is_full = length b.history == b.max

  -- it lacks room if it is accepted without the end of the trace, and the end is reached
  lacking : (full : Bool) (j : Judgement) → is_full ≡ full → without ≡ j → (full && is_ok j) ≡ true → verdict b e ≡ Err TraceFull
  lacking true (Ok u) end so lacks = passed b.version b.plan b.history e (at_end is_full) so ∙ ap at_end end
  lacking true (Err r) end so lacks = absurd (cc)
  lacking false j end so lacks = absurd (cc)

  has_end : (full : Bool) (j : Judgement) → without ≡ j → (full && is_ok j) ≡ true → without ≡ Ok tt
  has_end true (Ok u) so lacks = so
  has_end true (Err r) so lacks = absurd (cc)
  has_end false j so lacks = absurd (cc)

  -- otherwise the answer is that without the end of the trace
  answered : (full : Bool) (j : Judgement) → is_full ≡ full → without ≡ j → (full && is_ok j) ≡ false → verdict b e ≡ without
  answered true (Ok u) end so has = absurd (cc)
  answered true (Err r) end so has = refused b.version b.plan b.history e r (at_end is_full) so ∙ sym so
  answered false j end so has = ap (λ full. judged b.version b.plan b.history e (at_end full)) end

  abbrev lacks_room : Bool
  lacks_room = is_full && is_ok without

  pub tested_without : lacks_room ≡ false → tested_but_full b.version b.plan b.history e ≡ tested b e
  tested_without has = sym (ap (tested_for b.version b.plan b.history e) (answered is_full without refl refl has))

  pub tested_room : lacks_room ≡ true → (tested_but_full b.version b.plan b.history e ⊓ asks HasRoom false) ≡ tested b e
  tested_room lacks =
      ap (λ (j : Judgement). tested_for b.version b.plan b.history e j ⊓ asks HasRoom false) (has_end is_full without refl lacks)
      ∙ sym (ap (tested_for b.version b.plan b.history e) (lacking is_full without refl refl lacks))

  pub unmet_without : lacks_room ≡ false → unmet_but_full b.version b.plan b.history e ≡ unmet b e
  unmet_without has = sym (ap (refused_for b.version b.plan b.history e) (answered is_full without refl refl has))

  pub unmet_room : lacks_room ≡ true → HasRoom ∷ [] ≡ unmet b e
  unmet_room lacks = sym (ap (refused_for b.version b.plan b.history e) (lacking is_full without refl refl lacks))
