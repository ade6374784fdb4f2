-- Both traces with the next edges.
use Rattle.std.proofs.Common.{◌≡◌, ◌+◌, ◌<◌, ◌^◌, ◌++◌, ◌∷◌, [], ℕ, Bool, false, true, List, Option, Some, None, length, refl, sym, ◌∙◌, subst, arith}
use Rattle.vme_model.specs.declared.refusals.Refused.{Refused}
use Rattle.vme_model.specs.declared.signals.Edge.{Edge}
use Rattle.vme_model.specs.declared.signals.Version.{Version}
use Rattle.vme_model.specs.Plan.{Plan}
use Rattle.vme_model.specs.Numbered.{Numbered, edges_in, numbered}
use Rattle.vme_model.specs.Verdict.{IsLegal}
use Rattle.vme_reading.specs.Refusals.{first_refusal}
use Rattle.vme_reading.specs.Outcomes.{bench}
use Rattle.vme_same.specs.declared.comparisons.Comparison.{Comparison}
use Rattle.vme_same.specs.declared.comparisons.Comparison.TheVariants.{Refuses}
use Rattle.vme_same.specs.declared.matching.Matching.{Matching}
use Rattle.vme_same.specs.declared.progress.Pairing.{Pairing}
use Rattle.vme_same.specs.declared.sides.Side.{Side}
use Rattle.vme_same.specs.Comparing.{IsComparison, IsFound, IsOutcome}
use Rattle.vme_same.specs.Kept.{IsGoing, IsSide, OfGoing, Runs}

module _ (p : Plan) (v w : Version) (es fs : List Edge) where
  -- the next edge of the first trace
  pub runs_first : (over : Bool) (e : Edge) (old : Matching) (side : Side) (pairing : Pairing)
      → Runs p v w es false fs over old → IsSide p v (es ++ e ∷ []) side
      → (side.refusal ≡ None → old.first.refusal ≡ None)
      → (side.refusal ≡ None
      → numbered (bench p v) (es ++ e ∷ []) ≡ (side.judged, e) ∷ numbered (bench p v) es)
      → OfGoing old.pairing (λ q a b k gs. old.pairing.has_ended ≡ false
      → IsLegal a q (e ∷ edges_in k) → IsGoing q a b ((side.judged, e) ∷ k) gs pairing)
      → pairing.has_ended ≡ old.pairing.has_ended → pairing.is_over ≡ old.pairing.is_over
      → Runs p v w (es ++ e ∷ []) false fs over
      (record { first = side; second = old.second; pairing = pairing })
  runs_first over e old side pairing runs is before next moves ended ends = record {
    first = is;
    second = runs.second;
    first_ends = ended ∙ runs.first_ends;
    second_ends = ends ∙ runs.second_ends;
    going = λ none other.
        let more = next none in
        let legal : IsLegal v p (e ∷ edges_in (numbered (bench p v) es)) =
        subst (λ (k : Numbered). IsLegal v p (edges_in k)) more (is.unrefused none).state.legal in
        subst (λ (k : Numbered). IsGoing p v w k fs pairing) (sym more)
        (moves p v w (numbered (bench p v) es) fs (runs.going (before none) other) runs.first_ends legal);
  }

  -- the next edge of the second one
  pub runs_second : (ended : Bool) (e : Edge) (old : Matching) (side : Side) (pairing : Pairing)
      → Runs p v w es ended fs false old → IsSide p w (fs ++ e ∷ []) side
      → (side.refusal ≡ None → old.second.refusal ≡ None) → old.second.judged + 1 < 2 ^ 64
      → OfGoing old.pairing (λ q a b k gs. old.pairing.is_over ≡ false
      → length gs + 1 < 2 ^ 64 → IsGoing q a b k (gs ++ e ∷ []) pairing)
      → pairing.has_ended ≡ old.pairing.has_ended → pairing.is_over ≡ old.pairing.is_over
      → Runs p v w es ended (fs ++ e ∷ []) false
      (record { first = old.first; second = side; pairing = pairing })
  runs_second ended e old side pairing runs is before room moves stays ends = record {
    first = runs.first;
    second = is;
    first_ends = stays ∙ runs.first_ends;
    second_ends = ends ∙ runs.second_ends;
    going = λ none other.
        let count = runs.second.judged in
        moves p v w (numbered (bench p v) es) fs (runs.going none (before other)) runs.second_ends
        (omega (arith, count, room));
  }

  -- it goes on without more edges
  pub runs_on : (ended over first second : Bool) (old : Matching) (pairing : Pairing)
      → Runs p v w es ended fs over old
      → OfGoing old.pairing (λ q a b k gs. IsGoing q a b k gs pairing)
      → pairing.has_ended ≡ first → pairing.is_over ≡ second
      → Runs p v w es first fs second
      (record { first = old.first; second = old.second; pairing = pairing })
  runs_on ended over first second old pairing runs moves stays ends = record {
    first = runs.first;
    second = runs.second;
    first_ends = stays;
    second_ends = ends;
    going = λ none other. moves p v w (numbered (bench p v) es) fs (runs.going none other);
  }

  -- ---- what is found

  module _ (ended over : Bool) (now : Matching) (runs : Runs p v w es ended fs over now) where
    pub found_in_first : (n : ℕ) (refused : Refused) → now.first.refusal ≡ Some (n, refused)
        → IsComparison p v w es fs (Refuses true n refused)
    found_in_first n refused is =
        subst (λ (a : Option (ℕ × Refused)). IsFound p v w es fs a (first_refusal 1 (bench p w) fs)
        (Refuses true n refused)) (sym is ∙ runs.first.refusal) refl

    pub found_in_second : (n : ℕ) (refused : Refused) → now.first.refusal ≡ None
        → now.second.refusal ≡ Some (n, refused)
        → IsComparison p v w es fs (Refuses false n refused)
    found_in_second n refused none is =
        subst (λ (a : Option (ℕ × Refused)). IsFound p v w es fs a (first_refusal 1 (bench p w) fs)
        (Refuses false n refused)) (sym none ∙ runs.first.refusal)
        (subst (λ (b : Option (ℕ × Refused)). IsFound p v w es fs None b (Refuses false n refused))
        (sym is ∙ runs.second.refusal) refl)

    pub found_of_edges : (found : Comparison) → now.first.refusal ≡ None
        → now.second.refusal ≡ None → IsOutcome p v w (numbered (bench p v) es) fs found
        → IsComparison p v w es fs found
    found_of_edges found none other outcome =
        subst (λ (a : Option (ℕ × Refused)). IsFound p v w es fs a (first_refusal 1 (bench p w) fs) found)
        (sym none ∙ runs.first.refusal)
        (subst (λ (b : Option (ℕ × Refused)). IsFound p v w es fs None b found)
        (sym other ∙ runs.second.refusal) outcome)
