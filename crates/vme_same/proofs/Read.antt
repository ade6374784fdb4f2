-- Two traces that were read, and what is found of them.
use Rattle.std.proofs.Common.{List, Ok, true, ℕ}
use Rattle.vme_model.specs.declared.signals.Edge.{Edge}
use Rattle.vme_model.specs.declared.signals.Version.{Version}
use Rattle.vme_model.specs.Plan.{Plan}
use Rattle.vme_reading.specs.Pairs.{LentPair, ReadsPair}
use Rattle.vme_reading.specs.Streams.{Streams}
use Rattle.vme_same.specs.declared.comparisons.Comparison.{Comparison}
use Rattle.vme_same.specs.declared.matching.Matching.{Matching}
use Rattle.vme_same.specs.Comparing.{IsComparison}
use Rattle.vme_same.specs.Kept.{Stands}

module _ (text : List ℕ) (nothing : Type 0) (s t : Streams) (now : Matching) (found : Comparison) where
  pub compared : LentPair text nothing
      (λ p. ReadsPair (λ v w es fs judge. Stands p v w es true fs true judge) s t) (Ok now)
      → ((p : Plan) (v w : Version) (es fs : List Edge) → Stands p v w es true fs true now
      → IsComparison p v w es fs found)
      → LentPair text nothing
      (λ p. ReadsPair (λ v w es fs result. IsComparison p v w es fs result) s t) (Ok found)
  compared (p, short, plan, (v, w, es, fs, one, other, stands)) on =
      (p, short, plan, (v, w, es, fs, one, other, on p v w es fs stands))
