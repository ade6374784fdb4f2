use Rattle.std.proofs.Common.{◌≡◌, ◌<◌, ◌≤◌, ℕ, length}
use Rattle.vme_order_search.specs.declared.layers.Beginning.{Beginning}
use Rattle.vme_order_search.specs.declared.layers.Match.TheVariants.{Kind, Nothing}
use Rattle.vme_order_search.specs.Layers.{StandsAt, StandsBelow}
use Rattle.vme_order_search.specs.Places.{bucket_of}
use Rattle.vme_order_search.proofs.layers.Layer.find.Given as goal

abbrev pub invariant-bucket : goal.invariant-bucket
invariant-bucket l =
    (l.at ≤ length l.self.kept.items) × (0 < l.at → StandsBelow l.self (bucket_of l.taken) l.at)
    × (l.found ≡ Nothing → (i : ℕ) (b : Beginning) → StandsAt l.self i b → b.taken ≡ l.taken
    → i < l.at) × (l.found ≡ Kind → ⊥)

abbrev pub decreases-bucket : goal.decreases-bucket
decreases-bucket l = l.at
