-- Beginnings of one length by the bucket of their places.
use Rattle.std.specs.Prelude.{◌≡◌, ◌≢◌, ◌-◌, ◌<◌, ◌≤◌, ℕ, Some, length, slice_index}
use Rattle.std.specs.List.{slice_get}
use Rattle.vme_bus.specs.declared.kinds.BusKind.{BusKind}
use Rattle.vme_order_search.specs.declared.layers.Beginning.{Beginning}
use Rattle.vme_order_search.specs.declared.layers.Layer.{Layer}
use Rattle.vme_order_search.specs.declared.layers.Match.{Match}
use Rattle.vme_order_search.specs.declared.layers.Match.TheVariants as match
use Rattle.vme_order_search.specs.declared.taken.Taken.{Taken}
use Rattle.vme_order_search.specs.Places.{bucket_count, bucket_of, number_limit}

-- a beginning stands there
abbrev pub StandsAt : Layer → ℕ → Beginning → Type 0
StandsAt l i b = slice_get l.kept.items i ≡ Some b

-- a beginning of the bucket stands just below that
abbrev pub StandsBelow : Layer → ℕ → ℕ → Type 0
StandsBelow l bucket at = (b : Beginning) × StandsAt l (at - 1) b × (bucket_of b.taken ≡ bucket)

-- From the last of a bucket one comes to each of it, from the greater places to the lesser.
pub record IsTable (l : Layer) : Type 0 where
  pub room : length l.last.items ≡ bucket_count
  pub both : length l.before.items ≡ length l.kept.items
  pub few : length l.kept.items < number_limit
  pub last : (i : ℕ) (b : Beginning) → StandsAt l i b
      → i < slice_index l.last.items (bucket_of b.taken)
  pub ends : (i : ℕ) (b : Beginning) → StandsAt l i b
      → StandsBelow l (bucket_of b.taken) (slice_index l.last.items (bucket_of b.taken))
  pub before : (i j : ℕ) (b c : Beginning) → StandsAt l i b → StandsAt l j c → i < j
      → bucket_of b.taken ≡ bucket_of c.taken → i < slice_index l.before.items j
  pub falls : (j : ℕ) → slice_index l.before.items j ≤ j
  pub same : (j : ℕ) (c : Beginning) → StandsAt l j c → 0 < slice_index l.before.items j
      → StandsBelow l (bucket_of c.taken) (slice_index l.before.items j)

-- what a layer has of a beginning
abbrev pub Finds : Layer → Taken → BusKind → Match → Type 0
Finds l taken bus match.Kind =
    (i : ℕ) × (b : Beginning) × StandsAt l i b × (b.taken ≡ taken) × (b.bus ≡ bus)
Finds l taken bus match.Places = Unit {0}
Finds l taken bus match.Nothing =
    (i : ℕ) (b : Beginning) → StandsAt l i b → b.taken ≢ taken
