-- When there are too many orders.
use Rattle.std.specs.Prelude.{◌≡◌, ◌⊎◌, ◌<◌, ◌∷◌, ℕ, List, [], All, length}
use Rattle.vme_model.specs.declared.signals.Version.{Version}
use Rattle.vme_model.specs.Plan.{Plan}
use Rattle.vme_moments.specs.declared.Seen.{Seen}
use Rattle.vme_moments.specs.declared.slacks.Slacks.{Slacks}
use Rattle.vme_moments.specs.Orders.{HasFarPlace, IsLegalBeginning, has}

-- two lists have the same places
abbrev pub AreSamePlaces : List ℕ → List ℕ → Type 0
AreSamePlaces q r = (i : ℕ) → has q i ≡ has r i

-- no two of these lists have the same places
abbrev pub AreApart : List (List ℕ) → Type 0
AreApart [] = Unit {0}
AreApart (q ∷ qs) = All (λ r. ¬ (AreSamePlaces q r)) qs × AreApart qs

-- the most sets of places of one length that a search keeps
abbrev pub most_sets : ℕ
most_sets = 65536

-- the legal beginnings of one length have more sets of places than that
pub record HasManySets (version : Version) (p : Plan) (x : Slacks) (ms : List Seen) : Type 0 where
  pub size : ℕ
  pub beginnings : List (List ℕ)
  pub many : most_sets < length beginnings
  pub legal : All (IsLegalBeginning version p x ms) beginnings
  pub sizes : All (λ q. length q ≡ size) beginnings
  pub apart : AreApart beginnings

abbrev pub HasTooMany : Version → Plan → Slacks → List Seen → Type 0
HasTooMany version p x ms = HasFarPlace version p x ms ⊎ HasManySets version p x ms
