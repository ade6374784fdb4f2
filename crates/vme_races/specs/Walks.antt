-- How far an accepted edge goes back by free swaps with the edge before it, and what stops it. (The
-- definitions are this project's own.) In each, k numbers the accepted edges before the edge e.
use Rattle.std.specs.Prelude.{◌≡◌, ◌<◌, ◌≤◌, ◌++◌, ◌∷◌, [], ℕ, List, length, unwrap_or, Option, Some, None}
use Rattle.vme_model.specs.declared.signals.Version.{Version}
use Rattle.vme_model.specs.declared.signals.Edge.{Edge}
use Rattle.vme_model.specs.Plan.{Plan}
use Rattle.vme_model.specs.Numbered.{Numbered, edges_in}
use Rattle.vme_swaps.specs.Swaps.{IsFree}
use Rattle.vme_swaps.specs.Stops.{Meets, most_passed}
use Rattle.vme_swaps.specs.declared.stops.Stop.{Stop}
use Rattle.vme_swaps.specs.declared.stops.Stop.TheVariants.{Begins, Far}
use Rattle.vme_races.specs.declared.walks.Walk.{Walk}

-- it passes all of these, the newest first, and stands behind the rest then: it is free with each,
-- where it stands at that time
abbrev pub Passes : Version → Plan → Edge → Numbered → Numbered → Type 0
Passes v p e [] rest = Unit {0}
Passes v p e ((n, a) ∷ passed) rest =
    IsFree v p (edges_in (passed ++ rest)) a e × Passes v p e passed rest

-- the number of the oldest of these; None if there are none
abbrev pub oldest : Numbered → Option ℕ
oldest [] = None
oldest ((n, a) ∷ k) = Some (unwrap_or (oldest k) n)

-- What stops it behind k, if it has passed so many: no edge is before it; or it is far; or the last
-- of k is not free with it.
abbrev pub Stops : Version → Plan → Edge → ℕ → Numbered → Stop → Type 0
Stops v p e count [] stop = stop ≡ Begins
Stops v p e count ((n, a) ∷ k) Far = count ≡ most_passed
Stops v p e count ((n, a) ∷ k) stop =
    (count < most_passed) × ¬ IsFree v p (edges_in k) a e × Meets v p e n a (edges_in k) stop

-- the edge goes back so far, and that stops it
pub record IsWalk (v : Version) (p : Plan) (e : Edge) (k : Numbered) (walk : Walk) : Type 0 where
  pub passed : Numbered
  pub rest : Numbered
  pub split : k ≡ passed ++ rest
  pub passes : Passes v p e passed rest
  pub most : length passed ≤ most_passed
  pub count : walk.passed ≡ length passed
  pub since : walk.since ≡ oldest passed
  pub stops : Stops v p e (length passed) rest walk.stop

-- these are the walks of all of these edges, the newest first
abbrev pub AreWalks : Version → Plan → Numbered → List Walk → Type 0
AreWalks v p [] [] = Unit {0}
AreWalks v p ((n, e) ∷ k) (walk ∷ walks) = IsWalk v p e k walk × AreWalks v p k walks
AreWalks v p _ _ = ⊥
