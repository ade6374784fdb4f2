-- Whom the rows `grant at` and `holder` speak of. (The words are those of chapter 3; what is drawn
-- is this project's profile.)
use Rattle.std.specs.Prelude.{◌≡◌, ℕ}
use Rattle.vme_model.specs.Verdict.{after}
use Rattle.vme_model.specs.GrantSafety.{Travels, Holds}
use Rattle.vme_show.specs.Picture.{Column, slot_sign, grant_mark, holder_mark}

-- after the edge, every slot at which a grant travels has the character that is drawn, so that
-- there is one at most; `.` if none travels
pub record ShowsEveryGrant (c : Column) : Type 0 where
  pub each : (n s : ℕ) → Travels (after c.0 c.1).plan (after c.0 c.1).history n s
      → grant_mark c ≡ slot_sign s
  pub none : ((n s : ℕ) → Travels (after c.0 c.1).plan (after c.0 c.1).history n s → ⊥)
      → grant_mark c ≡ 46

-- and so has every slot that holds BBSY* low
pub record ShowsEveryHolder (c : Column) : Type 0 where
  pub each : (s : ℕ) → Holds (after c.0 c.1).history s → holder_mark c ≡ slot_sign s
  pub none : ((s : ℕ) → Holds (after c.0 c.1).history s → ⊥) → holder_mark c ≡ 46
