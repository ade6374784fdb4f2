-- How those are gathered who may have made each change of a sample.
use Rattle.std.specs.Prelude.{◌≡◌, ◌||◌, ◌<◌, ◌≤◌, ℕ, Bool, true, false, List, slice_index_or}
use Rattle.vme_model.specs.Plan.{Plan}
use Rattle.vme_standings.specs.declared.standings.Drivers.{Drivers}
use Rattle.vme_standings.specs.declared.standings.Probed.{Probed}
use Rattle.vme_standings.specs.Standings.{is_nobody}
use Rattle.vme_standings.specs.Unions.{UnitesSlots}
use Rattle.vme_samples.specs.declared.makers.Makers.{Makers}
use Rattle.vme_samples.specs.declared.places.Places.{Places}
use Rattle.vme_samples.specs.declared.samples.SeenChange.{SeenChange}
use Rattle.vme_samples.specs.Ways.{Known, MakeNext, Reaching, SomeMake, nobody}

-- who may have made the change at the place
abbrev pub by_at : Makers → ℕ → Drivers
by_at m i = slice_index_or m.by i nobody

-- those who are one of the two
pub record UnitesDrivers (a b new : Drivers) : Type 0 where
  pub controller : new.controller ≡ (a.controller || b.controller)
  pub boards : UnitesSlots a.boards b.boards new.boards

-- they were taken in for a change next behind a set; and whether there is somebody
pub record Notes (p : Plan) (probed : Probed) (sample : List SeenChange) (known : Known)
    (goal : Places) (reaching : Reaching) (set : Places) (i : ℕ) (old new : Drivers)
    (some : Bool) : Type 0 where
  pub drivers : Drivers
  pub next : MakeNext p probed sample known goal reaching set i drivers
  pub unites : UnitesDrivers old drivers new
  pub is_some : is_nobody drivers ≡ false → some ≡ true

-- so for each of the first n changes
pub record AreNoted (p : Plan) (probed : Probed) (sample : List SeenChange) (known : Known)
    (goal : Places) (reaching : Reaching) (set : Places) (n : ℕ) (old new : Makers)
    (some : Bool) : Type 0 where
  pub each : (i : ℕ) → i < n
      → Notes p probed sample known goal reaching set i (by_at old i) (by_at new i) some
  pub others : (i : ℕ) → n ≤ i → by_at new i ≡ by_at old i
  pub found : some ≡ true → (i : ℕ) × (i < n) × (d : Drivers)
      × SomeMake p probed sample known goal reaching set i d
