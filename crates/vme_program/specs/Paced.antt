-- When a line about the progress of a search is due.
use Rattle.std.specs.Prelude.{◌≡◌, ◌≤◌, ◌<◌, ◌+◌, ℕ, Bool, true, false, Option, Some, None, IfSome}
use Rattle.std.specs.Time.{instant_nanos}
use Rattle.std.specs.declared.time.Instant.{Instant}

-- a second, in nanoseconds
abbrev pub second : ℕ
second = 1_000_000_000

-- A line is due at a time: a second has passed since the last one, if there is one, and it counts
-- from now. None is due: there is a last one, and no second has passed since; it stays.
abbrev pub IsPaced : Option Instant → Option Instant → Instant → Bool → Type 0
IsPaced old new now true = (new ≡ Some now)
    × IfSome old (λ last. instant_nanos last + second ≤ instant_nanos now)
IsPaced None new now false = ⊥
IsPaced (Some last) new now false = (new ≡ Some last)
    × (instant_nanos now < instant_nanos last + second)
