-- When a line about the progress of a search is due.
use Rattle.std.specs.Prelude.{◌≡◌, ◌≤◌, ◌+◌, Bool, true, false, Option, Some, IfSome}
use Rattle.std.specs.Time.{instant_nanos}
use Rattle.std.specs.declared.time.Instant.{Instant}

-- A line is due: a second has passed since the last one, if there is one, and the next second
-- begins now. Or no line is due, and the last one stays the same.
abbrev pub IsPaced : Option Instant → Option Instant → Bool → Type 0
IsPaced old new true = (now : Instant) × (new ≡ Some now)
    × IfSome old (λ told. instant_nanos told + 1_000_000_000 ≤ instant_nanos now)
IsPaced old new false = new ≡ old
