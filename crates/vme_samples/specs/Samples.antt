-- The changes of a sample, in the order of the capture.
use Rattle.std.specs.Prelude.{◌&&◌, ◌-◌, not, ℕ, zero, suc, Bool, true, false, List, Option, nat_le, length}
use Rattle.std.specs.List.{list_all, slice_get}
use Rattle.std.specs.Option.{option_map_or}
use Rattle.vme_captures.specs.declared.signals.Signal.{Signal}
use Rattle.vme_captures.specs.Signals.{is_change, is_same_signal}
use Rattle.vme_samples.specs.declared.places.Places.{Places}
use Rattle.vme_samples.specs.declared.samples.SeenChange.{SeenChange}
use Rattle.vme_samples.specs.Places.{has_place}

-- some backplane can show each of them
abbrev pub are_changes : List SeenChange → Bool
are_changes sample = list_all (λ s. is_change s.change) sample

-- the change at the place is one of this line or pin
abbrev pub is_of : List SeenChange → Signal → ℕ → Bool
is_of sample x i = option_map_or (λ s. is_same_signal s.change.signal x) (slice_get sample i) false

-- of the first n changes those of the line or pin are in the set
abbrev pub earlier_in : List SeenChange → Signal → Places → ℕ → Bool
earlier_in sample x set zero = true
earlier_in sample x set (suc n) =
    earlier_in sample x set n && not (is_of sample x n && not (has_place set n))

-- The change at the place may come next behind those of the set: those of one line or pin keep
-- their order, and the others have none.
abbrev pub comes_next : List SeenChange → Places → ℕ → Bool
comes_next sample set i =
    not (has_place set i)
    && option_map_or (λ s. earlier_in sample s.change.signal set i) (slice_get sample i) false

-- the last of them
abbrev pub last_of : List SeenChange → Option SeenChange
last_of sample = slice_get sample (length sample - 1)

-- A change at this moment belongs to the sample: there is none in it, or it is at most so much
-- later than the last one.
abbrev pub joins : ℕ → List SeenChange → ℕ → Bool
joins skew sample m = option_map_or (λ s. nat_le (m - s.moment) skew) (last_of sample) true
