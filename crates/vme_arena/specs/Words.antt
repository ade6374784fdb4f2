-- What a clause reads of a region, of its rest and of a lease.
use Rattle.std.specs.Prelude.{ℕ, ◌+◌}
use base.Fml.{GName}
use Rattle.vme_arena.specs.Stretch.{Stretch}
use Rattle.vme_arena.specs.declared.region.Region.{Region}
use Rattle.vme_arena.specs.declared.region.Rest.{Rest}
use Rattle.vme_arena.specs.declared.lease.Lease.{Lease}

-- the number of bytes with which the region was made
abbrev pub region_size : Region → ℕ
region_size r = r.origin.size

-- the place in the region at which the rest begins
abbrev pub rest_start : Rest → ℕ
rest_start r = r.start

-- the number of bytes from there to the end of the region
abbrev pub rest_left : Rest → ℕ
rest_left r = r.left

-- the name of the region's borrow
abbrev pub rest_name : Rest → GName
rest_name r = r.loan.name

-- the rest, as a stretch of the region's block
abbrev pub rest_stretch : Rest → Stretch
rest_stretch r = record { block = r.loan.spot.block; start = r.start; end = r.start + r.left }

-- the stretch from which its blocks are cut
abbrev pub lease_stretch : Lease → Stretch
lease_stretch l = l.slot
