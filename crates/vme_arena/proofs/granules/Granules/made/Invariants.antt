use Rattle.std.proofs.Common.{◌≡◌, ◌+◌, ◌*◌}
use denote.RawPtr.{block_ptr}
use Rattle.vme_arena.proofs.granules.Granules.made.Given as goal

abbrev pub invariant-loop-place : goal.invariant-loop-place
invariant-loop-place l =
    ((l.granules.count ≡ l.place) × (l.place + l.granules.blank ≡ l.count)) ×
    ((l.granules.spot.at ≡ 0) × (l.granules.spot.tag ≡ l.count * 16)) × ((l.deed ≡ l.fn.deed) × (l.fn.deed.ptr ≡ block_ptr l.granules.spot.block 0))
