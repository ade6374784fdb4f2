-- How much memory a worker gets.
use Rattle.std.specs.Prelude.{◌≡◌, ◌+◌, ◌*◌, ℕ}
use Rattle.std.specs.Int.{div_ceil}
use Rattle.vme_arena.specs.declared.lease.Lease.{Lease}
use Rattle.vme_arena.specs.Stretch.{rounded}
use Rattle.vme_arena.specs.Words.{lease_stretch}
use Rattle.vme_lock.specs.declared.logs.Room.{Room}

-- the lease has that many bytes, rounded up to a multiple of 16
abbrev pub HasBytes : Lease → ℕ → Type 0
HasBytes l n = (lease_stretch l).end ≡ (lease_stretch l).start + rounded n

-- the bytes of the working pages for that many edges: a page for each 256 edges, the last one
-- perhaps not full
abbrev pub scratch_bytes : ℕ → ℕ
scratch_bytes edges = 1056 * div_ceil edges 256

-- the bytes of a log of that many edges
abbrev pub edge_bytes : ℕ → ℕ
edge_bytes edges = rounded (4 * edges)

-- the room of a worker that makes at most that many edges
pub record IsRoomFor (edges : ℕ) (room : Room) : Type 0 where
  pub scratch : HasBytes room.scratch (scratch_bytes edges)
  pub log : HasBytes room.log (edge_bytes edges)

-- the bytes of the rooms of that many boards
abbrev pub rooms_bytes : ℕ → ℕ → ℕ
rooms_bytes boards edges = (scratch_bytes edges + edge_bytes edges) * boards
