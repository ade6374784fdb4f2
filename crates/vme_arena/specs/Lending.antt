-- What a region is once what it lent is gone.
use Rattle.std.specs.Borrow.{follows, MutBor, Fml}
use base.Fml.{GName}
use Rattle.vme_arena.specs.declared.region.Region.{Region}
use Rattle.vme_arena.specs.contracts.region.Region.{the_row}

-- r ends as it was, whatever becomes of what was lent under the name
abbrev pub EndsAsItWas : MutBor Region → GName → Fml
EndsAsItWas r name = follows the_row the_row r.ghost_name name (λ _. r.now)
