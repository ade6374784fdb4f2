-- a history made once more: `runs::replay`
pub mod OnceMore
-- how many edges the drivers made, and their logs: `boards::play_in`
pub mod InTurns
-- what a run leaves: `runs::run`, `runs::made_twice`
pub mod WhatIsLeft
