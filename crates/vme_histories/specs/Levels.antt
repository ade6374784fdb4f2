-- The levels of a board.
use Rattle.std.specs.Prelude.{ℕ}
use Rattle.std.specs.Option.{option_map_or}
use Rattle.vme_model.specs.declared.boards.Row.{Row}

-- the levels of a board's requester and interrupter
abbrev pub request_level : Row → ℕ
request_level r = option_map_or (λ q. q.level) r.requester 0

abbrev pub interrupt_level : Row → ℕ
interrupt_level r = option_map_or (λ i. i.level) r.interrupter 0
