-- Which boards have which interrupters.
use Rattle.std.specs.Prelude.{◌≡◌, ◌≢◌, ◌==◌, ℕ, Bool, true, false, not}
use Rattle.std.specs.Option.{option_map_or}
use Rattle.vme_model.specs.declared.boards.InterrupterRow.{InterrupterRow}
use Rattle.vme_model.specs.declared.boards.Row.{Row}
use Rattle.vme_model.specs.Plan.{Plan, board}
use Rattle.vme_model.specs.CycleSafety.{is_roak}
use Rattle.vme_captures.specs.declared.levels.Levels.{Levels}
use Rattle.vme_captures.specs.declared.signals.Line.TheVariants.{Irq}
use Rattle.vme_captures.specs.Levels.{is_line_left_low}
use Rattle.vme_standings.specs.Requests.{is_on_level}
use Rattle.vme_standings.specs.declared.interrupters.Interrupters.{Interrupters}
use Rattle.vme_standings.specs.declared.interrupters.Interrupters.TheVariants.{All, OnLevel, Roak, Rora, WithStatus}

abbrev pub is_such : Interrupters → InterrupterRow → Bool
is_such All i = true
is_such (OnLevel n) i = i.level == n
is_such Roak i = is_roak i.kind
is_such Rora i = not (is_roak i.kind)
is_such (WithStatus b) i = i.status == b

-- the board has such an interrupter
abbrev pub is_meant : Interrupters → Row → Bool
is_meant which r = option_map_or (is_such which) r.interrupter false

-- the slot has a board with one
abbrev pub is_meant_at : Interrupters → Plan → ℕ → Bool
is_meant_at which p s = option_map_or (is_meant which) (board p s) false

-- the slot's board has the line of the level with another board
pub record SharesLevel (p : Plan) (n s : ℕ) : Type 0 where
  pub other : ℕ
  pub differs : other ≢ s
  pub on : is_on_level p n s ≡ true
  pub also : is_on_level p n other ≡ true

pub record SharesLine (p : Plan) (s : ℕ) : Type 0 where
  pub level : ℕ
  pub shares : SharesLevel p level s

-- the board's interrupt line is low
abbrev pub is_line_low_of : Levels → Row → Bool
is_line_low_of lines r =
    option_map_or (λ i. is_line_left_low lines (Irq i.level)) r.interrupter false

-- the slot has a board with an interrupter whose line is low
abbrev pub is_on_low_line : Levels → Plan → ℕ → Bool
is_on_low_line lines p s = option_map_or (is_line_low_of lines) (board p s) false
