-- A walk that seeks a goal, and how it ends. (Profile.)
use Rattle.std.specs.Prelude.{ℕ, zero, suc, Bool, true, false, Option, Some, None, if◌then◌else◌}
use Rattle.std.specs.Option.{option_map_or}
use Rattle.vme_model.specs.declared.signals.Edge.{Edge}
use Rattle.vme_model.specs.Verdict.{State}
use Rattle.vme_seeds.specs.Walks.{Walk, next_edge, drawn, with_edge, walked}
use Rattle.vme_goals.specs.declared.goals.Goal.{Goal}
use Rattle.vme_goals.specs.declared.goals.Goal.TheVariants as goal
use Rattle.vme_events.specs.Events.{comes}
use Rattle.vme_events.specs.Misses.{misses}
use Rattle.vme_engines.specs.declared.seeks.Ending.{Ending}
use Rattle.vme_engines.specs.declared.seeks.Ending.TheVariants.{Over, Came, Missed}

-- a walk that has ended, and how
pub record Ended : Type 0 where
  pub walk : Walk
  pub ending : Ending

-- the goal did not come
abbrev pub is_over : Ending → Bool
is_over Over = true
is_over _ = false

-- the first edge that the goal's condition alone refuses, where the goal is one
abbrev pub missed_by : Goal → State → Option Edge
missed_by (goal.Event v) b = None
missed_by (goal.Miss m) b = misses b m

-- the edge, which is about to be made, brings the goal about
abbrev pub brings : Goal → State → Edge → Bool
brings (goal.Event v) b e = comes b.plan b.history e v
brings (goal.Miss m) b e = false

-- how the edge that is drawn ends the walk, if it does
abbrev pub ends_by : Goal → State → Option Edge → Option Ending
ends_by g b None = Some Over
ends_by g b (Some e) = if brings g b e then Some Came else None

-- how a turn ends the walk, if it does: an edge is missed, no edge is open, or the goal comes
abbrev pub ends_at : Goal → Walk → Option Ending
ends_at g w =
    option_map_or (λ e. Some (Missed e)) (missed_by g w.state) (ends_by g w.state (next_edge w))

-- the walk with the edge that is drawn
abbrev pub drawn_on : Walk → Walk
drawn_on w = option_map_or (with_edge (drawn w)) (next_edge w) (drawn w)

-- the walk after the turn: an edge that is missed is not made
abbrev pub turned : Goal → Walk → Walk
turned g w = option_map_or (λ _. w) (missed_by g w.state) (drawn_on w)

-- the walk that seeks the goal, of n edges at most
abbrev pub sought : Goal → ℕ → Walk → Ended
sought g zero w = record { walk = w; ending = Over }
sought g (suc more) w =
    option_map_or (λ x. record { walk = turned g w; ending = x }) (ends_at g w)
    (sought g more (turned g w))

-- the same with a goal or without one
abbrev pub walk_to : Option Goal → ℕ → Walk → Ended
walk_to None n w = record { walk = walked n w; ending = Over }
walk_to (Some g) n w = sought g n w
