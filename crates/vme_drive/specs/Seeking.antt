-- A walk that seeks a goal, and how it ends. (Profile.)
use Rattle.std.specs.Prelude.{◌&&◌, ℕ, zero, suc, Bool, true, false, Option, Some, None, if◌then◌else◌, length}
use Rattle.std.specs.Option.{option_map_or}
use Rattle.vme_model.specs.declared.signals.Edge.{Edge}
use Rattle.vme_model.specs.Verdict.{State}
use Rattle.vme_seeds.specs.Walks.{Walk, next_edge, drawn, with_edge, walked}
use Rattle.vme_goals.specs.declared.goals.Aim.{Aim}
use Rattle.vme_goals.specs.declared.goals.Aim.TheVariants as aim
use Rattle.vme_goals.specs.declared.goals.Goal.{Goal}
use Rattle.vme_goals.specs.declared.misses.Miss.{Miss}
use Rattle.vme_goals.specs.Goals.{counts, is_due}
use Rattle.vme_events.specs.Events.{comes}
use Rattle.vme_events.specs.Misses.{misses}
use Rattle.vme_drive.specs.declared.seeks.Ending.{Ending}
use Rattle.vme_drive.specs.declared.seeks.Ending.TheVariants.{Over, Came, Missed}

-- a walk that has ended, and how
pub record Ended : Type 0 where
  pub walk : Walk
  pub ending : Ending

-- the goal did not come
abbrev pub is_over : Ending → Bool
is_over Over = true
is_over _ = false

-- the first edge that this alone refuses, of the driver that counts, once enough edges are made
abbrev pub missed_once_due : Goal → Miss → State → Option Edge
missed_once_due g m b = if is_due g (length b.history) then misses b g.driver m else None

-- the first edge that the goal's aim alone refuses, once enough edges are made: none if that is an
-- event
abbrev pub missed_for : Goal → Aim → State → Option Edge
missed_for g (aim.Event v) b = None
missed_for g (aim.Miss m) b = missed_once_due g m b

abbrev pub missed_by : Goal → State → Option Edge
missed_by g b = missed_for g g.aim b

-- the edge, which is about to be made, brings the aim about
abbrev pub fulfils : Aim → State → Edge → Bool
fulfils (aim.Event v) b e = comes b.plan b.history e v
fulfils (aim.Miss m) b e = false

-- the edge counts: it is one of the driver that does, and enough edges are before it
abbrev pub is_counted : Goal → State → Edge → Bool
is_counted g b e = counts g.driver e.driver && is_due g (length b.history)

-- the edge, which is about to be made, brings the goal about
abbrev pub brings : Goal → State → Edge → Bool
brings g b e = is_counted g b e && fulfils g.aim b e

-- how the edge that is drawn ends the walk, if it does
abbrev pub ends_by : Goal → State → Option Edge → Option Ending
ends_by g b None = Some Over
ends_by g b (Some e) = if brings g b e then Some Came else None

-- how a turn ends the walk, if it does: an edge is missed, no edge is open, or the goal comes
abbrev pub ends_at : Goal → Walk → Option Ending
ends_at g w =
    option_map_or (λ e. Some (Missed e)) (missed_by g w.state) (ends_by g w.state (next_edge w))

-- the walk with the edge that is drawn
abbrev pub drawn_on : Walk → Walk
drawn_on w = option_map_or (with_edge (drawn w)) (next_edge w) (drawn w)

-- the walk after the turn: an edge that is missed is not made
abbrev pub turned : Goal → Walk → Walk
turned g w = option_map_or (λ _. w) (missed_by g w.state) (drawn_on w)

-- the walk that seeks the goal, of n edges at most
abbrev pub sought : Goal → ℕ → Walk → Ended
sought g zero w = record { walk = w; ending = Over }
sought g (suc more) w =
    option_map_or (λ x. record { walk = turned g w; ending = x }) (ends_at g w)
    (sought g more (turned g w))

-- the walk of n edges at most, with a goal or without one
abbrev pub walk_to : Option Goal → ℕ → Walk → Ended
walk_to None n w = record { walk = walked n w; ending = Over }
walk_to (Some g) n w = sought g n w
