-- The lines of a walk, written as its edges are made.
use Rattle.std.proofs.Common.{◌≡◌, refl, sym, subst, ℕ, zero, suc, List, [], ◌∷◌, ◌++◌, Option, Some, None}
use Rattle.std.specs.Option.{option_map_or}
use Rattle.std.specs.Io.KnownBytes.{Appends}
use Rattle.std.proofs.KnownBytes.{Appends-trans}
use Rattle.vme_model.specs.declared.signals.Edge.{Edge}
use Rattle.vme_model.specs.History.{in_order}
use Rattle.vme_model.specs.Verdict.{State}
use Rattle.vme_model.specs.Text.{edge_lines}
use Rattle.vme_trace.specs.Writing.{AppendsFront}
use Rattle.vme_seeds.specs.Walks.{Walk, next_edge, drawn, with_edge, walked}
use Rattle.vme_goals.specs.declared.goals.Goal.{Goal}
use Rattle.vme_drive.specs.declared.seeks.Ending.{Ending}
use Rattle.vme_drive.specs.Seeking.{Ended, missed_by, ends_at, drawn_on, turned, sought}
use Rattle.vme_drive.specs.Drawing.{ended_lines, missed_of}
use Rattle.vme_reading.specs.Texts.{IsListed, KeepsListed, lines_made}
use Rattle.vme_drive.proofs.ListedLines.{IsBefore, itself, before_both, front_later, lines_cut, lines_written, lines_part}
use Rattle.vme_reading.proofs.WrittenLines.{front_of_more, front_behind, lines_behind}

-- ---- edges are only added

walked_by : (more : ℕ) (w : Walk) (o : Option Edge) → ((v : Walk) → IsBefore v.state (walked more v).state)
    → IsBefore w.state (option_map_or (λ e. walked more (with_edge (drawn w) e)) o (drawn w)).state
walked_by more w None rest = itself w.state
walked_by more w (Some e) rest = before_both w.state (with_edge (drawn w) e).state (walked more (with_edge (drawn w) e)).state (e ∷ [], refl) (rest (with_edge (drawn w) e))

pub before_walked : (n : ℕ) (w : Walk) → IsBefore w.state (walked n w).state
before_walked zero w = itself w.state
before_walked (suc more) w = walked_by more w (next_edge w) (before_walked more)

module _ (g : Goal) where
  before_drawn : (w : Walk) (o : Option Edge) → IsBefore w.state (option_map_or (with_edge (drawn w)) o (drawn w)).state
  before_drawn w None = itself w.state
  before_drawn w (Some e) = (e ∷ [], refl)

  turned_by : (w : Walk) (o : Option Edge) → IsBefore w.state (option_map_or (λ _. w) o (drawn_on w)).state
  turned_by w None = before_drawn w (next_edge w)
  turned_by w (Some e) = itself w.state

  pub before_turned : (w : Walk) → IsBefore w.state (turned g w).state
  before_turned w = turned_by w (missed_by g w.state)

  ended_by : (w : Walk) (o : Option Ending) (rest : Ended) → IsBefore w.state rest.walk.state
      → IsBefore w.state (option_map_or (λ x. (let r : Ended = record { walk = w; ending = x } in r)) o rest).walk.state
  ended_by w None rest later = later
  ended_by w (Some x) rest later = itself w.state

  before_sought : (n : ℕ) (w : Walk) → IsBefore w.state (sought g n w).walk.state
  before_sought zero w = itself w.state
  before_sought (suc more) w =
      before_both w.state (turned g w).state (sought g (suc more) w).walk.state (before_turned w) (ended_by (turned g w) (ends_at g w) (sought g more (turned g w)) (before_sought more (turned g w)))

  -- a turn is within the whole walk
  sought_behind : (more : ℕ) (w : Walk) → IsBefore (turned g w).state (sought g (suc more) w).walk.state
  sought_behind more w = ended_by (turned g w) (ends_at g w) (sought g more (turned g w)) (before_sought more (turned g w))

  -- the lines up to a turn that was cut off
  pub turn_front : (more : ℕ) (w : Walk) (end : State) → end ≡ (sought g (suc more) w).walk.state → (first new : Option (List ℕ)) → AppendsFront first new (lines_made (turned g w).state)
      → AppendsFront first new (lines_made end)
  turn_front more w end is first new f =
      subst (λ (s : State). AppendsFront first new (lines_made s)) (sym is) (front_later first new (turned g w).state (sought g (suc more) w).walk.state (sought_behind more w) f)

-- ---- the lines of the walk, and of the edge that was missed

module _ (x : Ended) (a b : Option (List ℕ)) (held left : List ℕ) (start now : State) (empty : held ≡ []) (none : start.history ≡ []) where
  whole : ended_lines x ≡ lines_made x.walk.state ++ edge_lines (missed_of x.ending)
  whole = lines_behind (in_order x.walk.state.history) (missed_of x.ending)

  -- the walk was cut off
  pub ended_cut : ((first : Option (List ℕ)) → IsListed first a held (lines_made start) → AppendsFront first b (lines_made x.walk.state)) → AppendsFront a b (ended_lines x)
  ended_cut h = subst (AppendsFront a b) (sym whole) (front_of_more a b (lines_made x.walk.state) (edge_lines (missed_of x.ending)) (lines_cut a b held left start now x.walk.state empty none h))

  module _ (is : now ≡ x.walk.state) (keeps : KeepsListed start held a b now left) (c : Option (List ℕ)) where
    -- what was held could not be written
    pub ended_part : AppendsFront b c left → AppendsFront a c (ended_lines x)
    ended_part w = subst (AppendsFront a c) (sym whole) (front_of_more a c (lines_made x.walk.state) (edge_lines (missed_of x.ending))
        (lines_part a b held left start now x.walk.state empty none is keeps c w))

    module _ (wrote : Appends b c left) (d : Option (List ℕ)) (ending : Ending) (ends : ending ≡ x.ending) where
      -- the line of the edge that was missed is written behind it
      pub ended_all : Appends c d (edge_lines (missed_of ending)) → Appends a d (ended_lines x)
      ended_all w =
          subst (Appends a d) (sym whole)
          (Appends-trans a c d (lines_made x.walk.state) (edge_lines (missed_of x.ending)) (lines_written a b held left start now x.walk.state empty none is keeps c wrote)
          (subst (λ (y : Ending). Appends c d (edge_lines (missed_of y))) ends w))

      -- or could not be
      pub ended_front : AppendsFront c d (edge_lines (missed_of ending)) → AppendsFront a d (ended_lines x)
      ended_front w =
          subst (AppendsFront a d) (sym whole)
          (front_behind a c d (lines_made x.walk.state) (edge_lines (missed_of x.ending)) (lines_written a b held left start now x.walk.state empty none is keeps c wrote)
          (subst (λ (y : Ending). AppendsFront c d (edge_lines (missed_of y))) ends w))
