-- A walk that seeks an event ends with the first edge that brings it.
use Rattle.std.proofs.Common.{◌≡◌, ◌∙◌, refl, sym, ap, ◌++◌, ℕ, zero, suc, Bool, true, false, List, [], ◌∷◌}
use Rattle.std.specs.Prelude.{Option, Some, None, if◌then◌else◌}
use Rattle.std.specs.Option.{option_map_or}
use Rattle.vme_model.specs.declared.signals.Driver.{Driver}
use Rattle.vme_model.specs.declared.signals.Edge.{Edge}
use Rattle.vme_model.specs.Plan.{Plan}
use Rattle.vme_seeds.specs.Walks.{Walk, next_edge, drawn, with_edge}
use Rattle.vme_goals.specs.declared.events.Event.{Event}
use Rattle.vme_goals.specs.declared.goals.Goal.{Goal}
use Rattle.vme_drive.specs.declared.seeks.Ending.TheVariants.{Came}
use Rattle.vme_drive.specs.Seeking.{Ended, ends_by, sought}
use Rattle.vme_drive.specs.Bringing.{EndsWithItsEvent, IsSoOf, NoneBrings, brings_after, event_goal}

module _ (p : Plan) (g : Goal) (v : Event) where
  of_none : NoneBrings p g v []
  of_none [] before e is = let flat : [] ≡ e ∷ before = is in absurd (cc)
  of_none (x ∷ later) before e is = let flat : [] ≡ x ∷ (later ++ (e ∷ before)) = is in absurd (cc)

  at_start : (h : List Edge) → h ≡ [] → NoneBrings p g v h
  at_start h none later before e is = of_none later before e (sym none ∙ is)

  one_more : (h : List Edge) (d : Edge) → brings_after p g v h d ≡ false → NoneBrings p g v h → NoneBrings p g v (d ∷ h)
  one_more h d away none [] before e is =
      let flat : d ∷ h ≡ e ∷ before = is in
      let same : d ≡ e = cc in
      let rest : h ≡ before = cc in
      sym (ap (λ (x : List Edge). brings_after p g v x e) rest) ∙ sym (ap (λ (x : Edge). brings_after p g v h x) same) ∙ away
  one_more h d away none (x ∷ later) before e is =
      let flat : d ∷ h ≡ x ∷ (later ++ (e ∷ before)) = is in
      let rest : h ≡ later ++ (e ∷ before) = cc in
      none later before e rest

module _ (v : Event) (only : Option Driver) (after : ℕ) where
  abbrev g : Goal
  g = event_goal v only after

  abbrev HasNone : Walk → Type 0
  HasNone w = NoneBrings w.state.plan g v w.state.history

  by_brought : (w : Walk) (e : Edge) (t : Bool) (rest : Ended) → brings_after w.state.plan g v w.state.history e ≡ t → HasNone w → (t ≡ false → IsSoOf w.state.plan g v rest)
      → IsSoOf w.state.plan g v (option_map_or (λ x. (let r : Ended = record { walk = with_edge (drawn w) e; ending = x } in r)) (if t then Some Came else None) rest)
  by_brought w e true rest is none later = record { last = e; before = w.state.history; edges = refl; brings = is; first = none }
  by_brought w e false rest is none later = later refl

  by_drawn : (w : Walk) (q : Option Edge) (more : ℕ) → HasNone w → ((u : Walk) → HasNone u → IsSoOf u.state.plan g v (sought g more u))
      → IsSoOf w.state.plan g v (option_map_or (λ x. (let r : Ended = record { walk = option_map_or (with_edge (drawn w)) q (drawn w); ending = x } in r)) (ends_by g w.state q)
      (sought g more (option_map_or (with_edge (drawn w)) q (drawn w))))
  by_drawn w None more none later = none
  by_drawn w (Some e) more none later =
      let u : Walk = with_edge (drawn w) e in
      by_brought w e (brings_after w.state.plan g v w.state.history e) (sought g more u) refl none (λ away. later u (one_more w.state.plan g v w.state.history e away none))

  sought_is_so : (n : ℕ) (w : Walk) → HasNone w → IsSoOf w.state.plan g v (sought g n w)
  sought_is_so zero w none = none
  sought_is_so (suc more) w none = by_drawn w (next_edge w) more none (sought_is_so more)

pub ends_with_its_event : EndsWithItsEvent
ends_with_its_event v only after n w none = sought_is_so v only after n w (at_start w.state.plan (event_goal v only after) v w.state.history none)
