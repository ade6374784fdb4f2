use Rattle.std.proofs.Common.{◌≡◌, ◌≤◌, ◌+◌, ◌*◌, ◌∷◌, length, map, filter}
use Rattle.std.specs.List.{flat_map}
use Rattle.vme_model.specs.declared.signals.Driver.TheVariants.{Controller, Slot}
use Rattle.vme_model.specs.Plan.{up_to}
use Rattle.vme_bus.specs.Sets.{has}
use Rattle.vme_bus.specs.States.{OfHistory}
use Rattle.vme_histories.specs.Opens.{open_but_full}
use Rattle.vme_seeds.specs.Kinds.{has_board}
use Rattle.vmebus_c.specs.Played.{is_played}
use Rattle.vmebus_c.proofs.played.append_all.Given as goal

abbrev pub invariant-loop-below : goal.invariant-loop-below
invariant-loop-below g l = record {
  listed : OfHistory l.bus (λ version p h. has l.boards ≡ has_board p → l.edges
      ≡ flat_map (λ d. filter (is_played l.wires) (open_but_full version p h d)) (Controller ∷ map (λ s. Slot s) (up_to l.below)));
  few : length l.edges ≤ 36 + 36 * l.below;
}
