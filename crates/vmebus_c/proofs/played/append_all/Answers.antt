use Rattle.std.proofs.Common.{◌≡◌, ◌∙◌, sym, ap, ℕ, suc, ◌+◌, ◌<◌, List, [], ◌∷◌, ◌++◌, map, filter, add-one, arith}
use Rattle.std.specs.List.{flat_map}
use Rattle.std.proofs.lemmas.Bool.Decides.{nat_tests}
use Rattle.std.proofs.lemmas.List.{flat_map_more, map-append}
use Rattle.vme_model.specs.declared.signals.Driver.{Driver}
use Rattle.vme_model.specs.declared.signals.Driver.TheVariants.{Controller, Slot}
use Rattle.vme_model.specs.declared.signals.Edge.{Edge}
use Rattle.vme_model.specs.Plan.{up_to}
use Rattle.vme_histories.specs.Opens.{open_but_full}
use Rattle.vmebus_c.specs.Played.{is_played}
use Rattle.vmebus_c.proofs.played.append_all.Goals as goal

-- the drivers with one slot more
abbrev drivers_to : ℕ → List Driver
drivers_to n = Controller ∷ map (λ s. Slot s) (up_to n)

one_more : (f : Driver → List Edge) (n : ℕ) → flat_map f (drivers_to n) ++ f (Slot (suc n)) ≡ flat_map f (drivers_to (suc n))
one_more f n =
    flat_map_more f (f Controller) (map (λ s. Slot s) (up_to n)) (Slot (suc n))
    ∙ ap (λ (ds : List Driver). f Controller ++ flat_map f ds) (sym (map-append (λ s. Slot s) (up_to n) (suc n ∷ [])))

more : (f : Driver → List Edge) (n : ℕ) → flat_map f (drivers_to n) ++ f (Slot (n + 1)) ≡ flat_map f (drivers_to (n + 1))
more f n = ap (λ (m : ℕ). flat_map f (drivers_to n) ++ f (Slot m)) (add-one n) ∙ one_more f n ∙ ap (λ (m : ℕ). flat_map f (drivers_to m)) (sym (add-one n))

pub loop-below-preserved : goal.loop-below-preserved
loop-below-preserved g c = record {
  listed = λ version p h at is.
      let f : Driver → List Edge = λ d. filter (is_played c.args.wires.now) (open_but_full version p h d) in
      c.append_slot.ensures.items version p h at is
      ∙ ap (λ (l : List Edge). l ++ f (Slot (c.loop-below.below + 1))) (c.loop-below.invariant.listed version p h at is)
      ∙ more f c.loop-below.below;
  few = omega arith;
}

pub returns-then-not-has_room-clause-fit : goal.returns-then-not-has_room-clause-fit
returns-then-not-has_room-clause-fit g c = λ enough.
    let below : c.loop-below.below < 21 = grind (arith, nat_tests, c.loop-below-test.true) in
    let full = c.has_room.ensures.full (grind (arith, nat_tests)) in
    absurd (omega (arith, enough, below, full, c.loop-below.invariant.few))

pub returns-clause-all : goal.returns-clause-all
returns-clause-all g c = λ whole version p h at is.
    let f : Driver → List Edge = λ d. filter (is_played c.args.wires.now) (open_but_full version p h d) in
    let ended : c.loop-below.below ≡ 21 = grind (arith, nat_tests, c.loop-below.auto.below-end, c.loop-below-test.false) in
    c.loop-below.invariant.listed version p h at is ∙ ap (λ (n : ℕ). flat_map f (drivers_to n)) ended
