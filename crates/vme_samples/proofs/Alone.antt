-- A sample of one change: it has one order.
use Rattle.std.proofs.Common.{◌≡◌, ◌∙◌, ◌<◌, ℕ, true, false, List, [], ◌∷◌, ◌++◌, refl, sym, ap, subst, arith}
use Rattle.std.specs.Prelude.{Option, Some, None, option_map}
use Rattle.std.specs.List.{slice_get}
use Rattle.std.proofs.lemmas.Option.{slice_get_within}
use Rattle.vme_model.specs.Accepted.{IsAccepted}
use Rattle.vme_model.specs.Plan.{Plan}
use Rattle.vme_model.specs.Verdict.{IsLegal}
use Rattle.vme_model.specs.declared.signals.Edge.{Edge}
use Rattle.vme_captures.specs.declared.signals.Change.{Change}
use Rattle.vme_captures.specs.declared.signals.Pin.{Pin}
use Rattle.vme_captures.specs.Changes.{seen}
use Rattle.vme_captures.specs.Possible.{AgreeEach, Sighting, sightings, with_sighting}
use Rattle.vme_standings.specs.declared.standings.Drivers.{Drivers}
use Rattle.vme_standings.specs.declared.standings.Probed.{Probed}
use Rattle.vme_standings.specs.declared.standings.Standings.{Standings}
use Rattle.vme_standings.specs.Behind.{IsBehind}
use Rattle.vme_standings.specs.Covers.{AreProbed}
use Rattle.vme_standings.specs.Driving.{AreDrivers}
use Rattle.vme_standings.specs.Hidden.{HasMoved}
use Rattle.vme_standings.specs.Standings.{is_nobody}
use Rattle.vme_standings.proofs.JoinedHidden.{moved_covers, unseen_covered}
use Rattle.vme_standings.proofs.JoinedRows.{seen_step, somebody}
use Rattle.vme_standings.proofs.Tests.{never}
use Rattle.vme_samples.specs.declared.samples.SeenChange.{SeenChange}
use Rattle.vme_samples.specs.Orders.{AreNamed, CoversHidden, IsOrderOf, set_of}
use Rattle.vme_samples.specs.Places.{has_place}
use Rattle.vme_samples.proofs.Following.{unseen_leaves}
use Rattle.vme_samples.proofs.Next.{next_of}
use Rattle.vme_samples.proofs.OneMore.{none_in, with_here}

-- ---- its order

pub single_order : (s : SeenChange) (places : List ℕ) (here : List Change) → IsOrderOf (s ∷ []) places here → (places ≡ 0 ∷ []) × (here ≡ s.change ∷ [])
single_order s [] [] order = absurd (never (has_place (set_of []) 0) (order.whole 0 (omega arith)) (none_in (set_of []) refl 0))
single_order s [] (c ∷ cs) order = absurd order.ordered
single_order s (i ∷ is) [] order = absurd order.ordered
single_order s (i ∷ []) (c ∷ []) order =
    let n = next_of (s ∷ []) (set_of []) i order.ordered.1 in
    let l : i < 1 = slice_get_within (s ∷ []) i n.seen n.at in
    let z : i ≡ 0 = omega (arith, l) in
    (ap (λ j. j ∷ []) z, ap (λ x. x ∷ []) (same c s.change (sym order.ordered.2 ∙ ap (λ j. option_map (λ (x : SeenChange). x.change) (slice_get (s ∷ []) j)) z)))
  where
    same : (a b : Change) → Some a ≡ Some b → a ≡ b
    same a b e = cc
single_order s (i ∷ []) (c ∷ d ∷ cs) order = absurd order.ordered.0
single_order s (i ∷ j ∷ is) (c ∷ []) order = absurd order.ordered.0
single_order s (i ∷ j ∷ is) (c ∷ d ∷ cs) order =
    let n = next_of (s ∷ []) (set_of (j ∷ is)) i order.ordered.1 in
    let m = next_of (s ∷ []) (set_of is) j order.ordered.0.1 in
    let l : i < 1 = slice_get_within (s ∷ []) i n.seen n.at in
    let k : j < 1 = slice_get_within (s ∷ []) j m.seen m.at in
    let e : j ≡ i = omega (arith, l, k) in
    absurd (never (has_place (set_of (j ∷ is)) i) (subst (λ x. has_place (set_of (j ∷ is)) x ≡ true) e (with_here (set_of is) j m.off)) n.off)

-- ---- who makes it, and what is known then

module _ (p : Plan) (ok : IsAccepted p) (pins : List Pin) (probed : Probed) (probes : AreProbed p pins probed.segments) (g : List Edge) (old : Standings) (covers : CoversHidden p pins probed g old)
    (hidden : Standings) (moved : HasMoved p probed old hidden) (c : Change) where
  pub record Alone (h : List Edge) (xs : List Sighting) : Type 0 where
    pub over : (new : Standings) → IsBehind p probed hidden c new → CoversHidden p pins probed h new
    pub named : (d : Drivers) → AreDrivers p probed hidden c d → (is_nobody d ≡ false) × AreNamed (λ i. d) (0 ∷ []) xs

  none_named : (d : Drivers) (xs : List Sighting) → AgreeEach [] xs → AreNamed (λ i. d) [] xs
  none_named d [] agree = tt
  none_named d (x ∷ xs) agree = absurd agree

  pub alone : (h : List Edge) → IsLegal probed.version p (h ++ g) → AgreeEach (c ∷ []) (sightings p pins g h) → Alone (h ++ g) (sightings p pins g h)
  alone [] legal agree = absurd agree
  alone (e ∷ h) legal agree = by_sight (seen p pins (h ++ g) e) refl agree (alone h legal.1)
    where
      by_sight : (o : Option Change) → seen p pins (h ++ g) e ≡ o → AgreeEach (c ∷ []) (with_sighting e.driver o (sightings p pins g h))
          → (AgreeEach (c ∷ []) (sightings p pins g h) → Alone (h ++ g) (sightings p pins g h)) → Alone (e ∷ (h ++ g)) (with_sighting e.driver o (sightings p pins g h))
      by_sight None is a before =
          let b = before a in
          record {
            over = λ new behind last m. unseen_covered p ok probed pins new last m (h ++ g) probes e legal is (b.over new behind last m);
            named = b.named;
          }
      by_sight (Some v) is a before =
          let step = seen_step probed p ok pins (h ++ g) e v legal is hidden (unseen_leaves p ok pins probed probes g old covers h legal.1 a.1 hidden moved) c a.0 in
          record {
            over = λ new behind last m. moved_covers p ok probed pins new last m (e ∷ (h ++ g)) legal (step.covers new behind);
            named = λ d drivers. let among = step.by d drivers in (somebody d e.driver among, (among, none_named d (sightings p pins g h) a.1));
          }
