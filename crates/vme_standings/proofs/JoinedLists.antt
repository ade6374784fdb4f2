-- Edge by edge: what is known covers every list of edges that shows what was captured.
use Rattle.std.proofs.Common.{◌≡◌, refl, sym, subst, true, false, List, [], ◌∷◌, ◌++◌}
use Rattle.std.specs.Prelude.{Option, Some, None}
use Rattle.vme_model.specs.declared.signals.Edge.{Edge}
use Rattle.vme_model.specs.Plan.{Plan}
use Rattle.vme_model.specs.Accepted.{IsAccepted}
use Rattle.vme_model.specs.Verdict.{IsLegal}
use Rattle.vme_captures.specs.declared.signals.Change.{Change}
use Rattle.vme_captures.specs.declared.signals.Pin.{Pin}
use Rattle.vme_captures.specs.Changes.{agrees, seen}
use Rattle.vme_captures.specs.Possible.{AgreeEach, Sighting, sightings, with_sighting}
use Rattle.vme_standings.specs.declared.standings.Drivers.{Drivers}
use Rattle.vme_standings.specs.declared.standings.Probed.{Probed}
use Rattle.vme_standings.specs.declared.standings.Standings.{Standings}
use Rattle.vme_standings.specs.Covers.{AreProbed, Among, Covers}
use Rattle.vme_standings.specs.Driving.{AreDrivers}
use Rattle.vme_standings.specs.Following.{Follows}
use Rattle.vme_standings.specs.Hidden.{HasMoved}
use Rattle.vme_standings.specs.Standings.{is_nobody}
use Rattle.vme_standings.proofs.JoinedHidden.{moved_covers, unseen_covered}
use Rattle.vme_standings.proofs.JoinedRows.{seen_step, somebody}

module _ (p : Plan) (ok : IsAccepted p) (probed : Probed) (pins : List Pin) (probes : AreProbed p pins probed.segments) (g : List Edge) (first : Standings) (covers : Covers p pins g first) where
  -- what is known behind the changes, with the hidden moves
  pub followed : (h : List Edge) → IsLegal probed.version p (h ++ g) → (cs : List Change) → AgreeEach cs (sightings p pins g h) → (st last : Standings) → Follows p probed first cs st
      → HasMoved p probed st last → Covers p pins (h ++ g) last
  followed [] legal [] agree st last follows moved = moved_covers p ok probed pins st last moved g legal (subst (Covers p pins g) (sym follows) covers)
  followed [] legal (c ∷ cs) agree st last follows moved = absurd agree
  followed (e ∷ h) legal cs agree st last follows moved = by_sight (seen p pins (h ++ g) e) refl cs agree st follows moved (followed h legal.1)
    where
      by_sight : (o : Option Change) → seen p pins (h ++ g) e ≡ o → (cs : List Change) → AgreeEach cs (with_sighting e.driver o (sightings p pins g h)) → (st : Standings)
          → Follows p probed first cs st → HasMoved p probed st last
          → ((ks : List Change) → AgreeEach ks (sightings p pins g h) → (a b : Standings) → Follows p probed first ks a → HasMoved p probed a b → Covers p pins (h ++ g) b)
          → Covers p pins (e ∷ (h ++ g)) last
      by_sight None is cs agree st follows moved before =
          unseen_covered p ok probed pins st last moved (h ++ g) probes e legal is (before cs agree st last follows moved)
      by_sight (Some v) is [] agree st follows moved before = absurd agree
      by_sight (Some v) is (c ∷ cs) agree st (a, b, earlier, hides, behind) moved before =
          moved_covers p ok probed pins st last moved (e ∷ (h ++ g)) legal
          ((seen_step probed p ok pins (h ++ g) e v legal is b (before cs agree.1 a b earlier hides) c agree.0).covers st behind)

  -- who made the newest change
  pub newest_by : (h : List Edge) → IsLegal probed.version p (h ++ g) → (c : Change) (cs : List Change) (s : Sighting) (ss : List Sighting) → sightings p pins g h ≡ s ∷ ss
      → AgreeEach (c ∷ cs) (s ∷ ss) → (st hidden : Standings) → Follows p probed first cs st → HasMoved p probed st hidden
      → (d : Drivers) → AreDrivers p probed hidden c d → Among d s.driver
  newest_by [] legal c cs s ss is agree st hidden follows moved d drivers = absurd (cc)
  newest_by (e ∷ h) legal c cs s ss is agree st hidden follows moved d drivers = by_sight (seen p pins (h ++ g) e) refl is (newest_by h legal.1 c cs s ss)
    where
      head_is : (a : Sighting) (rest : List Sighting) → a ∷ rest ≡ s ∷ ss → (a ≡ s) × (rest ≡ ss)
      head_is a rest x = (cc, cc)

      by_sight : (o : Option Change) → seen p pins (h ++ g) e ≡ o → with_sighting e.driver o (sightings p pins g h) ≡ s ∷ ss
          → (sightings p pins g h ≡ s ∷ ss → AgreeEach (c ∷ cs) (s ∷ ss) → (a b : Standings) → Follows p probed first cs a → HasMoved p probed a b → (x : Drivers) → AreDrivers p probed b c x
          → Among x s.driver) → Among d s.driver
      by_sight None none same before = before same agree st hidden follows moved d drivers
      by_sight (Some v) some same before =
          let both = head_is (record { driver = e.driver; change = v }) (sightings p pins g h) same in
          subst (λ (x : Sighting). Among d x.driver) both.0
          ((seen_step probed p ok pins (h ++ g) e v legal some hidden
          (followed h legal.1 cs (subst (AgreeEach cs) (sym both.1) agree.1) st hidden follows moved) c
          (subst (λ (x : Sighting). agrees c x.change ≡ true) (sym both.0) agree.0)).by d drivers)

  -- so somebody may have made it
  pub newest_somebody : (h : List Edge) → IsLegal probed.version p (h ++ g) → (c : Change) (cs : List Change) → AgreeEach (c ∷ cs) (sightings p pins g h) → (st hidden : Standings)
      → Follows p probed first cs st → HasMoved p probed st hidden
      → (d : Drivers) → AreDrivers p probed hidden c d → is_nobody d ≡ false
  newest_somebody h legal c cs agree st hidden follows moved d drivers = by_list (sightings p pins g h) refl agree
    where
      by_list : (ss : List Sighting) → sightings p pins g h ≡ ss → AgreeEach (c ∷ cs) ss → is_nobody d ≡ false
      by_list [] is x = absurd x
      by_list (s ∷ ss) is x = somebody d s.driver (newest_by h legal c cs s ss is x st hidden follows moved d drivers)
