-- Whoever may have made a change is named, and a change that nobody may have made ends no possible
-- capture: `laws`.
use Rattle.std.proofs.Common.{◌≡◌, ◌∙◌, ◌-◌, ◌++◌, ◌∷◌, [], ℕ, suc, true, false, List, Option, Some, None, length, reverse, refl, sym, ap, subst, arith}
use Rattle.std.specs.List.{slice_get}
use Rattle.std.proofs.lemmas.List.{length-reverse, reverse-append}
use Rattle.vme_model.specs.declared.signals.Edge.{Edge}
use Rattle.vme_model.specs.declared.signals.Version.{Version}
use Rattle.vme_model.specs.Accepted.{IsAccepted}
use Rattle.vme_model.specs.Plan.{Plan}
use Rattle.vme_model.specs.Verdict.{IsLegal}
use Rattle.vme_captures.specs.declared.signals.Change.{Change}
use Rattle.vme_captures.specs.declared.signals.Entry.{Entry}
use Rattle.vme_captures.specs.declared.signals.Entry.TheVariants as entry
use Rattle.vme_captures.specs.declared.signals.Pin.{Pin}
use Rattle.vme_captures.specs.Changes.{agrees, seen}
use Rattle.vme_captures.specs.Possible.{AgreeEach, Explains, IsPossible, Sighting, sightings, with_sighting}
use Rattle.vme_captures.specs.Reading.{capture_of, changes, pins}
use Rattle.vme_standings.specs.declared.standings.Drivers.{Drivers}
use Rattle.vme_standings.specs.declared.standings.Standings.{Standings}
use Rattle.vme_standings.specs.Covers.{Among, Covers}
use Rattle.vme_standings.specs.Driving.{AreDrivers}
use Rattle.vme_standings.specs.Following.{StartsAs}
use Rattle.vme_standings.specs.Hidden.{HasMoved}
use Rattle.vme_standings.specs.Standings.{is_nobody}
use Rattle.vme_standings.proofs.JoinedCaptures.{explained, never_impossible}
use Rattle.vme_standings.proofs.JoinedRows.{seen_step}
use Rattle.vme_samples.specs.declared.samples.SeenChange.{SeenChange}
use Rattle.vme_probe.specs.declared.judging.Known.{Known}
use Rattle.vme_probe.specs.Knowing.{Judged, Stops}
use Rattle.vme_probe.specs.Naming.{AreAllMakers, Names}
use Rattle.vme_probe.proofs.Said.{AllSaid}
use Rattle.vme_probe.proofs.Tied.{Tied, same_head, tied}

-- ---- the newest change that was seen

record Newest (p : Plan) (v : Version) (qs : List Pin) (g : List Edge) (s : Sighting) (ss : List Sighting) : Type 0 where
  rest : List Edge
  edge : Edge
  change : Change
  legal : IsLegal v p (edge ∷ (rest ++ g))
  seen_is : seen p qs (rest ++ g) edge ≡ Some change
  is : record { driver = edge.driver; change = change } ≡ s
  earlier : sightings p qs g rest ≡ ss

newest : (p : Plan) (v : Version) (qs : List Pin) (g h : List Edge) → IsLegal v p (h ++ g) → (s : Sighting) (ss : List Sighting) → sightings p qs g h ≡ s ∷ ss → Newest p v qs g s ss
newest p v qs g [] legal s ss is = absurd (cc)
newest p v qs g (e ∷ h) legal s ss is = by_sight (seen p qs (h ++ g) e) refl is (λ x. newest p v qs g h legal.1 s ss x)
  where
    head_is : (a : Sighting) (others : List Sighting) → a ∷ others ≡ s ∷ ss → (a ≡ s) × (others ≡ ss)
    head_is a others x = (cc, cc)

    by_sight : (o : Option Change) → seen p qs (h ++ g) e ≡ o → with_sighting e.driver o (sightings p qs g h) ≡ s ∷ ss → (sightings p qs g h ≡ s ∷ ss → Newest p v qs g s ss) → Newest p v qs g s ss
    by_sight None none same next = next same
    by_sight (Some c) some same next =
        let both = head_is (record { driver = e.driver; change = c }) (sightings p qs g h) same in
        record { rest = h; edge = e; change = c; legal = legal; seen_is = some; is = both.0; earlier = both.1 }

-- ---- its place

same_length : (cs : List Change) (ss : List Sighting) → AgreeEach cs ss → length cs ≡ length ss
same_length [] [] h = refl
same_length (c ∷ cs) (s ∷ ss) h = ap (λ n. suc n) (same_length cs ss h.1)
same_length [] (s ∷ ss) h = absurd h
same_length (c ∷ cs) [] h = absurd h

last_got : (xs : List Sighting) (s : Sighting) → slice_get (xs ++ s ∷ []) (length xs) ≡ Some s
last_got [] s = refl
last_got (x ∷ xs) s = last_got xs s

newest_got : (s : Sighting) (ss : List Sighting) → slice_get (reverse (s ∷ ss)) (length ss) ≡ Some s
newest_got s ss =
    ap (λ xs. slice_get xs (length ss)) (reverse-append (s ∷ []) ss)
    ∙ (ap (λ n. slice_get (reverse ss ++ s ∷ []) n) (sym (length-reverse ss)) ∙ last_got (reverse ss) s)

one_less : (n : ℕ) → suc n - 1 ≡ n
one_less n = omega arith

same_some : (a b : Sighting) → Some a ≡ Some b → a ≡ b
same_some a b h = cc

module _ (p : Plan) (ok : IsAccepted p) (v : Version) (said : List Entry) (c : Change) (old : Known) (t : Tied p ok v said old) (hidden : Standings)
    (moved : HasMoved p old.probed old.standings hidden) (d : Drivers) (drivers : AreDrivers p old.probed hidden c d) where
  abbrev starts : StartsAs p t.probed (capture_of v (entry.Change c ∷ said)) t.first
  starts = same_head p ok v said c t.probed t.first t.starts

  moves : HasMoved p t.probed old.standings hidden
  moves = subst (λ x. HasMoved p x old.standings hidden) t.probed_is moved

  may : AreDrivers p t.probed hidden c d
  may = subst (λ x. AreDrivers p x hidden c d) t.probed_is drivers

  -- whoever made it is among the drivers
  maker : (g h : List Edge) → Explains p (capture_of v (entry.Change c ∷ said)) g h → (s : Sighting) (ss : List Sighting) → sightings p (pins said) g h ≡ s ∷ ss → Among d s.driver
  maker g h x s ss is =
      let n = newest p t.probed.version (pins said) g h (subst (λ y. IsLegal y p (h ++ g)) t.version x.legal) s ss is in
      let agree : AgreeEach (c ∷ changes said) (s ∷ ss) = subst (λ ys. AgreeEach (c ∷ changes said) ys) is x.shows in
      let before : Covers p (pins said) (n.rest ++ g) hidden =
      explained p ok t.probed (capture_of v (entry.Change c ∷ said)) t.version t.probes g x.begins t.first starts n.rest
      (subst (λ y. IsLegal y p (n.rest ++ g)) (sym t.version) n.legal.1) (changes said)
      (subst (λ ys. AgreeEach (changes said) ys) (sym n.earlier) agree.1) old.standings hidden t.follows moves in
      subst (λ (y : Sighting). Among d y.driver) n.is
      ((seen_step t.probed p ok (pins said) (n.rest ++ g) n.edge n.change n.legal n.seen_is hidden before c
      (subst (λ (y : Sighting). agrees c y.change ≡ true) (sym n.is) agree.0)).by d may)

  pub all_makers : AreAllMakers p (capture_of v (entry.Change c ∷ said)) d
  all_makers x by = by_list (sightings p (pins said) by.before by.edges) refl by.explains.shows by.made
    where
      by_list : (ys : List Sighting) → sightings p (pins said) by.before by.edges ≡ ys → AgreeEach (c ∷ changes said) ys
          → slice_get (reverse ys) (length (c ∷ changes said) - 1) ≡ Some (record { driver = x; change = by.change }) → Among d x
      by_list [] is agree made = absurd agree
      by_list (s ∷ ss) is agree made =
          let place : length (c ∷ changes said) - 1 ≡ length ss = one_less (length (changes said)) ∙ same_length (changes said) ss agree.1 in
          let same : s ≡ record { driver = x; change = by.change } =
          same_some s (record { driver = x; change = by.change })
          (sym (newest_got s ss) ∙ (sym (ap (λ n. slice_get (reverse (s ∷ ss)) n) place) ∙ made)) in
          subst (λ (y : Sighting). Among d y.driver) same (maker by.before by.edges by.explains s ss is)

  pub never_nobody : is_nobody d ≡ true → IsPossible p (capture_of v (entry.Change c ∷ said)) → ⊥
  never_nobody nobody may_be =
      let x = may_be.explains in
      true_false (sym nobody
      ∙ never_impossible p ok t.probed (capture_of v (entry.Change c ∷ said)) t.version t.probes may_be.before x.begins t.first starts
      may_be.edges x.legal c (changes said) x.shows old.standings hidden t.follows moves d may)
    where
      true_false : true ≡ false → ⊥
      true_false h = cc

-- each line names all who may have made its change
pub names : (p : Plan) (ok : IsAccepted p) (v : Version) (said : List Entry) → AllSaid p said → (known : Option Known) (waits : List SeenChange) (text : List ℕ) → Judged p v None said known waits text
    → Names p v said text
names p ok v [] all known waits text h = h.2
names p ok v (entry.Pin q ∷ said) all known waits text h = names p ok v said all.1 known waits text h
names p ok v (entry.Running ∷ said) all known waits text h = names p ok v said all.1 known waits text h
names p ok v (entry.Low x ∷ said) all known waits text h = names p ok v said all.1 known waits text h
names p ok v (entry.Moment m ∷ said) all known waits text h = names p ok v said all.1 h.0 waits text h.2
names p ok v (entry.Change c ∷ said) all known waits text h =
    let f = h.5.0.follows in (
      h.2,
      h.5.0.drivers,
      names p ok v said all.1 (Some h.0) h.1 h.2 h.4,
      all_makers p ok v said c h.0 (tied p ok v said all.1 h.0 h.1 h.2 h.4) f.hidden f.moved h.5.0.drivers f.drivers,
      h.5.0.is,
    )

-- and what is impossible, no bus shows
pub stopped : (p : Plan) (ok : IsAccepted p) (v : Version) (said : List Entry) (c : Change) (m : ℕ) → AllSaid p said → (old : Known) (waits : List SeenChange) (lines text : List ℕ)
    → Judged p v None said (Some old) waits lines → Stops p old m c text
    → IsPossible p (capture_of v (entry.Change c ∷ said)) → ⊥
stopped p ok v said c m all old waits lines text judged s =
    never_nobody p ok v said c old (tied p ok v said all old waits lines judged) s.hidden s.moved s.makers s.makers_are s.nobody
