-- Sample by sample: what is known behind them covers every list of edges that shows the changes of
-- each in an order of its own.
use Rattle.std.proofs.Common.{◌≡◌, ◌∙◌, ◌<◌, List, [], ◌∷◌, ◌++◌, length, take, refl, sym, ap, subst, append_assoc}
use Rattle.std.specs.Prelude.{Option, Some, None}
use Rattle.vme_model.specs.Accepted.{IsAccepted}
use Rattle.vme_model.specs.Plan.{Plan}
use Rattle.vme_model.specs.Verdict.{IsLegal}
use Rattle.vme_model.specs.declared.signals.Edge.{Edge}
use Rattle.vme_model.specs.declared.signals.Version.{Version}
use Rattle.vme_captures.specs.declared.signals.Change.{Change}
use Rattle.vme_captures.specs.declared.signals.Pin.{Pin}
use Rattle.vme_captures.specs.Changes.{seen}
use Rattle.vme_captures.specs.Possible.{AgreeEach, Sighting, sightings, with_sighting}
use Rattle.vme_standings.specs.declared.standings.Probed.{Probed}
use Rattle.vme_standings.specs.declared.standings.Standings.{Standings}
use Rattle.vme_standings.specs.Covers.{AreProbed}
use Rattle.vme_samples.specs.declared.samples.SeenChange.{SeenChange}
use Rattle.vme_samples.specs.Orders.{AreOrdersOf, CoversHidden, FollowSamples, all_of}
use Rattle.vme_samples.specs.Ways.{AreWays, Gathered, Known}
use Rattle.vme_samples.proofs.Reached.{same_known}
use Rattle.vme_samples.proofs.Walk.{order_gathered}
use Rattle.vme_standings.proofs.JoinedHidden.{unseen_covered}

-- the edges that show the later changes, and those before them
pub record Splits (p : Plan) (pins : List Pin) (g h : List Edge) (here before : List Change) : Type 0 where
  pub later : List Edge
  pub earlier : List Edge
  pub are : h ≡ later ++ earlier
  pub first : take (length here) (sightings p pins g h) ≡ sightings p pins (earlier ++ g) later
  pub here_agree : AgreeEach here (sightings p pins (earlier ++ g) later)
  pub before_agree : AgreeEach before (sightings p pins g earlier)

pub split : (p : Plan) (pins : List Pin) (g h : List Edge) (here before : List Change) → AgreeEach (here ++ before) (sightings p pins g h) → Splits p pins g h here before
split p pins g h [] before agree = record { later = []; earlier = h; are = refl; first = refl; here_agree = tt; before_agree = agree }
split p pins g [] (c ∷ cs) before agree = absurd agree
split p pins g (e ∷ h) (c ∷ cs) before agree = by_sight (seen p pins (h ++ g) e) refl agree (split p pins g h (c ∷ cs) before) (split p pins g h cs before)
  where
    behind : (later earlier : List Edge) → h ≡ later ++ earlier → h ++ g ≡ later ++ (earlier ++ g)
    behind later earlier are = ap (λ (l : List Edge). l ++ g) are ∙ append_assoc later earlier g

    put : (o : Option Change) → seen p pins (h ++ g) e ≡ o → (ks : List Change) (later earlier : List Edge) → h ≡ later ++ earlier
        → AgreeEach ks (with_sighting e.driver o (sightings p pins (earlier ++ g) later)) → AgreeEach ks (sightings p pins (earlier ++ g) (e ∷ later))
    put o is ks later earlier are a =
        subst (λ x. AgreeEach ks (with_sighting e.driver x (sightings p pins (earlier ++ g) later))) (sym is ∙ ap (λ l. seen p pins l e) (behind later earlier are)) a

    by_sight : (o : Option Change) → seen p pins (h ++ g) e ≡ o → AgreeEach (c ∷ (cs ++ before)) (with_sighting e.driver o (sightings p pins g h))
        → (AgreeEach (c ∷ (cs ++ before)) (sightings p pins g h) → Splits p pins g h (c ∷ cs) before) → (AgreeEach (cs ++ before) (sightings p pins g h) → Splits p pins g h cs before)
        → Splits p pins g (e ∷ h) (c ∷ cs) before
    by_sight None is a same less =
        let s = same a in
        record {
          later = e ∷ s.later;
          earlier = s.earlier;
          are = ap (λ (l : List Edge). e ∷ l) s.are;
          first =
              ap (λ o. take (length (c ∷ cs)) (with_sighting e.driver o (sightings p pins g h))) is ∙ s.first
              ∙ sym (ap (λ o. with_sighting e.driver o (sightings p pins (s.earlier ++ g) s.later)) (ap (λ l. seen p pins l e) (sym (behind s.later s.earlier s.are)) ∙ is));
          here_agree = put None is (c ∷ cs) s.later s.earlier s.are s.here_agree;
          before_agree = s.before_agree;
        }
    by_sight (Some v) is a same less =
        let s = less a.1 in
        record {
          later = e ∷ s.later;
          earlier = s.earlier;
          are = ap (λ (l : List Edge). e ∷ l) s.are;
          first =
              ap (λ o. take (length (c ∷ cs)) (with_sighting e.driver o (sightings p pins g h))) is
              ∙ ap (λ (l : List Sighting). record { driver = e.driver; change = v } ∷ l) s.first
              ∙ sym (ap (λ o. with_sighting e.driver o (sightings p pins (s.earlier ++ g) s.later)) (ap (λ l. seen p pins l e) (sym (behind s.later s.earlier s.are)) ∙ is));
          here_agree = put (Some v) is (c ∷ cs) s.later s.earlier s.are (a.0, s.here_agree);
          before_agree = s.before_agree;
        }

pub legal_before : (v : Version) (p : Plan) (h g : List Edge) → IsLegal v p (h ++ g) → IsLegal v p g
legal_before v p [] g legal = legal
legal_before v p (e ∷ h) g legal = legal_before v p h g legal.1

module _ (p : Plan) (ok : IsAccepted p) (pins : List Pin) (probed : Probed) (probes : AreProbed p pins probed.segments) (g : List Edge) (first : Standings)
    (covers : CoversHidden p pins probed g first) where
  -- edges that no probe sees leave what is known behind them
  pub unseen_leaves : (h : List Edge) → IsLegal probed.version p (h ++ g) → AgreeEach [] (sightings p pins g h) → CoversHidden p pins probed (h ++ g) first
  unseen_leaves [] legal agree = covers
  unseen_leaves (e ∷ h) legal agree = by_sight (seen p pins (h ++ g) e) refl agree (unseen_leaves h legal.1)
    where
      by_sight : (o : Option Change) → seen p pins (h ++ g) e ≡ o → AgreeEach [] (with_sighting e.driver o (sightings p pins g h))
          → (AgreeEach [] (sightings p pins g h) → CoversHidden p pins probed (h ++ g) first) → CoversHidden p pins probed (e ∷ (h ++ g)) first
      by_sight None is a before = λ hidden moved. unseen_covered p ok probed pins first hidden moved (h ++ g) probes e legal is (before a hidden moved)
      by_sight (Some v) is a before = absurd a

  pub samples_followed : (samples : List (List SeenChange)) (last : Standings) → FollowSamples p probed first samples last → (changes : List Change) → AreOrdersOf samples changes
      → (h : List Edge) → IsLegal probed.version p (h ++ g) → AgreeEach changes (sightings p pins g h) → CoversHidden p pins probed (h ++ g) last
  samples_followed [] last is changes none h legal agree =
      subst (CoversHidden p pins probed (h ++ g)) (sym is) (unseen_leaves h legal (subst (λ cs. AgreeEach cs (sightings p pins g h)) none agree))
  samples_followed (sample ∷ samples) last (old, known, follow, ways, some, gathered) changes (places, here, before, order, orders, are) h legal agree =
      let s = split p pins g h here before (subst (λ cs. AgreeEach cs (sightings p pins g h)) are agree) in
      let same : h ++ g ≡ s.later ++ (s.earlier ++ g) = ap (λ (l : List Edge). l ++ g) s.are ∙ append_assoc s.later s.earlier g in
      let whole : IsLegal probed.version p (s.later ++ (s.earlier ++ g)) = subst (IsLegal probed.version p) same legal in
      let so_far = samples_followed samples old follow before orders s.earlier (legal_before probed.version p s.later (s.earlier ++ g) whole) s.before_agree in
      let x = order_gathered p ok pins probed sample old known ways probes (s.earlier ++ g) so_far s.later
      (record { places = places; changes = here; legal = whole; order = order; agree = s.here_agree }) some (Some last) gathered in
      subst (λ l. CoversHidden p pins probed l last) (sym same) (subst (CoversHidden p pins probed (s.later ++ (s.earlier ++ g))) (sym (same_known last x.0 x.1)) x.2)

  -- if nothing is known behind a sample, no legal list shows it behind the others
  pub never_shown : (samples : List (List SeenChange)) (old : Standings) → FollowSamples p probed first samples old → (sample : List SeenChange) (known : Known) → AreWays p probed old sample known
      → 0 < length sample
      → Gathered p probed sample known (all_of sample) (length sample) None → (changes : List Change) → AreOrdersOf (sample ∷ samples) changes
      → (h : List Edge) → IsLegal probed.version p (h ++ g) → AgreeEach changes (sightings p pins g h) → ⊥
  never_shown samples old follow sample known ways some none changes (places, here, before, order, orders, are) h legal agree =
      let s = split p pins g h here before (subst (λ cs. AgreeEach cs (sightings p pins g h)) are agree) in
      let same : h ++ g ≡ s.later ++ (s.earlier ++ g) = ap (λ (l : List Edge). l ++ g) s.are ∙ append_assoc s.later s.earlier g in
      let whole : IsLegal probed.version p (s.later ++ (s.earlier ++ g)) = subst (IsLegal probed.version p) same legal in
      let so_far = samples_followed samples old follow before orders s.earlier (legal_before probed.version p s.later (s.earlier ++ g) whole) s.before_agree in
      let x = order_gathered p ok pins probed sample old known ways probes (s.earlier ++ g) so_far s.later
      (record { places = places; changes = here; legal = whole; order = order; agree = s.here_agree }) some None none in
      clash x.0 x.1
    where
      clash : (st : Standings) → None ≡ Some st → ⊥
      clash st e = cc
