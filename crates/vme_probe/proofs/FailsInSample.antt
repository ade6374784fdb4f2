-- The condition that is named behind some changes of a sample, and those above it, hold together on no bus: `condition_laws`.
use Rattle.std.proofs.Common.{◌≡◌, ◌∙◌, ◌++◌, ◌∷◌, [], ℕ, true, List, Some, refl, sym, ap, subst, arith, append_assoc}
use Rattle.vme_model.specs.Accepted.{IsAccepted}
use Rattle.vme_model.specs.Plan.{Plan}
use Rattle.vme_model.specs.Verdict.{IsLegal}
use Rattle.vme_model.specs.declared.signals.Driver.{Driver}
use Rattle.vme_model.specs.declared.signals.Edge.{Edge}
use Rattle.vme_model.specs.declared.signals.Version.{Version}
use Rattle.vme_captures.specs.declared.signals.Change.{Change}
use Rattle.vme_captures.specs.declared.signals.Entry.{Entry}
use Rattle.vme_captures.specs.Possible.{AgreeEach, Explains, sightings}
use Rattle.vme_captures.specs.Reading.{pins}
use Rattle.vme_standings.specs.declared.standings.Probed.{Probed}
use Rattle.vme_standings.specs.declared.standings.Standings.{Standings}
use Rattle.vme_standings.specs.Covers.{AreProbed, Covers}
use Rattle.vme_standings.specs.Hidden.{HasMoved}
use Rattle.vme_standings.specs.Moving.{moved_by}
use Rattle.vme_standings.proofs.JoinedCaptures.{explained}
use Rattle.vme_samples.specs.declared.places.Places.{Places}
use Rattle.vme_samples.specs.declared.samples.SeenChange.{SeenChange}
use Rattle.vme_samples.specs.Orders.{AreInOrder, CoversHidden, set_of}
use Rattle.vme_samples.specs.Places.{with}
use Rattle.vme_samples.specs.Ways.{AreWays, Known as Ways, hidden_behind}
use Rattle.vme_samples.proofs.Following.{Splits, legal_before, split}
use Rattle.vme_samples.proofs.OneMore.{with_more}
use Rattle.vme_samples.proofs.Reached.{same_known}
use Rattle.vme_samples.proofs.Walk.{Walked, walked}
use Rattle.vme_probe.specs.declared.judging.Known.{Known}
use Rattle.vme_probe.specs.declared.obstacles.Obstacle.{Obstacle}
use Rattle.vme_probe.specs.Conditions.{obstacle}
use Rattle.vme_probe.specs.Holding.{has_it}
use Rattle.vme_probe.specs.SampledHolding.{IsKnownBehindSet, IsKnownInSample, LeadTo, NeverHoldsInSample, ShowsPart}
use Rattle.vme_probe.specs.SampledNaming.{in_order}
use Rattle.vme_probe.proofs.NeverHolds.{named_fails_on}
use Rattle.vme_probe.proofs.SamplesTied.{CoversOrders, begins_as, taken}

-- no place is in the empty set
no_places : (sample : List SeenChange) (places : List ℕ) (here : List Change) → AreInOrder sample places here → set_of places ≡ set_of [] → here ≡ []
no_places sample [] [] ordered none = refl
no_places sample [] (c ∷ cs) ordered none = absurd ordered
no_places sample (i ∷ places) here ordered none =
    let more = with_more (set_of places) i in
    let z : (with (set_of places) i).bits ≡ 0 = ap (λ (s : Places). s.bits) none in
    absurd (omega (arith, more, z))

module _ (p : Plan) (ok : IsAccepted p) (v : Version) (said : List Entry) (earlier : List (List SeenChange)) where
  -- what is known behind the earlier samples covers each bus that shows them, and so does what is known behind the set
  module _ (old : Known) (version : v ≡ old.probed.version) (probes : AreProbed p (pins said) old.probed.segments)
      (covered : CoversOrders p ok v said old.probed earlier old.standings) (set : Places) where
    -- no change of the sample is made
    none_covers : (sample : List SeenChange) (last : Standings) → set ≡ set_of [] → HasMoved p old.probed old.standings last
        → (g h : List Edge) → ShowsPart p v said earlier sample set g h → Covers p (pins said) (h ++ g) last
    none_covers sample last none moved g h x =
        covered x.before g h x.orders
        (subst (λ cs. Explains p (in_order v said (cs ++ x.before)) g h) (no_places sample x.places x.here x.ordered (x.set_is ∙ none)) x.explains) last moved

    -- some are
    some_covers : (sample : List SeenChange) (last : Standings) (ways : Ways) → AreWays p old.probed old.standings sample ways → hidden_behind ways set ≡ Some last
        → (g h : List Edge) → ShowsPart p v said earlier sample set g h → Covers p (pins said) (h ++ g) last
    some_covers sample last ways are_ways at g h x =
        subst (λ l. Covers p (pins said) l last) (sym same)
        (subst (Covers p (pins said) (s.later ++ (s.earlier ++ g)))
        (same_known w.st last (sym w.at ∙ ap (hidden_behind ways) x.set_is ∙ at)) w.covers)
      where
        s : Splits p (pins said) g h x.here x.before
        s = split p (pins said) g h x.here x.before x.explains.shows

        same : h ++ g ≡ s.later ++ (s.earlier ++ g)
        same = ap (λ (l : List Edge). l ++ g) s.are ∙ append_assoc s.later s.earlier g

        whole : IsLegal v p (s.later ++ (s.earlier ++ g))
        whole = subst (IsLegal v p) same x.explains.legal

        so_far : CoversHidden p (pins said) old.probed (s.earlier ++ g) old.standings
        so_far = covered x.before g s.earlier x.orders (record {
          begins = begins_as p ok v said (x.here ++ x.before) x.before g x.explains.begins;
          legal = legal_before v p s.later (s.earlier ++ g) whole;
          shows = s.before_agree;
        })

        w : Walked p ok (pins said) old.probed sample old.standings ways are_ways x.places (s.later ++ (s.earlier ++ g)) (sightings p (pins said) (s.earlier ++ g) s.later)
        w = walked p ok (pins said) old.probed sample old.standings ways are_ways probes (s.earlier ++ g) so_far s.later
            (subst (λ y. IsLegal y p (s.later ++ (s.earlier ++ g))) version whole) x.places x.here x.ordered s.here_agree

    pub set_covers : (sample : List SeenChange) (last : Standings) → IsKnownBehindSet p old sample set last
        → (g h : List Edge) → ShowsPart p v said earlier sample set g h → Covers p (pins said) (h ++ g) last
    set_covers [] last behind = absurd behind
    set_covers (a ∷ []) last (none, moved) = none_covers (a ∷ []) last none moved
    set_covers (a ∷ b ∷ others) last (ways, are_ways, at) = some_covers (a ∷ b ∷ others) last ways are_ways at

    pub named_behind_set : (sample : List SeenChange) (last : Standings) → IsKnownBehindSet p old sample set last → (c : Change) (d : Driver) (o : Obstacle)
        → has_it p (moved_by p c.signal) d ≡ true → obstacle p v last c d ≡ Some o → NeverHoldsInSample p v said earlier sample set last c d o
    named_behind_set sample last behind c d o has named =
        named_fails_on p v (pins said) (ShowsPart p v said earlier sample set) last c d o ok (λ g h x. x.explains.legal) (set_covers sample last behind) has named

-- what is known behind samples covers each bus that shows them
module _ (p : Plan) (ok : IsAccepted p) (v : Version) (said : List Entry) (first : Known) (version : v ≡ first.probed.version) (probes : AreProbed p (pins said) first.probed.segments)
    (starts : CoversOrders p ok v said first.probed [] first.standings) where
  record Led (earlier : List (List SeenChange)) (last : Known) : Type 0 where
    covers : CoversOrders p ok v said first.probed earlier last.standings
    probed_is : last.probed ≡ first.probed

  led : (earlier : List (List SeenChange)) (last : Known) → LeadTo p first earlier last → Led earlier last
  led [] last is = record {
    covers = subst (λ (k : Known). CoversOrders p ok v said first.probed [] k.standings) (sym is) starts;
    probed_is = ap (λ (k : Known). k.probed) is;
  }
  led (sample ∷ earlier) last (before, lines, lead, some, takes) =
      let l = led earlier before lead in
      let t = taken p ok v said first.probed version probes earlier before.standings l.covers before l.probed_is refl sample some last lines takes in
      record { covers = t.covers; probed_is = t.probed_is }

pub named_in_sample : (p : Plan) (version : Version) (said : List Entry) (earlier : List (List SeenChange)) (sample : List SeenChange) (set : Places) (last : Standings) (c : Change)
    (d : Driver) (o : Obstacle) → IsAccepted p → IsKnownInSample p version said earlier sample set last
    → has_it p (moved_by p c.signal) d ≡ true → obstacle p version last c d ≡ Some o → NeverHoldsInSample p version said earlier sample set last c d o
named_in_sample p version said earlier sample set last c d o ok k has named =
    named_behind_set p ok version said earlier k.before (k.version_is ∙ ap (λ (x : Probed). x.version) same)
    (subst (λ (x : Probed). AreProbed p (pins said) x.segments) same k.probes)
    (subst (λ x. CoversOrders p ok version said x earlier k.before.standings) same l.covers) set sample last k.behind c d o has named
  where
    starts : CoversOrders p ok version said k.first.probed [] k.first.standings
    starts cs g h none x hidden moved =
        explained p ok k.first.probed (in_order version said []) k.version_is k.probes g (begins_as p ok version said cs [] g x.begins) k.first.standings k.starts h x.legal []
        (subst (λ ks. AgreeEach ks (sightings p (pins said) g h)) none x.shows) k.first.standings hidden refl moved

    l : Led p ok version said k.first k.version_is k.probes starts earlier k.before
    l = led p ok version said k.first k.version_is k.probes starts earlier k.before k.lead

    same : k.first.probed ≡ k.before.probed
    same = sym l.probed_is
