-- Each condition in the text of a sample that is impossible is one that holds on no bus: `condition_laws`.
use Rattle.std.proofs.Common.{◌≡◌, ◌⊎◌, ◌∙◌, ◌++◌, ◌∷◌, [], ℕ, Bool, true, false, not, List, Some, Ok, length, reverse, refl, sym, ap, subst, inl, inr, append-nil}
use Rattle.std.specs.Prelude.{◌&&◌}
use Rattle.vme_model.specs.declared.signals.Version.{Version}
use Rattle.vme_model.specs.Accepted.{IsAccepted}
use Rattle.vme_model.specs.Plan.{Plan}
use Rattle.vme_captures.specs.declared.signals.Entry.{Entry}
use Rattle.vme_captures.specs.declared.signals.Entry.TheVariants as entry
use Rattle.vme_captures.specs.Reading.{pins, read_of}
use Rattle.vme_reading.specs.declared.Status.TheVariants.{SomeRefused}
use Rattle.vme_reading.specs.Streams.{HasConsumed, IsReadOut, Streams, Wrote}
use Rattle.vme_standings.specs.declared.standings.Drivers.{Drivers}
use Rattle.vme_standings.specs.declared.standings.Probed.{Probed}
use Rattle.vme_standings.specs.declared.standings.Standings.{Standings}
use Rattle.vme_standings.specs.Covers.{AreProbed}
use Rattle.vme_samples.specs.declared.makers.Makers.{Makers}
use Rattle.vme_samples.specs.declared.places.Places.{Places}
use Rattle.vme_samples.specs.declared.samples.SeenChange.{SeenChange}
use Rattle.vme_samples.specs.Makers.{by_at}
use Rattle.vme_samples.specs.Orders.{set_of}
use Rattle.vme_samples.specs.Samples.{comes_next}
use Rattle.vme_samples.proofs.OneMore.{none_in}
use Rattle.vme_probe.specs.declared.judging.Known.{Known}
use Rattle.vme_probe.specs.Holding.{EndsAtHead}
use Rattle.vme_probe.specs.Knowing.{IsStoppedAtEnd, IsUnbegun, Judged, Stops, StopsAt, StopsSample}
use Rattle.vme_probe.specs.Lines.{impossible_line}
use Rattle.vme_probe.specs.Probing.{IsImpossibleAtEnd, Probes, StopsIn}
use Rattle.vme_probe.specs.Sampled.{CannotSample, Refuses, RefusesFirst, placed_line, placed_lines}
use Rattle.vme_probe.specs.SampledHolding.{IsKnownBehindSet, TellsFailingInSample}
use Rattle.vme_probe.specs.Stopped.{is_refused_by_ours, refused_text, stopped_text}
use Rattle.vme_probe.proofs.FailsInSample.{named_behind_set}
use Rattle.vme_probe.proofs.Refused.{read_first}
use Rattle.vme_probe.proofs.SamplesRefused.{Sampled, sampled}
use Rattle.vme_probe.proofs.SamplesTied.{CoversOrders}

-- what is written of a sample that is refused
record Told (p : Plan) (version : Version) (k : Known) (sample : List SeenChange) (text : List ℕ) : Type 0 where
  set : Places
  makers : Makers
  known : Standings
  behind : IsKnownBehindSet p k sample set known
  refused : List ℕ
  ours : Bool
  refuses : RefusesFirst p version known sample set (length sample) refused ours
  moment : ℕ
  is : text ≡ (placed_lines sample set makers (length sample) ++ refused) ++ impossible_line moment ours

-- ---- one change

-- it may come first
one_next : (s : SeenChange) → comes_next (s ∷ []) (set_of []) 0 ≡ true
one_next s = ap (λ b. not b && true) (none_in (set_of []) refl 0)

-- the text of a change that nobody may have made has no lines of others
stopped_as : (p : Plan) (v : Version) (st : Standings) (m : ℕ) (s : SeenChange) (owners : Drivers) (makers : Makers)
    → stopped_text p v st m s.change owners ≡ (placed_lines (s ∷ []) (set_of []) makers 1 ++ refused_text p v st m s.change owners) ++ impossible_line m (is_refused_by_ours p v st s.change owners)
unfolding stopped_text
stopped_as p v st m s owners makers =
    sym (ap (λ b. (([] ++ placed_line (Some s) b (by_at makers 0)) ++ refused_text p v st m s.change owners) ++ impossible_line m (is_refused_by_ours p v st s.change owners))
    (none_in (set_of []) refl 0))

module _ (p : Plan) (v : Version) (k : Known) (same : k.probed.version ≡ v) where
  one_told : (s : SeenChange) (text : List ℕ) → Stops p k s.moment s.change text → Told p v k (s ∷ []) text
  one_told s text stops = record {
    set = set_of [];
    makers = none;
    known = stops.hidden;
    behind = (refl, stops.moved);
    refused = refused_text p v stops.hidden s.moment s.change stops.owners;
    ours = is_refused_by_ours p v stops.hidden s.change stops.owners;
    refuses = (
      [],
      refused_text p v stops.hidden s.moment s.change stops.owners,
      false,
      is_refused_by_ours p v stops.hidden s.change stops.owners,
      (refl, refl),
      subst (λ b. Refuses p v stops.hidden (Some s) b (refused_text p v stops.hidden s.moment s.change stops.owners) (is_refused_by_ours p v stops.hidden s.change stops.owners)) (sym (one_next s))
          (stops.owners, stops.owners_are, refl, refl),
      refl,
      refl,
    );
    moment = s.moment;
    is = stops.is ∙ ap (λ x. stopped_text p x stops.hidden s.moment s.change stops.owners) same ∙ stopped_as p v stops.hidden s.moment s stops.owners none;
  }
    where
      none : Makers
      none = record { by = [] }

  -- ---- several changes

  several_told : (s t : SeenChange) (others : List SeenChange) (text : List ℕ) → CannotSample p k (s ∷ t ∷ others) text → Told p v k (s ∷ t ∷ others) text
  several_told s t others text h = record {
    set = h.furthest;
    makers = h.makers;
    known = h.hidden;
    behind = (h.ways, h.are_ways, h.behind);
    refused = h.refused;
    ours = h.ours;
    refuses = subst (λ x. RefusesFirst p x h.hidden (s ∷ t ∷ others) h.furthest (length (s ∷ t ∷ others)) h.refused h.ours) same h.refuses;
    moment = h.first.moment;
    is = h.is;
  }

  sample_told : (s : SeenChange) (others : List SeenChange) (text : List ℕ) → StopsSample p k (s ∷ others) text → Told p v k (s ∷ others) text
  sample_told s [] text stops = one_told s text stops
  sample_told s (t ∷ others) text stops = several_told s t others text stops

-- ---- the text

module _ (p : Plan) (ok : IsAccepted p) (skew : ℕ) (bytes : List ℕ) (v : Version) (named : (read_of p bytes).version ≡ Some v) where
  sample_fails : (said others : List Entry) → (read_of p bytes).entries ≡ reverse said ++ others → (k : Known) (waits : List SeenChange) (lines last text : List ℕ)
      → Judged p v (Some skew) said (Some k) waits lines → StopsSample p k waits last → text ≡ lines ++ last → TellsFailingInSample p skew (read_of p bytes) text
  sample_fails said others are k [] lines last text judged stops is = absurd stops
  sample_fails said others are k (w ∷ waits) lines last text judged stops is = record {
    version = v;
    named = named;
    said = said;
    others = others;
    are = are;
    sample = w ∷ waits;
    earlier = x.judged;
    samples_are = x.are;
    set = t.set;
    makers = t.makers;
    known = t.known;
    refused = t.refused;
    ours = t.ours;
    refuses = t.refuses;
    lines = lines;
    moment = t.moment;
    is = is ∙ ap (λ l. lines ++ l) t.is;
    fail = λ i s d o at next has found.
        named_behind_set p ok v said x.judged k (sym same) (subst (λ (y : Probed). AreProbed p (pins said) y.segments) (sym x.probed_is) x.probes)
        (subst (λ y. CoversOrders p ok v said y x.judged k.standings) (sym x.probed_is) x.covers) t.set (w ∷ waits) t.known t.behind s.change d o has found;
  }
    where
      x : Sampled p ok v skew said k (w ∷ waits) lines
      x = sampled p ok v skew said (read_first p bytes said others are) k (w ∷ waits) lines judged

      same : k.probed.version ≡ v
      same = ap (λ (y : Probed). y.version) x.probed_is ∙ sym x.version

      t : Told p v k (w ∷ waits) last
      t = sample_told p v k same w waits last stops

module _ (p : Plan) (ok : IsAccepted p) (skew : ℕ) (bytes : List ℕ) where
  stop_told : (text : List ℕ) → StopsIn p (Some skew) (read_of p bytes) text → EndsAtHead text ⊎ TellsFailingInSample p skew (read_of p bytes) text
  stop_told text x = by_next x.next x.are x.stops
    where
      by_next : (e : Entry) → (read_of p bytes).entries ≡ reverse x.said ++ e ∷ x.others → StopsAt p x.version (Some skew) x.said e text
          → EndsAtHead text ⊎ TellsFailingInSample p skew (read_of p bytes) text
      by_next (entry.Moment m) are (waits, lines, judged, cannot, is) = inl (lines, is)
      by_next (entry.Change c) are (before, waiting, lines, last, judged, stops, is) =
          inr (sample_fails p ok skew bytes x.version x.named x.said (entry.Change c ∷ x.others) are before waiting lines last text judged stops.1 is)
      by_next (entry.Pin q) are h = absurd h
      by_next entry.Running are h = absurd h
      by_next (entry.Low y) are h = absurd h

  end_told : (text : List ℕ) → IsImpossibleAtEnd p (Some skew) (read_of p bytes) text → EndsAtHead text ⊎ TellsFailingInSample p skew (read_of p bytes) text
  end_told text x = by_end x.is
    where
      by_end : IsUnbegun p x.version (Some skew) x.said text ⊎ IsStoppedAtEnd p x.version (Some skew) x.said text → EndsAtHead text ⊎ TellsFailingInSample p skew (read_of p bytes) text
      by_end (inl u) = inl (u.lines, u.is)
      by_end (inr s) =
          inr (sample_fails p ok skew bytes x.version x.named x.said [] (x.are ∙ sym (append-nil (reverse x.said))) s.known s.waits s.lines s.others text s.judged s.stops s.is)

pub printed_in_sample : (p : Plan) (skew : ℕ) (bytes : List ℕ) (s : Streams) → IsAccepted p → Probes p (Some skew) bytes s (Ok SomeRefused)
    → (read : List ℕ) × (text : List ℕ) × (HasConsumed s read ⊎ (IsReadOut s × (read ≡ bytes))) × (EndsAtHead text ⊎ TellsFailingInSample p skew (read_of p read) text) × Wrote s text
printed_in_sample p skew bytes s ok h = by_place h.3
  where
    by_place : StopsIn p (Some skew) (read_of p h.0) h.2 ⊎ (IsReadOut s × IsImpossibleAtEnd p (Some skew) (read_of p bytes) h.2)
        → (read : List ℕ) × (text : List ℕ) × (HasConsumed s read ⊎ (IsReadOut s × (read ≡ bytes))) × (EndsAtHead text ⊎ TellsFailingInSample p skew (read_of p read) text) × Wrote s text
    by_place (inl x) = (h.0, h.2, inl h.1, stop_told p ok skew h.0 h.2 x, h.4)
    by_place (inr x) = (bytes, h.2, inr (x.0, refl), end_told p ok skew bytes h.2 x.1, h.4)
