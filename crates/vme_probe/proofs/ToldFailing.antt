-- Each condition in the text of a capture that is impossible is one that holds on no bus: `condition_laws`.
use Rattle.std.proofs.Common.{◌≡◌, ◌⊎◌, ◌∙◌, ◌++◌, ◌∷◌, [], ℕ, true, List, Option, Some, None, Ok, reverse, refl, sym, ap, subst, inl, inr}
use Rattle.std.proofs.lemmas.List.{reverse-append, reverse-reverse}
use Rattle.vme_model.specs.declared.signals.Driver.{Driver}
use Rattle.vme_model.specs.declared.signals.Driver.TheVariants.{Controller, Slot}
use Rattle.vme_model.specs.declared.signals.Version.{Version}
use Rattle.vme_model.specs.Accepted.{IsAccepted}
use Rattle.vme_model.specs.Plan.{Plan}
use Rattle.vme_captures.specs.declared.signals.Change.{Change}
use Rattle.vme_captures.specs.declared.signals.Entry.{Entry}
use Rattle.vme_captures.specs.declared.signals.Entry.TheVariants as entry
use Rattle.vme_captures.specs.Reading.{capture_of, read_of}
use Rattle.vme_reading.specs.declared.Status.TheVariants.{SomeRefused}
use Rattle.vme_reading.specs.Streams.{HasConsumed, IsReadOut, Streams, Wrote}
use Rattle.vme_standings.specs.declared.standings.Drivers.{Drivers}
use Rattle.vme_standings.specs.declared.standings.Standings.{Standings}
use Rattle.vme_standings.specs.Covers.{Among}
use Rattle.vme_standings.specs.Hidden.{HasMoved}
use Rattle.vme_standings.specs.Moving.{moved_by}
use Rattle.vme_standings.specs.Standings.{Drive}
use Rattle.vme_samples.specs.declared.samples.SeenChange.{SeenChange}
use Rattle.vme_probe.specs.declared.judging.Known.{Known}
use Rattle.vme_probe.specs.Holding.{EndsAtHead, IsKnown, TellsFailing, has_it}
use Rattle.vme_probe.specs.Knowing.{IsStoppedAtEnd, IsUnbegun, Judged, StopsAt, StopsSample, seen_at}
use Rattle.vme_probe.specs.Probing.{IsImpossibleAtEnd, Probes, StopsIn}
use Rattle.vme_probe.specs.Stopped.{stopped_text}
use Rattle.vme_probe.proofs.NeverHolds.{named_fails}
use Rattle.vme_probe.proofs.Said.{AllSaid, all_said, later}
use Rattle.vme_probe.proofs.Tied.{Tied, tied}

-- what was read first was said in lines without a fault
read_first : (p : Plan) (bytes : List ℕ) (said others : List Entry) → (read_of p bytes).entries ≡ reverse said ++ others → AllSaid p said
read_first p bytes said others are =
    let is : reverse (read_of p bytes).entries ≡ reverse others ++ said =
    ap (λ (l : List Entry). reverse l) are ∙ (reverse-append (reverse said) others
    ∙ ap (λ (l : List Entry). reverse others ++ l) (reverse-reverse said)) in
    later p (reverse others) said (subst (λ (l : List Entry). AllSaid p l) is (all_said p bytes))

-- nothing waits
pub none_wait : (p : Plan) (v : Version) (said : List Entry) (known : Option Known) (waits : List SeenChange) (text : List ℕ) → Judged p v None said known waits text → waits ≡ []
none_wait p v [] known waits text h = h.1
none_wait p v (entry.Pin q ∷ said) known waits text h = none_wait p v said known waits text h
none_wait p v (entry.Running ∷ said) known waits text h = none_wait p v said known waits text h
none_wait p v (entry.Low x ∷ said) known waits text h = none_wait p v said known waits text h
none_wait p v (entry.Moment m ∷ said) known waits text h = none_wait p v said h.0 waits text h.2
none_wait p v (entry.Change c ∷ said) known waits text h = h.5.1

none_more : (s : SeenChange) (waits : List SeenChange) → s ∷ waits ≡ [] → ⊥
none_more s waits h = cc

-- these drivers have the line of the change, or drive its wire
among_has : (p : Plan) (c : Change) (drivers : Drivers) → Drive p c.signal drivers → (d : Driver) → Among drivers d → has_it p (moved_by p c.signal) d ≡ true
among_has p c drivers are Controller is = sym are.controller ∙ is
among_has p c drivers are (Slot s) is = sym (are.boards s) ∙ is

module _ (p : Plan) (ok : IsAccepted p) where
  is_known : (v : Version) (said : List Entry) (old : Known) (t : Tied p ok v said old) (hidden : Standings) → HasMoved p old.probed old.standings hidden
      → IsKnown p t.probed (capture_of v said) hidden
  is_known v said old t hidden moved = record {
    version = t.version;
    probes = t.probes;
    first = t.first;
    behind = old.standings;
    starts = t.starts;
    follows = t.follows;
    hidden = subst (λ x. HasMoved p x old.standings hidden) t.probed_is moved;
  }

  module _ (bytes : List ℕ) where
    stop_told : (text : List ℕ) → StopsIn p None (read_of p bytes) text → EndsAtHead text ⊎ TellsFailing p (read_of p bytes) text
    stop_told text x = by_next x.next x.are x.stops
      where
        by_next : (e : Entry) → (read_of p bytes).entries ≡ reverse x.said ++ e ∷ x.others → StopsAt p x.version None x.said e text → EndsAtHead text ⊎ TellsFailing p (read_of p bytes) text
        by_next (entry.Moment m) are (waits, lines, judged, cannot, is) = inl (lines, is)
        by_next (entry.Change c) are (before, waiting, lines, last, judged, stops, is) =
            let t = tied p ok x.version x.said (read_first p bytes x.said (entry.Change c ∷ x.others) are) before waiting lines judged in
            let same : before.probed.version ≡ x.version = ap (λ y. y.version) t.probed_is ∙ sym t.version in
            inr (record {
              version = x.version;
              said = x.said;
              change = c;
              others = x.others;
              are = are;
              known = stops.hidden;
              moment = (seen_at x.said c).moment;
              drivers = stops.owners;
              have_it = stops.owners_are;
              lines = lines;
              is = is ∙ ap (λ l. lines ++ l) (stops.is ∙ ap (λ v. stopped_text p v stops.hidden (seen_at x.said c).moment c stops.owners) same);
              fail = λ d o among named.
                  named_fails p t.probed (capture_of x.version x.said) stops.hidden c d o ok (is_known x.version x.said before t stops.hidden stops.moved)
                  (among_has p c stops.owners stops.owners_are d among) named;
            })
        by_next (entry.Pin q) are h = absurd h
        by_next entry.Running are h = absurd h
        by_next (entry.Low y) are h = absurd h

    end_told : (text : List ℕ) → IsImpossibleAtEnd p None (read_of p bytes) text → EndsAtHead text ⊎ TellsFailing p (read_of p bytes) text
    end_told text x = by_end x.is
      where
        nothing_stops : (known : Known) (text : List ℕ) (waits : List SeenChange) → waits ≡ [] → StopsSample p known waits text → ⊥
        nothing_stops known text [] is h = h
        nothing_stops known text (s ∷ waits) is h = absurd (none_more s waits is)

        by_end : IsUnbegun p x.version None x.said text ⊎ IsStoppedAtEnd p x.version None x.said text → EndsAtHead text ⊎ TellsFailing p (read_of p bytes) text
        by_end (inl u) = inl (u.lines, u.is)
        by_end (inr s) = absurd (nothing_stops s.known s.others s.waits (none_wait p x.version x.said (Some s.known) s.waits s.lines s.judged) s.stops)

pub printed_fails : (p : Plan) (bytes : List ℕ) (s : Streams) → IsAccepted p → Probes p None bytes s (Ok SomeRefused)
    → (read : List ℕ) × (text : List ℕ) × (HasConsumed s read ⊎ (IsReadOut s × (read ≡ bytes))) × (EndsAtHead text ⊎ TellsFailing p (read_of p read) text) × Wrote s text
printed_fails p bytes s ok h = by_place h.3
  where
    by_place : StopsIn p None (read_of p h.0) h.2 ⊎ (IsReadOut s × IsImpossibleAtEnd p None (read_of p bytes) h.2)
        → (read : List ℕ) × (text : List ℕ) × (HasConsumed s read ⊎ (IsReadOut s × (read ≡ bytes))) × (EndsAtHead text ⊎ TellsFailing p (read_of p read) text) × Wrote s text
    by_place (inl x) = (h.0, h.2, inl h.1, stop_told p ok h.0 h.2 x, h.4)
    by_place (inr x) = (bytes, h.2, inr (x.0, refl), end_told p ok bytes h.2 x.1, h.4)
