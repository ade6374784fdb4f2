-- What `probe` answers of a capture holds of all buses that keep the rules: `laws`.
use Rattle.std.proofs.Common.{◌≡◌, ◌⊎◌, ◌∙◌, ◌++◌, ◌∷◌, [], ℕ, true, false, Bool, List, Option, Some, None, Ok, reverse, refl, sym, ap, subst, inl, inr, append_assoc, append-nil}
use Rattle.std.proofs.lemmas.List.{reverse-append, reverse-reverse}
use Rattle.vme_model.specs.declared.signals.Version.{Version}
use Rattle.vme_model.specs.Accepted.{IsAccepted}
use Rattle.vme_model.specs.Plan.{Plan}
use Rattle.vme_captures.specs.declared.signals.Entry.{Entry}
use Rattle.vme_captures.specs.declared.signals.Entry.TheVariants as entry
use Rattle.vme_captures.specs.Possible.{IsPossible}
use Rattle.vme_captures.specs.Reading.{capture_of, is_running, read_of}
use Rattle.vme_reading.specs.declared.Status.TheVariants.{Done, SomeRefused}
use Rattle.vme_reading.specs.Streams.{Streams, HasConsumed, IsReadOut, Wrote}
use Rattle.vme_standings.proofs.JoinedCaptures.{head_runs}
use Rattle.vme_samples.specs.declared.samples.SeenChange.{SeenChange}
use Rattle.vme_probe.specs.declared.judging.Known.{Known}
use Rattle.vme_probe.specs.Knowing.{CannotBegin, CannotStart, IsUnbegun, IsStoppedAtEnd, Judged, StopsAt, StopsSample, TakesSample, is_low_by, no_beginning, seen_at}
use Rattle.vme_probe.specs.Naming.{IsRefused, NamesAll}
use Rattle.vme_probe.specs.Probing.{IsImpossibleAtEnd, IsPossible as IsPossibleText, Probes, StopsIn}
use Rattle.vme_captures.specs.Feeding.{probes_of}
use Rattle.vme_probe.proofs.EndTells.{tells_all}
use Rattle.vme_probe.proofs.Judged.{begun}
use Rattle.vme_probe.proofs.Makers.{names, stopped}
use Rattle.vme_probe.proofs.Said.{AllSaid, all_said, later}
use Rattle.vme_probe.proofs.Tied.{Tied, are_probed, head_says, tied_end}

-- what was read first was said in lines without a fault
pub read_first : (p : Plan) (bytes : List ℕ) (said others : List Entry) → (read_of p bytes).entries ≡ reverse said ++ others → AllSaid p said
read_first p bytes said others are =
    let is : reverse (read_of p bytes).entries ≡ reverse others ++ said =
    ap (λ (l : List Entry). reverse l) are ∙ (reverse-append (reverse said) others
    ∙ ap (λ (l : List Entry). reverse others ++ l) (reverse-reverse said)) in
    later p (reverse others) said (subst (λ (l : List Entry). AllSaid p l) is (all_said p bytes))

pub read_all : (p : Plan) (bytes : List ℕ) (said : List Entry) → (read_of p bytes).entries ≡ reverse said → AllSaid p said
read_all p bytes said are = read_first p bytes said [] (are ∙ sym (append-nil (reverse said)))

pub one_more : (e : Entry) (said others : List Entry) → reverse said ++ e ∷ others ≡ reverse (e ∷ said) ++ others
one_more e said others =
    sym (ap (λ (l : List Entry). l ++ others) (reverse-append (e ∷ []) said) ∙ append_assoc (reverse said) (e ∷ []) others)

-- nothing waits
none_wait : (p : Plan) (v : Version) (said : List Entry) (known : Option Known) (waits : List SeenChange) (text : List ℕ) → Judged p v None said known waits text → waits ≡ []
none_wait p v [] known waits text h = h.1
none_wait p v (entry.Pin q ∷ said) known waits text h = none_wait p v said known waits text h
none_wait p v (entry.Running ∷ said) known waits text h = none_wait p v said known waits text h
none_wait p v (entry.Low x ∷ said) known waits text h = none_wait p v said known waits text h
none_wait p v (entry.Moment m ∷ said) known waits text h = none_wait p v said h.0 waits text h.2
none_wait p v (entry.Change c ∷ said) known waits text h = h.5.1

none_more : (s : SeenChange) (waits : List SeenChange) → s ∷ waits ≡ [] → ⊥
none_more s waits h = cc

module _ (p : Plan) (ok : IsAccepted p) where
  -- a head that is refused begins no possible capture
  unbegun : (v : Version) (said : List Entry) → AllSaid p said → (waits : List SeenChange) (lines : List ℕ) → Judged p v None said None waits lines → CannotBegin p v said
      → IsPossible p (capture_of v said) → ⊥
  unbegun v said all waits lines judged cannot may = by_running (is_running said) cannot.cannot
    where
      by_running : (b : Bool) → CannotStart p (probes_of p said) (is_low_by said) cannot.probed b → ⊥
      by_running false h = h
      by_running true (levels, low, are, h) =
          head_runs p ok cannot.probed (capture_of v said) (sym cannot.probed_is.version_is)
          (are_probed p said cannot.probed.segments cannot.probed_is.segments) may.before may.explains.begins levels low
          (head_says p ok v said all (begun p v None said waits lines judged) levels low are) h

  module _ (bytes : List ℕ) where
    whole_named : (text : List ℕ) → IsPossibleText p None (read_of p bytes) text → NamesAll p (read_of p bytes) text
    whole_named text x =
        let has = x.is.has in
        let all = read_all p bytes x.said x.are in
        record {
          version = x.version;
          named = x.named;
          whole = x.whole;
          said = x.said;
          are = x.are;
          lines = has.lines;
          names = names p ok x.version x.said all has.before has.waits has.lines has.judged;
          last = x.is.last;
          tells = tells_all p ok x.version x.said all x.is.after
              (subst (λ k. Tied p ok x.version x.said k) (sym (same_known has.known x.is.after has.sample has.waits (none_wait p x.version x.said has.before has.waits has.lines has.judged) has.takes))
              (tied_end p ok x.version x.said all has.before has.waits has.lines has.judged has.known has.begun))
              x.is.last x.is.ends;
          is = x.is.is ∙ ap (λ l. l ++ x.is.last) (has.is ∙ (ap (λ l. has.lines ++ l) (nothing_more has.known x.is.after has.sample has.waits
              (none_wait p x.version x.said has.before has.waits has.lines has.judged) has.takes) ∙ append-nil has.lines));
        }
      where
        same_known : (old new : Known) (lines : List ℕ) (waits : List SeenChange) → waits ≡ [] → TakesSample p old waits new lines → new ≡ old
        same_known old new lines [] is h = h.0
        same_known old new lines (s ∷ waits) is h = absurd (none_more s waits is)

        nothing_more : (old new : Known) (lines : List ℕ) (waits : List SeenChange) → waits ≡ [] → TakesSample p old waits new lines → lines ≡ []
        nothing_more old new lines [] is h = h.1
        nothing_more old new lines (s ∷ waits) is h = absurd (none_more s waits is)

    stop_refused : (text : List ℕ) → StopsIn p None (read_of p bytes) text → IsRefused p (read_of p bytes) text
    stop_refused text x = by_next x.next x.are x.stops
      where
        by_next : (e : Entry) → (read_of p bytes).entries ≡ reverse x.said ++ e ∷ x.others → StopsAt p x.version None x.said e text → IsRefused p (read_of p bytes) text
        by_next (entry.Moment m) are (waits, lines, judged, cannot, is) =
            let all = read_first p bytes x.said (entry.Moment m ∷ x.others) are in
            record {
              version = x.version;
              named = x.named;
              judged = x.said;
              lines = lines;
              names = names p ok x.version x.said all None waits lines judged;
              refused = x.said;
              others = entry.Moment m ∷ x.others;
              are = are;
              never = unbegun x.version x.said all waits lines judged cannot;
              last = no_beginning;
              is = is;
            }
        by_next (entry.Change c) are (before, waiting, lines, last, judged, stops, is) =
            let all = read_first p bytes x.said (entry.Change c ∷ x.others) are in
            record {
              version = x.version;
              named = x.named;
              judged = x.said;
              lines = lines;
              names = names p ok x.version x.said all (Some before) waiting lines judged;
              refused = entry.Change c ∷ x.said;
              others = x.others;
              are = are ∙ one_more (entry.Change c) x.said x.others;
              never = stopped p ok x.version x.said c (seen_at x.said c).moment all before waiting lines last judged stops;
              last = last;
              is = is;
            }
        by_next (entry.Pin q) are h = absurd h
        by_next entry.Running are h = absurd h
        by_next (entry.Low y) are h = absurd h

    end_refused : (text : List ℕ) → IsImpossibleAtEnd p None (read_of p bytes) text → IsRefused p (read_of p bytes) text
    end_refused text x = by_end x.is
      where
        all : AllSaid p x.said
        all = read_all p bytes x.said x.are

        nothing_stops : (known : Known) (text : List ℕ) (waits : List SeenChange) → waits ≡ [] → StopsSample p known waits text → ⊥
        nothing_stops known text [] is h = h
        nothing_stops known text (s ∷ waits) is h = absurd (none_more s waits is)

        by_end : IsUnbegun p x.version None x.said text ⊎ IsStoppedAtEnd p x.version None x.said text → IsRefused p (read_of p bytes) text
        by_end (inl u) = record {
          version = x.version;
          named = x.named;
          judged = x.said;
          lines = u.lines;
          names = names p ok x.version x.said all None u.waits u.lines u.judged;
          refused = x.said;
          others = [];
          are = x.are ∙ sym (append-nil (reverse x.said));
          never = unbegun x.version x.said all u.waits u.lines u.judged u.cannot;
          last = no_beginning;
          is = u.is;
        }
        by_end (inr s) = absurd (nothing_stops s.known s.others s.waits (none_wait p x.version x.said (Some s.known) s.waits s.lines s.judged) s.stops)

pub possible_named : (p : Plan) (bytes : List ℕ) (s : Streams) → IsAccepted p → Probes p None bytes s (Ok Done) → (text : List ℕ) × NamesAll p (read_of p bytes) text × Wrote s text
possible_named p bytes s ok h = (h.1, whole_named p ok bytes h.1 h.2, h.3)

pub impossible_refused : (p : Plan) (bytes : List ℕ) (s : Streams) → IsAccepted p → Probes p None bytes s (Ok SomeRefused)
    → (read : List ℕ) × (text : List ℕ) × (HasConsumed s read ⊎ (IsReadOut s × (read ≡ bytes))) × IsRefused p (read_of p read) text × Wrote s text
impossible_refused p bytes s ok h = by_place h.3
  where
    by_place : StopsIn p None (read_of p h.0) h.2 ⊎ (IsReadOut s × IsImpossibleAtEnd p None (read_of p bytes) h.2)
        → (read : List ℕ) × (text : List ℕ) × (HasConsumed s read ⊎ (IsReadOut s × (read ≡ bytes))) × IsRefused p (read_of p read) text × Wrote s text
    by_place (inl x) = (h.0, h.2, inl h.1, stop_refused p ok h.0 h.2 x, h.4)
    by_place (inr x) = (bytes, h.2, inr (x.0, refl), end_refused p ok bytes h.2 x.1, h.4)
