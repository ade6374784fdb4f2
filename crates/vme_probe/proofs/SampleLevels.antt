-- What was said of the probed pins is how they stand behind the samples, whatever the order of each,
-- so the last lines tell of all of these buses: `sample_laws`.
use Rattle.std.proofs.Common.{◌≡◌, ◌∙◌, ◌<◌, ◌+◌, ◌++◌, ◌∷◌, [], ℕ, zero, suc, Bool, true, false, List, Option, Some, None, length, refl, sym, ap, subst, arith}
use Rattle.std.specs.Prelude.{◌&&◌, if◌then◌else◌, option_map}
use Rattle.std.specs.List.{slice_get}
use Rattle.std.specs.Option.{option_map_or}
use Rattle.std.proofs.lemmas.List.{get_or_append_left, length-append}
use Rattle.std.proofs.lemmas.Option.{slice_get-get_or}
use Rattle.std.proofs.Math.Seq.{get_or-append_seam}
use Rattle.vme_model.specs.declared.signals.Edge.{Edge}
use Rattle.vme_model.specs.declared.signals.Version.{Version}
use Rattle.vme_model.specs.Accepted.{IsAccepted}
use Rattle.vme_model.specs.Plan.{Plan}
use Rattle.vme_captures.specs.declared.signals.Change.{Change}
use Rattle.vme_captures.specs.declared.signals.Entry.{Entry}
use Rattle.vme_captures.specs.declared.signals.Entry.TheVariants as entry
use Rattle.vme_captures.specs.declared.signals.Pin.{Pin}
use Rattle.vme_captures.specs.declared.signals.Signal.TheVariants as signal
use Rattle.vme_captures.specs.Feeding.{probes_of}
use Rattle.vme_captures.specs.Possible.{Explains, is_among}
use Rattle.vme_captures.specs.Reading.{changes, lows, pins}
use Rattle.vme_captures.specs.Signals.{is_same_signal}
use Rattle.vme_captures.specs.Wires.{is_on, wire_of}
use Rattle.vme_captures.proofs.Same.{signal_same}
use Rattle.vme_standings.specs.declared.standings.Probed.{Probed}
use Rattle.vme_standings.specs.Hidden.{HasMoved}
use Rattle.vme_standings.proofs.Tests.{never}
use Rattle.vme_samples.specs.declared.places.Places.{Places}
use Rattle.vme_samples.specs.declared.samples.SeenChange.{SeenChange}
use Rattle.vme_samples.specs.Orders.{AreInOrder, AreOrdersOf, IsOrderOf, set_of}
use Rattle.vme_samples.specs.Places.{has_place, with}
use Rattle.vme_samples.specs.Samples.{is_of, joins}
use Rattle.vme_samples.proofs.Next.{Closed, Next, closed_next, next_of, said_kept, said_next}
use Rattle.vme_samples.proofs.OneMore.{none_in}
use Rattle.vme_samples.proofs.Said.{said as last_said, said_same, said_up}
use Rattle.vme_samples.proofs.Tells.{says_fall}
use Rattle.vme_probe.specs.declared.judging.Known.{Known}
use Rattle.vme_probe.specs.Knowing.{Ends, seen_at}
use Rattle.vme_probe.specs.SampledNaming.{TellsAllSamples, in_order, samples, with_change}
use Rattle.vme_probe.proofs.EndTells.{TellsCovered, tells_covered}
use Rattle.vme_probe.proofs.NextPins.{ArePinsAsSaid}
use Rattle.vme_probe.proofs.PinLevels.{behind_changes, found_there, said_level, shown_level}
use Rattle.vme_probe.proofs.Said.{AllSaid}
use Rattle.vme_probe.proofs.SamplesTied.{CoversOrders}

some_same : {A : Type 0} (a b : A) → ◌≡◌ {A = Option A} (Some a) (Some b) → a ≡ b
some_same a b h = cc

-- ---- a list with one element more

module _ {A : Type 0} (xs : List A) (x : A) where
  longer : length (xs ++ x ∷ []) ≡ suc (length xs)
  longer = let e : length (xs ++ x ∷ []) ≡ length xs + 1 = length-append xs (x ∷ []) in omega (arith, e)

  before_seam : (j : ℕ) → j < length xs → slice_get (xs ++ x ∷ []) j ≡ slice_get xs j
  before_seam j l =
      let e = longer in
      slice_get-get_or (xs ++ x ∷ []) j x (omega (arith, l, e))
      ∙ ap (λ (y : A). Some y) (get_or_append_left xs (x ∷ []) x j l)
      ∙ sym (slice_get-get_or xs j x l)

  at_seam : slice_get (xs ++ x ∷ []) (length xs) ≡ Some x
  at_seam =
      let e = longer in
      slice_get-get_or (xs ++ x ∷ []) (length xs) x (omega (arith, e))
      ∙ ap (λ (y : A). Some y) (get_or-append_seam xs x [] x)

alike : (mine own : ℕ → Bool) (says tells : ℕ → Bool) (low : Bool) (n : ℕ) → ((j : ℕ) → j < n → mine j ≡ own j) → ((j : ℕ) → j < n → says j ≡ tells j)
    → last_said mine says low (λ j. true) n ≡ last_said own tells low (λ j. true) n
alike mine own says tells low zero a b = refl
alike mine own says tells low (suc n) a b =
    ap (λ x. if x && true then says n else last_said mine says low (λ j. true) n) (a n (omega arith))
    ∙ ap (λ x. if own n && true then x else last_said mine says low (λ j. true) n) (b n (omega arith))
    ∙ ap (λ x. if own n && true then tells n else x) (alike mine own says tells low n (λ j l. a j (omega (arith, l))) (λ j l. b j (omega (arith, l))))

module _ (q : Pin) where
  -- the level of the pin behind the changes of a sample, in the order of the capture
  abbrev behind_sample : List SeenChange → Bool → Bool
  behind_sample sample low = last_said (is_of sample (signal.Pin q)) (says_fall sample) low (λ j. true) (length sample)

  -- behind those of samples, the newest first
  abbrev behind_samples : List (List SeenChange) → Bool → Bool
  behind_samples [] low = low
  behind_samples (sample ∷ earlier) low = behind_sample sample (behind_samples earlier low)

  -- ---- in whatever order

  module _ (sample : List SeenChange) (low : Bool) where
    abbrev mine : ℕ → Bool
    mine = is_of sample (signal.Pin q)

    record Ordered (set : Places) (here : List Change) : Type 0 where
      closed : Closed sample set
      level : behind_changes q here low ≡ last_said mine (says_fall sample) low (has_place set) (length sample)

    -- a change more
    module _ (set : Places) (i : ℕ) (n : Next sample set i) (c : Change) (is : c ≡ n.seen.change) (here : List Change) (o : Ordered set here) where
      mine_is : mine i ≡ is_same_signal c.signal (signal.Pin q)
      mine_is =
          ap (λ (y : Option SeenChange). option_map_or (λ s. is_same_signal s.change.signal (signal.Pin q)) y false) n.at
          ∙ ap (λ (y : Change). is_same_signal y.signal (signal.Pin q)) (sym is)

      fall_is : says_fall sample i ≡ c.fall
      fall_is =
          ap (λ (y : Option SeenChange). option_map_or (λ s. s.change.fall) y false) n.at
          ∙ ap (λ (y : Change). y.fall) (sym is)

      one : mine i ≡ true → (j : ℕ) → i < j → j < length sample → has_place set j ≡ true → mine j ≡ true → (s : SeenChange) × (slice_get sample j ≡ Some s) × (is_of sample s.change.signal i ≡ true)
      one own j l m on also = by_change (slice_get sample j) refl also
        where
          by_change : (y : Option SeenChange) → slice_get sample j ≡ y → option_map_or (λ s. is_same_signal s.change.signal (signal.Pin q)) y false ≡ true
              → (s : SeenChange) × (slice_get sample j ≡ Some s) × (is_of sample s.change.signal i ≡ true)
          by_change None at e = absurd (never false e refl)
          by_change (Some s) at e = (s, at, subst (λ x. is_of sample x i ≡ true) (sym (signal_same s.change.signal (signal.Pin q) e)) own)

      level_more : behind_changes q (c ∷ here) low ≡ last_said mine (says_fall sample) low (has_place (with set i)) (length sample)
      level_more = by_test (is_same_signal c.signal (signal.Pin q)) refl
        where
          by_test : (b : Bool) → is_same_signal c.signal (signal.Pin q) ≡ b
              → (if b then c.fall else behind_changes q here low) ≡ last_said mine (says_fall sample) low (has_place (with set i)) (length sample)
          by_test true same = sym fall_is ∙ sym (said_next sample set i n o.closed mine one (says_fall sample) low (mine_is ∙ same))
          by_test false other = o.level ∙ sym (said_kept sample set i n mine (says_fall sample) low (mine_is ∙ other))

      ordered_more : Ordered (with set i) (c ∷ here)
      ordered_more = record { closed = closed_next sample set i n o.closed; level = level_more }

    ordered : (places : List ℕ) (here : List Change) → AreInOrder sample places here → Ordered (set_of places) here
    ordered [] [] order = record {
      closed = λ j s at on i l of. absurd (never (has_place (set_of []) j) on (none_in (set_of []) refl j));
      level = sym (said_up mine (says_fall sample) low (has_place (set_of [])) 0 (length sample) (omega arith) (λ j a b c. none_in (set_of []) refl j));
    }
    ordered [] (c ∷ here) order = absurd order
    ordered (i ∷ places) [] order = absurd order
    ordered (i ∷ places) (c ∷ here) (before, next, at) =
        let n = next_of sample (set_of places) i next in
        ordered_more (set_of places) i n c
        (some_same c n.seen.change (sym at ∙ ap (λ (y : Option SeenChange). option_map (λ s. s.change) y) n.at))
        here (ordered places here before)

    order_level : (places : List ℕ) (here : List Change) → IsOrderOf sample places here → behind_changes q here low ≡ behind_sample sample low
    order_level places here order =
        (ordered places here order.ordered).level
        ∙ said_same mine (says_fall sample) low (has_place (set_of places)) (λ j. true) (length sample) (λ j l own. order.whole j l)

  appended : (here before : List Change) (low : Bool) → behind_changes q (here ++ before) low ≡ behind_changes q here (behind_changes q before low)
  appended [] before low = refl
  appended (c ∷ here) before low = ap (λ b. if is_same_signal c.signal (signal.Pin q) then c.fall else b) (appended here before low)

  orders_level : (all : List (List SeenChange)) (cs : List Change) (low : Bool) → AreOrdersOf all cs → behind_changes q cs low ≡ behind_samples all low
  orders_level [] cs low none = ap (λ (l : List Change). behind_changes q l low) none
  orders_level (sample ∷ earlier) cs low (places, here, before, order, orders, are) =
      ap (λ (l : List Change). behind_changes q l low) are
      ∙ appended here before low
      ∙ order_level sample (behind_changes q before low) places here order
      ∙ ap (behind_sample sample) (orders_level earlier before low orders)

  -- ---- as they were said

  -- a sample that is longer by one change
  module _ (sample : List SeenChange) (a : SeenChange) (grown : List SeenChange) (is : grown ≡ sample ++ a ∷ []) (low : Bool) where
    abbrev of_pin : Option SeenChange → Bool
    of_pin y = option_map_or (λ s. is_same_signal s.change.signal (signal.Pin q)) y false

    abbrev falls : Option SeenChange → Bool
    falls y = option_map_or (λ s. s.change.fall) y false

    abbrev before : Bool
    before = last_said (is_of grown (signal.Pin q)) (says_fall grown) low (λ j. true) (length sample)

    with_true : (b : Bool) → (b && true) ≡ b
    with_true true = refl
    with_true false = refl

    read : (j : ℕ) → j < length sample → slice_get grown j ≡ slice_get sample j
    read j l = ap (λ (xs : List SeenChange). slice_get xs j) is ∙ before_seam sample a j l

    longer_by_one : behind_sample grown low ≡ (if is_same_signal a.change.signal (signal.Pin q) then a.change.fall else behind_sample sample low)
    longer_by_one =
        ap (λ n. last_said (is_of grown (signal.Pin q)) (says_fall grown) low (λ j. true) n) (ap (λ (xs : List SeenChange). length xs) is ∙ longer sample a)
        ∙ ap (λ (y : Option SeenChange). if of_pin y && true then falls y else before) (ap (λ (xs : List SeenChange). slice_get xs (length sample)) is ∙ at_seam sample a)
        ∙ ap (λ b. if b then a.change.fall else before) (with_true (is_same_signal a.change.signal (signal.Pin q)))
        ∙ ap (λ b. if is_same_signal a.change.signal (signal.Pin q) then a.change.fall else b)
        (alike (is_of grown (signal.Pin q)) (is_of sample (signal.Pin q)) (says_fall grown) (says_fall sample) low (length sample)
        (λ j l. ap of_pin (read j l)) (λ j l. ap falls (read j l)))

  one_more : (sample : List SeenChange) (a : SeenChange) (low : Bool)
      → behind_sample (sample ++ a ∷ []) low ≡ (if is_same_signal a.change.signal (signal.Pin q) then a.change.fall else behind_sample sample low)
  one_more sample a low = longer_by_one sample a (sample ++ a ∷ []) refl low

  with_more : (skew : ℕ) (all : List (List SeenChange)) (a : SeenChange) (low : Bool)
      → behind_samples (with_change skew all a) low ≡ (if is_same_signal a.change.signal (signal.Pin q) then a.change.fall else behind_samples all low)
  with_more skew [] a low = one_more [] a low
  with_more skew (sample ∷ earlier) a low = by_join (joins skew sample a.moment)
    where
      by_join : (b : Bool) → behind_samples (if b then (sample ++ a ∷ []) ∷ earlier else (a ∷ []) ∷ sample ∷ earlier) low
          ≡ (if is_same_signal a.change.signal (signal.Pin q) then a.change.fall else behind_samples (sample ∷ earlier) low)
      by_join true = one_more sample a (behind_samples earlier low)
      by_join false = one_more [] a (behind_samples (sample ∷ earlier) low)

  samples_level : (skew : ℕ) (said : List Entry) (low : Bool) → behind_samples (samples skew said) low ≡ behind_changes q (changes said) low
  samples_level skew [] low = refl
  samples_level skew (entry.Pin x ∷ said) low = samples_level skew said low
  samples_level skew (entry.Running ∷ said) low = samples_level skew said low
  samples_level skew (entry.Low x ∷ said) low = samples_level skew said low
  samples_level skew (entry.Moment m ∷ said) low = samples_level skew said low
  samples_level skew (entry.Change c ∷ said) low =
      with_more skew (samples skew said) (seen_at said c) low
      ∙ ap (λ b. if is_same_signal c.signal (signal.Pin q) then c.fall else b) (samples_level skew said low)

-- ---- so the level that was said last is that of the bus

module _ (p : Plan) (ok : IsAccepted p) (version : Version) (skew : ℕ) (said : List Entry) (all : AllSaid p said) where
  pins_as_said : (cs : List Change) (g h : List Edge) → AreOrdersOf (samples skew said) cs → Explains p (in_order version said cs) g h → ArePinsAsSaid p said (h ++ g)
  pins_as_said cs g h orders x q found =
      said_level p q said all
      ∙ sym (samples_level q skew said (is_among (lows said) (signal.Pin q)))
      ∙ sym (orders_level q (samples skew said) cs (is_among (lows said) (signal.Pin q)) orders)
      ∙ ap (λ b. behind_changes q cs b) (sym (x.begins.levels (signal.Pin q) (found_there (is_on p (wire_of p q)) (pins said) q found)))
      ∙ shown_level p ok (pins said) q found g h cs x.shows

  -- what is known behind all samples covers each bus that shows them
  pub tells_samples : (probed : Probed) → version ≡ probed.version → (k : Known) → k.probed ≡ probed → CoversOrders p ok version said probed (samples skew said) k.standings
      → (text : List ℕ) → Ends p k (probes_of p said) text → TellsAllSamples p version said (samples skew said) text
  tells_samples probed version_is k probed_is covers text ends = record {
    told = covered.told;
    is = covered.is;
    tells = λ cs g h orders x.
        covered.tells (h ++ g) x.legal
        (covers cs g h orders x ends.hidden (subst (λ y. HasMoved p y k.standings ends.hidden) probed_is ends.moved))
        (pins_as_said cs g h orders x);
  }
    where
      covered : TellsCovered p version said ends.hidden text
      covered = subst (λ y. TellsCovered p y said ends.hidden text) (sym version_is) (tells_covered p ok probed said k probed_is text ends)
