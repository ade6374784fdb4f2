-- An order of a sample and one of the next make an order of both joined.
use Rattle.std.proofs.Common.{◌≡◌, ◌≢◌, ◌⊎◌, ◌∙◌, ◌<◌, ◌≤◌, ◌+◌, ◌-◌, ◌^◌, ℕ, zero, suc, Bool, true, false, List, [], ◌∷◌, ◌++◌, length, map, inl, inr, refl, sym, ap, ap₂, arith, append_assoc}
use Rattle.std.specs.Prelude.{◌&&◌, ◌==◌, not, nat_le, Option, Some, None}
use Rattle.std.specs.Int.{bit_at}
use Rattle.std.specs.List.{slice_get}
use Rattle.std.specs.Option.{option_map, option_map_or}
use Rattle.std.proofs.lemmas.Bool.{cases_lt}
use Rattle.std.proofs.lemmas.Bool.Decides.{nat_tests}
use Rattle.std.proofs.lemmas.Nat.Bits.{bit_at_above}
use Rattle.std.proofs.lemmas.Option.{slice_get_within}
use Rattle.std.proofs.Math.Pow.{pow_pos}
use Rattle.vme_captures.specs.declared.signals.Change.{Change}
use Rattle.vme_captures.specs.declared.signals.Signal.{Signal}
use Rattle.vme_captures.specs.Signals.{is_same_signal}
use Rattle.vme_samples.specs.declared.places.Places.{Places}
use Rattle.vme_samples.specs.declared.samples.SeenChange.{SeenChange}
use Rattle.vme_samples.specs.Orders.{AreInOrder, AreOrdersOf, IsOrderOf, set_of}
use Rattle.vme_samples.specs.Places.{has_place, with}
use Rattle.vme_samples.specs.Samples.{comes_next, earlier_in, is_of, joins, last_of}
use Rattle.vme_samples.proofs.Next.{next_of}
use Rattle.vme_samples.proofs.OneMore.{none_in, with_here, with_near, with_other}

module _ {A : Type 0} where
  pub get_left : (xs ys : List A) (i : ℕ) → i < length xs → slice_get (xs ++ ys) i ≡ slice_get xs i
  get_left [] ys i l = absurd (omega (arith, l))
  get_left (x ∷ xs) ys zero l = refl
  get_left (x ∷ xs) ys (suc i) l = get_left xs ys i (omega (arith, l))

  pub get_right : (xs ys : List A) (i k : ℕ) → i ≡ length xs + k → slice_get (xs ++ ys) i ≡ slice_get ys k
  get_right [] ys i k e = let same : i ≡ k = omega (arith, e) in ap (slice_get ys) same
  get_right (x ∷ xs) ys zero k e = absurd (omega (arith, e))
  get_right (x ∷ xs) ys (suc i) k e = get_right xs ys i k (omega (arith, e))

  pub length_both : (xs ys : List A) → length (xs ++ ys) ≡ length xs + length ys
  length_both [] ys = omega arith
  length_both (x ∷ xs) ys = let e = length_both xs ys in omega (arith, e)

-- the places of an order are those of changes of the sample
places_near : (sample : List SeenChange) (places : List ℕ) (changes : List Change) → AreInOrder sample places changes → (set_of places).bits < 2 ^ length sample
places_near sample [] [] order = pow_pos (length sample)
places_near sample [] (c ∷ changes) order = absurd order
places_near sample (i ∷ places) [] order = absurd order
places_near sample (i ∷ places) (c ∷ changes) order =
    let n = next_of sample (set_of places) i order.1 in
    with_near (set_of places) i (length sample) n.off (places_near sample places changes order.0) (slice_get_within sample i n.seen n.at)

-- a change comes next by what it has to
next_by : (sample : List SeenChange) (set : Places) (i : ℕ) (s : SeenChange) → slice_get sample i ≡ Some s → has_place set i ≡ false → earlier_in sample s.change.signal set i ≡ true
    → comes_next sample set i ≡ true
next_by sample set i s at off before =
    ap (λ b. not b && option_map_or (λ (x : SeenChange). earlier_in sample x.change.signal set i) (slice_get sample i) false) off
    ∙ ap (λ o. option_map_or (λ (x : SeenChange). earlier_in sample x.change.signal set i) o false) at ∙ before

module _ (earlier later : List SeenChange) where
  abbrev joined : List SeenChange
  joined = earlier ++ later

  abbrev shifted : List ℕ → List ℕ
  shifted places = map (λ i. length earlier + i) places

  -- ---- the earlier sample in the joined one

  of_earlier : (x : Signal) (i : ℕ) → i < length earlier → is_of joined x i ≡ is_of earlier x i
  of_earlier x i l = ap (λ o. option_map_or (λ (s : SeenChange). is_same_signal s.change.signal x) o false) (get_left earlier later i l)

  in_earlier : (x : Signal) (set : Places) (n : ℕ) → n ≤ length earlier → earlier_in joined x set n ≡ earlier_in earlier x set n
  in_earlier x set zero l = refl
  in_earlier x set (suc n) l = ap₂ (λ a b. a && not (b && not (has_place set n))) (in_earlier x set n (omega (arith, l))) (of_earlier x n (omega (arith, l)))

  ordered_earlier : (places : List ℕ) (changes : List Change) → AreInOrder earlier places changes → AreInOrder joined places changes
  ordered_earlier [] [] order = tt
  ordered_earlier [] (c ∷ changes) order = absurd order
  ordered_earlier (i ∷ places) [] order = absurd order
  ordered_earlier (i ∷ places) (c ∷ changes) order =
      let n = next_of earlier (set_of places) i order.1 in
      let l = slice_get_within earlier i n.seen n.at in
      let at : slice_get joined i ≡ slice_get earlier i = get_left earlier later i l in (
        ordered_earlier places changes order.0,
        next_by joined (set_of places) i n.seen (at ∙ n.at) n.off (in_earlier n.seen.change.signal (set_of places) i (omega (arith, l)) ∙ n.earlier),
        ap (option_map (λ (s : SeenChange). s.change)) at ∙ order.2,
      )

  -- ---- the later sample in the joined one

  of_later : (x : Signal) (m n : ℕ) → m ≡ length earlier + n → is_of joined x m ≡ is_of later x n
  of_later x m n e = ap (λ o. option_map_or (λ (s : SeenChange). is_same_signal s.change.signal x) o false) (get_right earlier later m n e)

  -- the set has all places of the earlier sample, and of the later one those of the other set
  record Shifted (set own : Places) : Type 0 where
    all : (j : ℕ) → j < length earlier → has_place set j ≡ true
    same : (k : ℕ) → has_place set (length earlier + k) ≡ has_place own k

  -- all of the earlier sample is in the set
  all_earlier : (x : Signal) (set : Places) → ((j : ℕ) → j < length earlier → has_place set j ≡ true) → (n : ℕ) → n ≤ length earlier → earlier_in joined x set n ≡ true
  all_earlier x set all zero l = refl
  all_earlier x set all (suc n) l =
      ap₂ (λ a b. a && not (is_of joined x n && not b)) (all_earlier x set all n (omega (arith, l))) (all n (omega (arith, l))) ∙ kept (is_of joined x n)
    where
      kept : (b : Bool) → not (b && false) ≡ true
      kept true = refl
      kept false = refl

  in_later : (x : Signal) (set own : Places) → Shifted set own → (n m : ℕ) → m ≡ length earlier + n → earlier_in joined x set m ≡ earlier_in later x own n
  in_later x set own s zero m e = all_earlier x set s.all m (omega (arith, e))
  in_later x set own s (suc n) zero e = absurd (omega (arith, e))
  in_later x set own s (suc n) (suc m) e =
      let f : m ≡ length earlier + n = omega (arith, e) in
      ap₂ (λ a b. a && not b) (in_later x set own s n m f) (ap₂ (λ a b. a && not b) (of_later x m n f) (ap (has_place set) f ∙ s.same n))

  module _ (first : List ℕ) (before : List Change) (order : IsOrderOf earlier first before) where
    first_shifted : Shifted (set_of first) (set_of [])
    first_shifted = record {
      all = order.whole;
      same = λ k. off (bit_at (set_of first).bits (length earlier + k)) (bit_at_above (set_of first).bits (length earlier) (length earlier + k) (places_near earlier first before order.ordered) (omega arith))
          ∙ sym (none_in (set_of []) refl k);
    }
      where
        off : (b : ℕ) → b ≡ 0 → (b == 1) ≡ false
        off b e = ap (λ n. n == 1) e

    one_shifted : (set own : Places) (i : ℕ) → Shifted set own → has_place own i ≡ false → Shifted (with set (length earlier + i)) (with own i)
    one_shifted set own i s off = record {
      all = λ j l. with_other set (length earlier + i) j (s.same i ∙ off) (λ e. absurd (omega (arith, l, e))) ∙ s.all j l;
      same = λ k. by_place k (cases_lt k i) (cases_lt i k);
    }
      where
        other : (k : ℕ) → k ≢ i → has_place (with set (length earlier + i)) (length earlier + k) ≡ has_place (with own i) k
        other k apart =
            with_other set (length earlier + i) (length earlier + k) (s.same i ∙ off) (λ e. apart (omega (arith, e))) ∙ s.same k ∙ sym (with_other own i k off apart)

        by_place : (k : ℕ) → (k < i) ⊎ (i ≤ k) → (i < k) ⊎ (k ≤ i) → has_place (with set (length earlier + i)) (length earlier + k) ≡ has_place (with own i) k
        by_place k (inl l) m = other k (λ e. absurd (omega (arith, l, e)))
        by_place k (inr l) (inl m) = other k (λ e. absurd (omega (arith, m, e)))
        by_place k (inr l) (inr m) =
            let e : k ≡ i = omega (arith, l, m) in
            ap (λ j. has_place (with set (length earlier + i)) (length earlier + j)) e ∙ with_here set (length earlier + i) (s.same i ∙ off)
            ∙ sym (ap (has_place (with own i)) e ∙ with_here own i off)

    record Ordered (places : List ℕ) (changes : List Change) : Type 0 where
      ordered : AreInOrder joined (shifted places ++ first) (changes ++ before)
      set : Shifted (set_of (shifted places ++ first)) (set_of places)

    ordered_later : (places : List ℕ) (changes : List Change) → AreInOrder later places changes → Ordered places changes
    ordered_later [] [] now = record { ordered = ordered_earlier first before order.ordered; set = first_shifted }
    ordered_later [] (c ∷ changes) now = absurd now
    ordered_later (i ∷ places) [] now = absurd now
    ordered_later (i ∷ places) (c ∷ changes) now =
        let rest = ordered_later places changes now.0 in
        let n = next_of later (set_of places) i now.1 in
        let at : slice_get joined (length earlier + i) ≡ slice_get later i = get_right earlier later (length earlier + i) i refl in
        let set = set_of (shifted places ++ first) in
        record {
          ordered = (
            rest.ordered,
            next_by joined set (length earlier + i) n.seen (at ∙ n.at) (rest.set.same i ∙ n.off)
                (in_later n.seen.change.signal set (set_of places) rest.set i (length earlier + i) refl ∙ n.earlier),
            ap (option_map (λ (s : SeenChange). s.change)) at ∙ now.2,
          );
          set = one_shifted set (set_of places) i rest.set n.off;
        }

    pub joined_order : (second : List ℕ) (here : List Change) → IsOrderOf later second here → IsOrderOf joined (shifted second ++ first) (here ++ before)
    joined_order second here now =
        let both = ordered_later second here now.ordered in
        record { ordered = both.ordered; whole = λ i l. by_place both.set i (cases_lt i (length earlier)) l }
      where
        by_place : Shifted (set_of (shifted second ++ first)) (set_of second) → (i : ℕ) → (i < length earlier) ⊎ (length earlier ≤ i) → i < length joined → has_place (set_of (shifted second ++ first)) i ≡ true
        by_place s i (inl m) l = s.all i m
        by_place s i (inr m) l =
            let many : length joined ≡ length earlier + length later = length_both earlier later in
            let e : i ≡ length earlier + (i - length earlier) = omega (arith, m) in
            ap (has_place (set_of (shifted second ++ first))) e ∙ s.same (i - length earlier) ∙ now.whole (i - length earlier) (omega (arith, many, l, m))

  pub joined_orders : (samples newer : List (List SeenChange)) (changes : List Change) → AreOrdersOf (newer ++ later ∷ earlier ∷ samples) changes → AreOrdersOf (newer ++ joined ∷ samples) changes
  joined_orders samples [] changes (second, here, others, now, (first, before, oldest, order, orders, are), all) = (
    shifted second ++ first,
    here ++ before,
    oldest,
    joined_order first before order second here now,
    orders,
    all ∙ ap (λ (l : List Change). here ++ l) are ∙ sym (append_assoc here before oldest),
  )
  joined_orders samples (sample ∷ newer) changes (places, here, others, now, orders, all) = (places, here, others, now, joined_orders samples newer others orders, all)

-- ---- which changes belong to the joined sample

pub last_later : (earlier later : List SeenChange) → 0 < length later → last_of (earlier ++ later) ≡ last_of later
last_later earlier later some =
    let many : length (earlier ++ later) ≡ length earlier + length later = length_both earlier later in
    get_right earlier later (length (earlier ++ later) - 1) (length later - 1) (omega (arith, many, some))

pub still_joins : (skew larger : ℕ) (earlier later : List SeenChange) (m : ℕ) → skew ≤ larger → 0 < length later → joins skew later m ≡ true → joins larger (earlier ++ later) m ≡ true
still_joins skew larger earlier later m more some now =
    ap (λ o. option_map_or (λ (s : SeenChange). nat_le (m - s.moment) larger) o true) (last_later earlier later some) ∙ by_last (last_of later) now
  where
    by_last : (o : Option SeenChange) → option_map_or (λ s. nat_le (m - s.moment) skew) o true ≡ true → option_map_or (λ (s : SeenChange). nat_le (m - s.moment) larger) o true ≡ true
    by_last None e = refl
    by_last (Some s) e = longer (m - s.moment) e
      where
        longer : (n : ℕ) → nat_le n skew ≡ true → nat_le n larger ≡ true
        longer n l = grind (arith, nat_tests, more, l)
