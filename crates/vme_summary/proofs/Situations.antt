-- The situations that a trace came to, and what an edge adds to them.
use Rattle.std.proofs.Common.{◌≡◌, ◌≢◌, ◌∙◌, refl, sym, ap, ℕ, ◌+◌, ◌<◌, ◌^◌, Bool, true, false, List, [], ◌∷◌, ◌++◌, length, get_or, take, drop, replicate, Option, Some, None, append_assoc, arith}
use Rattle.std.specs.Prelude.{◌==◌, ◌&&◌, filter, if◌then◌else◌}
use Rattle.std.specs.List.{list_any}
use Rattle.std.specs.Option.{option_or}
use Rattle.std.proofs.lemmas.Bool.{ne_eqb, or_parts}
use Rattle.std.proofs.lemmas.Bool.Decides.{nat_tests}
use Rattle.std.proofs.lemmas.List.{get_or-replicate, length-replicate, length-set, get_or-set_same, get_or-set_other, get_or-take, get_or-drop, length-take-le, length-drop, take-append-drop, take_more}
use Rattle.std.proofs.lemmas.List.Folds.{list_any_none}
use Rattle.std.proofs.lemmas.List.Elements.{filter-append}
use Rattle.std.proofs.lemmas.List.Sums.{fold-append}
use Rattle.vme_goals.specs.declared.events.Event.{Event}
use Rattle.vme_goals.specs.declared.events.Event.TheVariants as event
use Rattle.vme_goals.specs.Events.{all_events, event_index}
use Rattle.vme_goals.proofs.Placed.{index_at, index_below, stands}
use Rattle.vme_summary.specs.declared.met.Met.{Met}
use Rattle.vme_summary.specs.Tally.{Answered, Answers, is_accepted, times_met, first_met}
use Rattle.vme_summary.specs.Tallied.{more, met_once, met_after, IsMetOf}
use Rattle.vme_summary.proofs.Counted.{more_one, count_no}

pub nothing_met : (m : Met) → m.times ≡ replicate (length all_events) 0 → m.first ≡ replicate (length all_events) None → IsMetOf [] m
nothing_met m times first = record {
  places = (ap length times ∙ length-replicate {A = ℕ} (length all_events) 0, ap length first ∙ length-replicate {A = Option ℕ} (length all_events) None);
  times = λ v. ap (λ xs. get_or xs (event_index v) 0) times ∙ get_or-replicate {A = ℕ} (length all_events) (event_index v) 0 0 (index_below v);
  first = λ v. ap (λ xs. get_or xs (event_index v) None) first ∙ get_or-replicate {A = Option ℕ} (length all_events) (event_index v) None None (index_below v);
}

-- each stands once among all
record StandsOnce (v : Event) : Type 0 where
  pub is : all_events ≡ take (event_index v) all_events ++ v ∷ drop (event_index v + 1) all_events
  pub before : list_any (λ u. event_index u == event_index v) (take (event_index v) all_events) ≡ false
  pub past : list_any (λ u. event_index u == event_index v) (drop (event_index v + 1) all_events) ≡ false

stands_once : (v : Event) → StandsOnce v
stands_once v = record {
  is =
      sym (take-append-drop (event_index v + 1) all_events)
      ∙ ap (λ l. l ++ drop (event_index v + 1) all_events) (take_more all_events (event_index v) v within ∙ ap (λ u. take (event_index v) all_events ++ u ∷ []) (stands v v))
      ∙ append_assoc (take (event_index v) all_events) (v ∷ []) (drop (event_index v + 1) all_events);
  before = list_any_none (λ u. event_index u == event_index v) (take (event_index v) all_events) (λ k d below.
      let least = rw (length-take-le (event_index v) all_events (omega (arith, within))) at below in
      rw (get_or-take (event_index v) all_events k d least) (other k d (omega (arith, least, within)) (λ same. omega (arith, least, same))));
  past = list_any_none (λ u. event_index u == event_index v) (drop (event_index v + 1) all_events) (λ k d below.
      let left = rw (length-drop (event_index v + 1) all_events) at below in
      rw (get_or-drop (event_index v + 1) all_events k d) (other (event_index v + 1 + k) d (omega (arith, left)) (λ same. omega (arith, same))));
}
  where
    within : event_index v < length all_events
    within = index_below v

    other : (k : ℕ) (d : Event) → k < length all_events → k ≢ event_index v → (event_index (get_or all_events k d) == event_index v) ≡ false
    other k d below apart = rw (index_at k d below) (ne_eqb k (event_index v) apart)

-- the numbers of one, where others come
other_times : (n : ℕ) (m : Met) (u v : Event) → (event_index u == event_index v) ≡ false → get_or (met_once n m u).times (event_index v) 0 ≡ get_or m.times (event_index v) 0
other_times n m u v apart = get_or-set_other m.times (event_index u) (event_index v) (more (get_or m.times (event_index u) 0) 1) 0 (λ same. grind (arith, nat_tests, apart, same))

other_first : (n : ℕ) (m : Met) (u v : Event) → (event_index u == event_index v) ≡ false → get_or (met_once n m u).first (event_index v) None ≡ get_or m.first (event_index v) None
other_first n m u v apart = get_or-set_other m.first (event_index u) (event_index v) (option_or (get_or m.first (event_index u) None) (Some n)) None (λ same. grind (arith, nat_tests, apart, same))

-- what some situations leave of another one's numbers
record Leaves (v : Event) (m k : Met) : Type 0 where
  pub times : get_or k.times (event_index v) 0 ≡ get_or m.times (event_index v) 0
  pub first : get_or k.first (event_index v) None ≡ get_or m.first (event_index v) None
  pub places : (length k.times ≡ length m.times) × (length k.first ≡ length m.first)

once_places : (n : ℕ) (m : Met) (u : Event) → (length (met_once n m u).times ≡ length m.times) × (length (met_once n m u).first ≡ length m.first)
once_places n m u = (length-set m.times (event_index u) (more (get_or m.times (event_index u) 0) 1), length-set m.first (event_index u) (option_or (get_or m.first (event_index u) None) (Some n)))

others_come : (n : ℕ) (test : Event → Bool) (v : Event) (us : List Event) (m : Met) → list_any (λ u. event_index u == event_index v) us ≡ false → Leaves v m (met_after n m (filter test us))
others_come n test v [] m none = record { times = refl; first = refl; places = (refl, refl) }
others_come n test v (u ∷ us) m none =
    let parts = or_parts (event_index u == event_index v) (list_any (λ u. event_index u == event_index v) us) none in
    at (test u) parts.0 (others_come n test v us m parts.1) (others_come n test v us (met_once n m u) parts.1)
  where
    at : (b : Bool) → (event_index u == event_index v) ≡ false → Leaves v m (met_after n m (filter test us)) → Leaves v (met_once n m u) (met_after n (met_once n m u) (filter test us))
        → Leaves v m (met_after n m (if b then u ∷ filter test us else filter test us))
    at true apart past it = let places = once_places n m u in record {
      times = it.times ∙ other_times n m u v apart;
      first = it.first ∙ other_first n m u v apart;
      places = (it.places.0 ∙ places.0, it.places.1 ∙ places.1);
    }
    at false apart past it = past

-- what all that come leave of the numbers of one
record Comes (n : ℕ) (b : Bool) (v : Event) (m k : Met) : Type 0 where
  pub times : get_or k.times (event_index v) 0 ≡ (if b then more (get_or m.times (event_index v) 0) 1 else get_or m.times (event_index v) 0)
  pub first : get_or k.first (event_index v) None ≡ (if b then option_or (get_or m.first (event_index v) None) (Some n) else get_or m.first (event_index v) None)
  pub places : (length k.times ≡ length all_events) × (length k.first ≡ length all_events)

one_comes : (n : ℕ) (v : Event) (m k l : Met) (b : Bool) → (length m.times ≡ length all_events) × (length m.first ≡ length all_events) → Leaves v m k → Leaves v (if b then met_once n k v else k) l
    → Comes n b v m l
one_comes n v m k l true places before past = let next = once_places n k v in record {
  times = past.times ∙ get_or-set_same k.times (event_index v) (more (get_or k.times (event_index v) 0) 1) 0 (rw (before.places.0, places.0) (index_below v)) ∙ ap (λ x. more x 1) before.times;
  first = past.first ∙ get_or-set_same k.first (event_index v) (option_or (get_or k.first (event_index v) None) (Some n)) None (rw (before.places.1, places.1) (index_below v))
      ∙ ap (λ x. option_or x (Some n)) before.first;
  places = (past.places.0 ∙ next.0 ∙ before.places.0 ∙ places.0, past.places.1 ∙ next.1 ∙ before.places.1 ∙ places.1);
}
one_comes n v m k l false places before past = record {
  times = past.times ∙ before.times;
  first = past.first ∙ before.first;
  places = (past.places.0 ∙ before.places.0 ∙ places.0, past.places.1 ∙ before.places.1 ∙ places.1);
}

parted : (n : ℕ) (test : Event → Bool) (v : Event) (us ws : List Event) (m : Met)
    → met_after n m (filter test (us ++ v ∷ ws)) ≡ met_after n (if test v then met_once n (met_after n m (filter test us)) v else met_after n m (filter test us)) (filter test ws)
parted n test v us ws m =
    ap (met_after n m) (filter-append test us (v ∷ ws)) ∙ fold-append (met_once n) m (filter test us) (filter test (v ∷ ws)) ∙ at (test v)
  where
    at : (b : Bool) → met_after n (met_after n m (filter test us)) (if b then v ∷ filter test ws else filter test ws)
        ≡ met_after n (if b then met_once n (met_after n m (filter test us)) v else met_after n m (filter test us)) (filter test ws)
    at true = refl
    at false = refl

all_come : (n : ℕ) (test : Event → Bool) (v : Event) (m : Met) → (length m.times ≡ length all_events) × (length m.first ≡ length all_events)
    → Comes n (test v) v m (met_after n m (filter test all_events))
all_come n test v m places =
    let once = stands_once v in
    let us = take (event_index v) all_events in
    let ws = drop (event_index v + 1) all_events in
    let k = met_after n m (filter test us) in
    rw (once.is, parted n test v us ws m)
    (one_comes n v m k (met_after n (if test v then met_once n k v else k) (filter test ws)) (test v) places (others_come n test v us m once.before)
    (others_come n test v ws (if test v then met_once n k v else k) once.past))

or_none : (o : Option ℕ) → option_or o None ≡ o
or_none None = refl
or_none (Some m) = refl

-- after an accepted edge
pub events_came : (a : Answered) (t : Answers) (m : Met) → length t + 1 < 2 ^ 64 → is_accepted a ≡ true → IsMetOf t m → IsMetOf (a ∷ t) (met_after (length t + 1) m (filter a.comes all_events))
events_came a t m few passes is = record {
  places = (all_come (length t + 1) a.comes event.GrantPassed m is.places).places;
  times = λ v. times_at v (a.comes v) refl (all_come (length t + 1) a.comes v m is.places).times;
  first = λ v. (all_come (length t + 1) a.comes v m is.places).first ∙ first_at v (a.comes v) refl;
}
  where
    k : Met
    k = met_after (length t + 1) m (filter a.comes all_events)

    times_at : (v : Event) (b : Bool) → a.comes v ≡ b → get_or k.times (event_index v) 0 ≡ (if b then more (get_or m.times (event_index v) 0) 1 else get_or m.times (event_index v) 0)
        → get_or k.times (event_index v) 0 ≡ times_met v (a ∷ t)
    times_at v true comes it = it ∙ more_one (λ x. is_accepted x && x.comes v) a t (get_or m.times (event_index v) 0) few (is.times v) (ap (λ (o : Bool). o && a.comes v) passes ∙ comes)
    times_at v false comes it = it ∙ is.times v ∙ sym (count_no (λ x. is_accepted x && x.comes v) a t (ap (λ (o : Bool). o && a.comes v) passes ∙ comes))

    first_at : (v : Event) (b : Bool) → a.comes v ≡ b → (if b then option_or (get_or m.first (event_index v) None) (Some (length t + 1)) else get_or m.first (event_index v) None) ≡ first_met v (a ∷ t)
    first_at v true comes =
        let count : length t + 1 ≡ length (a ∷ t) = omega arith in
        ap (λ o. option_or o (Some (length t + 1))) (is.first v) ∙ ap (λ n. option_or (first_met v t) (Some n)) count
        ∙ ap (λ (o : Bool). option_or (first_met v t) (if o then Some (length (a ∷ t)) else None)) (sym (ap (λ (o : Bool). o && a.comes v) passes ∙ comes))
    first_at v false comes =
        is.first v ∙ sym (or_none (first_met v t))
        ∙ ap (λ (o : Bool). option_or (first_met v t) (if o then Some (length (a ∷ t)) else None)) (sym (ap (λ (o : Bool). o && a.comes v) passes ∙ comes))

-- after one that is refused
pub nothing_came : (a : Answered) (t : Answers) (m : Met) → is_accepted a ≡ false → IsMetOf t m → IsMetOf (a ∷ t) m
nothing_came a t m fails is = record {
  places = is.places;
  times = λ v. is.times v ∙ sym (count_no (λ x. is_accepted x && x.comes v) a t (ap (λ (o : Bool). o && a.comes v) fails));
  first = λ v. is.first v ∙ sym (or_none (first_met v t)) ∙ ap (λ (o : Bool). option_or (first_met v t) (if o && a.comes v then Some (length (a ∷ t)) else None)) (sym fails);
}
