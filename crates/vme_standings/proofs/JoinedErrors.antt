-- What is known of the whole bus covers it behind a fall of BERR*, which the controller may have
-- made.
use Rattle.std.proofs.Common.{◌≡◌, ◌∙◌, refl, sym, ap, subst, ℕ, suc, Bool, true, false, List, [], ◌∷◌, ◌<◌, ◌≤◌, arith, length, eqb}
use Rattle.std.specs.Prelude.{◌==◌, ◌&&◌, ◌||◌, filter, if◌then◌else◌, nat_lt, not, Option, Some, None, is_none, is_some}
use Rattle.std.specs.List.{list_any, All, AllByRecursion, IsDistinct}
use Rattle.std.specs.Option.{option_map_or}
use Rattle.std.proofs.lemmas.Bool.Decides.{nat_tests}
use Rattle.std.proofs.lemmas.List.Elements.{All-head, All-tail}
use Rattle.std.proofs.lemmas.Map.Steps.{length-le_from_distinct_below}
use Rattle.vme_model.specs.declared.boards.Row.{Row}
use Rattle.vme_model.specs.declared.signals.Version.{Version}
use Rattle.vme_model.specs.declared.signals.Cycle.{Cycle}
use Rattle.vme_model.specs.declared.signals.Cycle.TheVariants as cycle
use Rattle.vme_model.specs.declared.signals.Driver.TheVariants.{Controller, Slot}
use Rattle.vme_model.specs.declared.signals.Wire.TheVariants as wire
use Rattle.vme_model.specs.declared.signals.Edge.{Edge}
use Rattle.vme_model.specs.Signals.{is_in_range, is_slot}
use Rattle.vme_model.specs.Plan.{Plan, board}
use Rattle.vme_model.specs.Accepted.{IsAccepted}
use Rattle.vme_model.specs.History.{drive, line, shown}
use Rattle.vme_model.specs.Settling.{is_unanswerable}
use Rattle.vme_model.specs.Verdict.{IsLegal}
use Rattle.vme_model.proofs.AllowedEdges.{Passed}
use Rattle.vme_model.proofs.Below.{last_of}
use Rattle.vme_model.proofs.Bools.{and_left, and_right, not_true, same_number}
use Rattle.vme_model.proofs.Cycles.{interrupts}
use Rattle.vme_model.proofs.Ranges.{IsRowInRange, in_range, named_once, slots_of, times}
use Rattle.vme_bus.specs.Sets.{has}
use Rattle.vme_captures.specs.declared.signals.Change.{Change}
use Rattle.vme_captures.specs.declared.signals.Line.TheVariants as on_line
use Rattle.vme_captures.specs.declared.signals.Pin.{Pin}
use Rattle.vme_captures.specs.declared.signals.Signal.TheVariants as signal
use Rattle.vme_captures.specs.declared.signals.Value.{Value}
use Rattle.vme_captures.specs.Changes.{seen}
use Rattle.vme_standings.specs.declared.fronts.Fronts.{Fronts}
use Rattle.vme_standings.specs.declared.standings.Probed.{Probed}
use Rattle.vme_standings.specs.declared.standings.Shown.{Shown}
use Rattle.vme_standings.specs.declared.standings.Shown.TheVariants as known
use Rattle.vme_standings.specs.declared.standings.Standings.{Standings}
use Rattle.vme_standings.specs.Behind.{FrontsTimedOut}
use Rattle.vme_standings.specs.Covers.{Covers, says}
use Rattle.vme_standings.specs.Driving.{can_time_out, is_left_low, last_place, nobody_answers}
use Rattle.vme_standings.specs.FrontCovers.{CoversFronts, last_place as end_of_chain}
use Rattle.vme_standings.specs.Fronts.{place_of}
use Rattle.vme_standings.proofs.FrontSeen.{error_at_end, error_keeps}
use Rattle.vme_standings.proofs.JoinedCycle.{data_within, driven_by, goes}
use Rattle.vme_standings.proofs.JoinedSeen.{Step, by_controller, error_now, error_rest, kept_fronts, passed_by}
use Rattle.vme_standings.proofs.JoinedShows.{Shows, shows_at}
use Rattle.vme_standings.proofs.WhoDrives.{line_shows}

-- the slots of the rows that pass are apart from a number
apart : (a : ℕ) (P : Row → Type 0) (rows : List Row) → All P rows → ((r : Row) → P r → eqb a r.slot ≡ false) → AllByRecursion (λ y. eqb a y ≡ false) (slots_of rows)
apart a P [] all f = tt
apart a P (r ∷ rows) all f = (f r (All-head P r rows all), apart a P rows (All-tail P r rows all) f)

-- a number that is not in a list is apart from each of its numbers
not_there : (a : ℕ) (ss : List ℕ) → times ss a ≤ 0 → AllByRecursion (λ y. eqb a y ≡ false) ss
not_there a [] none = tt
not_there a (y ∷ ss) none = by_test (y == a) refl none (not_there a ss)
  where
    other : (y a : ℕ) → (y == a) ≡ false → eqb a y ≡ false
    other y a e = grind (arith, nat_tests)

    by_test : (b : Bool) → (y == a) ≡ b → length (if b then y ∷ filter (λ t. t == a) ss else filter (λ t. t == a) ss) ≤ 0 → (times ss a ≤ 0 → AllByRecursion (λ z. eqb a z ≡ false) ss)
        → (eqb a y ≡ false) × AllByRecursion (λ z. eqb a z ≡ false) ss
    by_test true e x next = absurd (omega (arith, x))
    by_test false e x next = (other y a e, next x)

first_times : (a : ℕ) (ss : List ℕ) → times (a ∷ ss) a ≤ 1 → times ss a ≤ 0
first_times a ss few = by_test (a == a) (self a) few
  where
    self : (n : ℕ) → (n == n) ≡ true
    self n = grind (arith, nat_tests)

    by_test : (b : Bool) → b ≡ true → length (if b then a ∷ filter (λ t. t == a) ss else filter (λ t. t == a) ss) ≤ 1 → times ss a ≤ 0
    by_test true e x = omega (arith, x)
    by_test false e x = absurd (cc)

later_times : (a b : ℕ) (ss : List ℕ) → times (a ∷ ss) b ≤ 1 → times ss b ≤ 1
later_times a b ss few = by_test (a == b) few
  where
    by_test : (t : Bool) → length (if t then a ∷ filter (λ t. t == b) ss else filter (λ t. t == b) ss) ≤ 1 → times ss b ≤ 1
    by_test true x = omega (arith, x)
    by_test false x = x

distinct : (ss : List ℕ) (P : ℕ → Type 0) → AllByRecursion P ss → ((a : ℕ) → P a → times ss a ≤ 1) → IsDistinct eqb ss
unfolding IsDistinct
distinct [] P all once = tt
distinct (a ∷ ss) P all once = (not_there a ss (first_times a ss (once a all.0)), distinct ss P all.1 (λ b on. later_times a b ss (once b on)))

with_two : (a b : ℕ) (ss : List ℕ) → eqb a b ≡ false → AllByRecursion (λ y. eqb a y ≡ false) ss → AllByRecursion (λ y. eqb b y ≡ false) ss → IsDistinct eqb ss → IsDistinct eqb (a ∷ b ∷ ss)
unfolding IsDistinct
with_two a b ss x y z d = ((x, y), (z, d))

same_length : (rows : List Row) → length (slots_of rows) ≡ length rows
same_length [] = refl
same_length (r ∷ rows) = ap (λ n. suc n) (same_length rows)

slots_near : (rows : List Row) (n : ℕ) (P : Row → Type 0) → All P rows → ((r : Row) → P r → r.slot ≤ n) → (q : ℕ) → list_any (eqb q) (slots_of rows) ≡ true → q ≤ n
slots_near [] n P all f q on = absurd (cc)
slots_near (r ∷ rows) n P all f q on = by_test (eqb q r.slot) refl on (slots_near rows n P (All-tail P r rows all) f q)
  where
    same : (a b : ℕ) → eqb a b ≡ true → a ≡ b
    same a b e = grind (arith, nat_tests)

    by_test : (b : Bool) → eqb q r.slot ≡ b → (b || list_any (eqb q) (slots_of rows)) ≡ true → (list_any (eqb q) (slots_of rows) ≡ true → q ≤ n) → q ≤ n
    by_test true e x next = subst (λ z. z ≤ n) (sym (same q r.slot e)) (f r (All-head P r rows all))
    by_test false e x next = next x

each_slot : (rows : List Row) (P : Row → Type 0) (Q : ℕ → Type 0) → All P rows → ((r : Row) → P r → Q r.slot) → AllByRecursion Q (slots_of rows)
each_slot [] P Q all f = tt
each_slot (r ∷ rows) P Q all f = (f r (All-head P r rows all), each_slot rows P Q (All-tail P r rows all) f)

record Slots (n a : ℕ) : Type 0 where
  from : 1 ≤ a
  to : a ≤ n

-- a backplane with an empty slot has fewer boards than the most
pub one_empty : (p : Plan) → IsAccepted p → (x : ℕ) → is_slot x ≡ true → board p x ≡ None → nat_lt (length p.rows) 21 ≡ true
one_empty p ok x slot none =
    let range = in_range p ok in
    let most = range.most in
    let d = distinct (slots_of p.rows) (Slots p.slots) (each_slot p.rows (IsRowInRange p) (Slots p.slots) range.rows (λ r i. record { from = i.from_one; to = i.to_last }))
    (λ a w. named_once p ok a w.from w.to) in
    let whole = with_two 0 x (slots_of p.rows) (above x slot) (apart 0 (IsRowInRange p) p.rows range.rows (λ r i. positive r.slot i.from_one))
    (apart x (IsRowInRange p) p.rows range.rows (λ r i. other r i.alone)) d in
    few (length p.rows) (length (slots_of p.rows)) (same_length p.rows) (length-le_from_distinct_below (0 ∷ x ∷ slots_of p.rows) 22 whole
    (λ q on. near q on (slots_near p.rows p.slots (IsRowInRange p) range.rows (λ r i. i.to_last) q) most))
  where
    above : (x : ℕ) → is_slot x ≡ true → eqb 0 x ≡ false
    above x e = grind (arith, nat_tests)

    positive : (a : ℕ) → 1 ≤ a → eqb 0 a ≡ false
    positive a l = grind (arith, nat_tests)

    some_none : (r : Row) → Some r ≡ None → ⊥
    some_none r e = cc

    same : (a b : ℕ) → eqb a b ≡ true → a ≡ b
    same a b e = grind (arith, nat_tests)

    other : (r : Row) → board p r.slot ≡ Some r → eqb x r.slot ≡ false
    other r found = by_test (eqb x r.slot) refl
      where
        by_test : (b : Bool) → eqb x r.slot ≡ b → b ≡ false
        by_test true e = absurd (some_none r (sym found ∙ ap (board p) (sym (same x r.slot e)) ∙ none))
        by_test false e = refl

    few : (n m : ℕ) → m ≡ n → suc (suc m) ≤ 22 → nat_lt n 21 ≡ true
    few n m e l = grind (arith, nat_tests)

    to_last : (x : ℕ) → is_slot x ≡ true → x < 22
    to_last x e = grind (arith, nat_tests)

    near : (q : ℕ) → list_any (eqb q) (0 ∷ x ∷ slots_of p.rows) ≡ true → (list_any (eqb q) (slots_of p.rows) ≡ true → q ≤ p.slots) → p.slots ≤ 21 → q < 22
    near q on next most = by_test (eqb q 0) refl (eqb q x) refl on
      where
        by_test : (a : Bool) → eqb q 0 ≡ a → (b : Bool) → eqb q x ≡ b → (a || (b || list_any (eqb q) (slots_of p.rows))) ≡ true → q < 22
        by_test true e b f g = subst (λ z. z < 22) (sym (same q 0 e)) (omega arith)
        by_test false e true f g = subst (λ z. z < 22) (sym (same q x f)) (to_last x slot)
        by_test false e false f g = let l : q ≤ p.slots = next g in omega (arith, l, most)

-- the place of the last segment of the acknowledge chain
pub ends_same : (p : Plan) → IsAccepted p → last_place p ≡ end_of_chain p
ends_same p ok = ap place_of (last_of (interrupts p) p.slots 21 (in_range p ok).most)

module _ (probed : Probed) (p : Plan) (ok : IsAccepted p) (pins : List Pin) (h : List Edge) (e : Edge) (v : Change) (legal : IsLegal probed.version p (e ∷ h)) (s : seen p pins h e ≡ Some v)
    (st : Standings) (covers : Covers p pins h st)
    (is : v.signal ≡ signal.Line on_line.Berr) (fall : v.fall ≡ true) where
  abbrev version : Version
  version = probed.version

  abbrev by_head : (e.driver ≡ Controller) × (e.wire ≡ wire.Berr)
  by_head = error_now probed p ok pins h e v legal s st covers is

  passed : Passed version p h Controller wire.Berr true e.value
  passed = passed_by probed p ok pins h e v legal s st covers Controller wire.Berr true by_head.0 by_head.1 fall

  strobed : line p h wire.DataStrobe ≡ true
  strobed = and_left (line p h wire.DataStrobe) (not (line p h wire.Dtack)) passed.rule

  master : (t : ℕ) × (drive h (Slot t) wire.DataStrobe ≡ true)
  master = driven_by version p ok h wire.DataStrobe strobed

  within : (drive h (Slot master.0) wire.AddressStrobe ≡ true) × (drive h (Slot master.0) wire.Addr ≡ true)
  within = data_within p h (goes version p ok h legal.1) master.0 master.1

  shows : Shows p h master.0
  shows = shows_at version p ok h legal.1 master.0 within.1

  told : option_map_or (says shows.cycle) st.shown false ≡ true
  told = covers.shown.shown shows.cycle (line_shows version p ok h legal.1 master.0 wire.AddressStrobe within.0) shows.shows

  beyond : is_unanswerable p h (Some shows.cycle) ≡ true
  beyond = subst (λ o. is_unanswerable p h o ≡ true) shows.shows passed.settles

  no_board : (o : Option Row) → is_none o ≡ true → o ≡ None
  no_board None x = refl
  no_board (Some r) x = absurd (cc)

  nobody : (k : Option Shown) (c : Cycle) → shown p h ≡ Some c → is_in_range c ≡ true → is_unanswerable p h (Some c) ≡ true → option_map_or (says c) k false ≡ true
      → nobody_answers p st.fronts k ≡ true
  nobody (Some (known.Acknowledge m)) (cycle.Acknowledge n) x range far on =
      subst (λ t. has st.fronts.ends t ≡ true) (sym (ends_same p ok)) (error_at_end version p ok pins h e v legal s is fall n x st.fronts covers.fronts)
  nobody (Some (known.Access (Some t))) (cycle.Access y) x range far on =
      subst (λ z. not (is_some (board p z)) ≡ true) (sym (same_number t y on)) (ap (λ (o : Option Row). not (is_some o)) (no_board (board p y) far))
  nobody (Some (known.Access None)) (cycle.Access y) x range far on = one_empty p ok y range (no_board (board p y) far)
  nobody (Some (known.Acknowledge m)) (cycle.Access y) x range far on = absurd (cc)
  nobody (Some (known.Access (Some t))) (cycle.Acknowledge n) x range far on = absurd (cc)
  nobody (Some (known.Access None)) (cycle.Acknowledge n) x range far on = absurd (cc)
  nobody None c x range far on = absurd (cc)

  times_out : can_time_out p st ≡ true
  times_out =
      three (is_left_low st on_line.DataStrobe) (is_left_low st on_line.Dtack) (nobody_answers p st.fronts st.shown)
      (covers.levels.shared on_line.DataStrobe refl ∙ strobed)
      (covers.levels.shared on_line.Dtack refl ∙ not_true (line p h wire.Dtack) (and_right (line p h wire.DataStrobe) (not (line p h wire.Dtack)) passed.rule))
      (nobody st.shown shows.cycle shows.shows shows.range beyond told)
    where
      three : (a b c : Bool) → a ≡ true → b ≡ false → c ≡ true → (a && not b && c) ≡ true
      three a b c f g i = grind arith

  fronts_kept : (new : Fronts) → new ≡ st.fronts → CoversFronts p (e ∷ h) new
  fronts_kept new same =
      let w = by_head.1 in
      kept_fronts probed p ok pins h e v legal s st covers new same (λ y. absurd (cc (w, y))) (λ y. absurd (cc (w, y))) (λ y. absurd (cc (w, y)))

  fronts_now : (new : Fronts) (k : Option Shown) (c : Cycle) → shown p h ≡ Some c → option_map_or (says c) k false ≡ true → FrontsTimedOut p st k new → CoversFronts p (e ∷ h) new
  fronts_now new (Some (known.Acknowledge m)) (cycle.Acknowledge n) x on f =
      error_keeps version p ok pins h e v legal s is fall n x st.fronts covers.fronts new (subst (λ t. has new.ends t ≡ true) (ends_same p ok) f.here)
  fronts_now new (Some (known.Access t)) (cycle.Access y) x on f = fronts_kept new f
  fronts_now new (Some (known.Acknowledge m)) (cycle.Access y) x on f = absurd (cc)
  fronts_now new (Some (known.Access (Some t))) (cycle.Acknowledge n) x on f = absurd (cc)
  fronts_now new (Some (known.Access None)) (cycle.Acknowledge n) x on f = absurd (cc)
  fronts_now new None c x on f = absurd (cc)

  pub error_falls : (val : Option Value) → Step probed p ok pins h e v legal s st covers (signal.Line on_line.Berr) true val
  error_falls val = record {
    by = λ d a. by_controller probed p ok pins h e v legal s st covers d by_head.0 (a.controller ∙ times_out);
    covers = λ new b.
        error_rest probed p ok pins h e v legal s st covers is true val fall new b b.shown b.strobed b.phases b.addressers b.answerers
        (fronts_now new.fronts st.shown shows.cycle shows.shows told b.fronts) b.requests;
  }
