-- Which phases the sets of `with_unseen` have.
use Rattle.std.proofs.Common.{◌≡◌, ◌∙◌, ◌⊎◌, ◌<◌, ◌≤◌, ◌+◌, ℕ, zero, suc, Bool, true, false, List, Option, Some, None, refl, sym, ap, subst, inl, inr, ⊎_elim, arith}
use Rattle.std.specs.Prelude.{◌&&◌, ◌||◌, ◌==◌, not, if◌then◌else◌, nat_le, slice_index_or}
use Rattle.std.specs.List.{list_any}
use Rattle.std.specs.Option.{option_map_or}
use Rattle.std.proofs.lemmas.Bool.Decides.{nat_tests}
use Rattle.vme_bus.specs.declared.sets.SlotSet.{SlotSet}
use Rattle.vme_bus.specs.Sets.{has}
use Rattle.vme_model.specs.declared.boards.RequesterRow.{RequesterRow}
use Rattle.vme_model.specs.declared.sets.BusLevels.{BusLevels}
use Rattle.vme_model.specs.declared.signals.Version.{Version}
use Rattle.vme_model.specs.Accepted.{IsAccepted}
use Rattle.vme_model.specs.Plan.{Plan}
use Rattle.vme_model.specs.Rules.{bus_numbers, is_pick}
use Rattle.vme_model.specs.Sets.{has_bus_level}
use Rattle.vme_model.specs.Signals.{is_two}
use Rattle.vme_model.proofs.Bools.{and_left, and_right, same_number}
use Rattle.vme_standings.specs.declared.phases.GrantPhase.{GrantPhase}
use Rattle.vme_standings.specs.declared.phases.GrantPhase.TheVariants.{Idle, Granting, Held, Expired}
use Rattle.vme_standings.specs.declared.phases.GrantPhases.{GrantPhases}
use Rattle.vme_standings.specs.GrantChains.{end_place, is_follower, is_of_level, place_before, requester_at}
use Rattle.vme_standings.specs.Grants.{are_alike, is_granted, is_picked}
use Rattle.vme_standings.specs.Phases.{expired_row, granting_row, has_phase, held_row, is_idle_at, no_slots}
use Rattle.vme_standings.specs.Unseen.{IsReached, IsRound, RisesAllHeld, RisesHeld, Walks, falls_unseen, has_row_for, is_first, is_idle_alike, is_last, is_over, is_unseen, leads, rises_unseen}
use Rattle.vme_standings.specs.Unseen.IsReached.{Here, Further}
use Rattle.vme_standings.proofs.Growing.{both}
use Rattle.vme_standings.proofs.Slots.{before_less}
use Rattle.vme_standings.proofs.Tests.{or_left, or_true}

pub or_cases : (a b : Bool) → (a || b) ≡ true → (a ≡ true) ⊎ (b ≡ true)
or_cases true b e = inl refl
or_cases false b e = inr e

and_cases : (a b : Bool) → (a && b) ≡ false → (a ≡ false) ⊎ (b ≡ false)
and_cases true b e = inr e
and_cases false b e = inl refl

same : (n : ℕ) → (n == n) ≡ true
same n = grind (arith, nat_tests)

-- a level of which something holds
any_level : (f : ℕ → Bool) → list_any f bus_numbers ≡ true → (n : ℕ) × (n < 4) × (f n ≡ true)
any_level f e = ⊎_elim (λ a. (0, omega arith, a)) at_one (or_cases (f 0) _ e)
  where
    at_three : (f 3 || false) ≡ true → (n : ℕ) × (n < 4) × (f n ≡ true)
    at_three e = ⊎_elim (λ a. (3, omega arith, a)) (λ a. absurd (cc)) (or_cases (f 3) false e)

    at_two : (f 2 || (f 3 || false)) ≡ true → (n : ℕ) × (n < 4) × (f n ≡ true)
    at_two e = ⊎_elim (λ a. (2, omega arith, a)) at_three (or_cases (f 2) _ e)

    at_one : (f 1 || (f 2 || (f 3 || false))) ≡ true → (n : ℕ) × (n < 4) × (f n ≡ true)
    at_one e = ⊎_elim (λ a. (1, omega arith, a)) at_two (or_cases (f 1) _ e)

pub some_level : (f : ℕ → Bool) (n : ℕ) → n < 4 → f n ≡ true → list_any f bus_numbers ≡ true
some_level f zero l e = or_left (f 0) _ e
some_level f (suc zero) l e = or_true (f 0) _ (or_left (f 1) _ e)
some_level f (suc (suc zero)) l e = or_true (f 0) _ (or_true (f 1) _ (or_left (f 2) _ e))
some_level f (suc (suc (suc zero))) l e = or_true (f 0) _ (or_true (f 1) _ (or_true (f 2) _ (or_left (f 3) _ e)))
some_level f (suc (suc (suc (suc n)))) l e = absurd (omega arith)

-- what is picked is one of four levels
few_of : (b : Bool) (n c : ℕ) (rest : Option ℕ) → n < 4 → (option_map_or (λ m. m == c) rest false ≡ true → c < 4) → option_map_or (λ m. m == c) (if b then Some n else rest) false ≡ true → c < 4
few_of true n c rest l next e = subst (λ m. m < 4) (same_number n c e) l
few_of false n c rest l next e = next e

picked_few : (p : Plan) (requests : BusLevels) (last c : ℕ) → is_picked p requests last c ≡ true → c < 4
picked_few p requests last c e =
    few_of (f 0) 0 c _ (omega arith) (few_of (f 1) 1 c _ (omega arith) (few_of (f 2) 2 c _ (omega arith) (few_of (f 3) 3 c None (omega arith) (λ n. absurd (cc))))) e
  where
    f : ℕ → Bool
    f = is_pick p.arbiter (has_bus_level requests) last

-- a set has rows for the phase
abbrev pub InRows : GrantPhase → Type 0
InRows (Idle c) = c < 4
InRows (Granting c t) = c < 4
InRows (Held b t) = b < 22
InRows (Expired c t) = c < 4

module _ (p : Plan) (ok : IsAccepted p) (version : Version) (requests : BusLevels) (probed : List SlotSet) (s : GrantPhases) where
  -- each phase of the set is reached from the first
  abbrev pub Only : GrantPhases → Type 0
  Only from = (q : GrantPhase) → InRows q → has_phase from q ≡ true → IsReached p version requests probed s q

  begun : (from : GrantPhases) → Only from → (c t : ℕ) → (t == 0 && (is_unseen probed c 0 && is_granted p requests c from)) ≡ true → IsReached p version requests probed s (Granting c t)
  begun from only c t e =
      let rest = and_right (t == 0) (is_unseen probed c 0 && is_granted p requests c from) e in
      let w = any_level (λ last. has_phase from (Idle last) && is_picked p requests last c) (and_right (is_unseen probed c 0) (is_granted p requests c from) rest) in
      Further (Idle w.0) (Granting c t)
      (only (Idle w.0) w.1 (and_left (is_idle_at from w.0) (is_picked p requests w.0 c) w.2))
      (both (is_unseen probed c 0) (t == 0 && is_picked p requests w.0 c) (and_left (is_unseen probed c 0) (is_granted p requests c from) rest)
      (both (t == 0) (is_picked p requests w.0 c) (and_left (t == 0) (is_unseen probed c 0 && is_granted p requests c from) e) (and_right (is_idle_at from w.0) (is_picked p requests w.0 c) w.2)))

  less : (c t n : ℕ) → t < suc n → is_of_level p c t ≡ true → place_before p c t < n
  less c t n l level = let b = before_less p ok c t level in omega arith

  passed : (c t : ℕ) → falls_unseen p version probed c t ≡ true → IsReached p version requests probed s (Granting c (place_before p c t)) → IsReached p version requests probed s (Granting c t)
  passed c t falls before =
      let may : Bool = (is_two version || not (t == end_place p c)) && is_unseen probed c t in
      Further (Granting c (place_before p c t)) (Granting c t) before
      (both (c == c && is_follower p c (place_before p c t) t) may
      (both (c == c) (is_follower p c (place_before p c t) t) (same c)
      (both (is_of_level p c t) (place_before p c t == place_before p c t) (and_left (is_of_level p c t) may falls) (same (place_before p c t))))
      (and_right (is_of_level p c t) may falls))

  reached_falls : (from : GrantPhases) → Only from → (c : ℕ) → c < 4 → (lasts : SlotSet) → Walks p c (falls_unseen p version probed c) (is_last p requests probed c from) lasts → (n t : ℕ) → t < n
      → has lasts t ≡ true → IsReached p version requests probed s (Granting c t)
  reached_falls from only c few lasts walks zero t l h = absurd (omega arith)
  reached_falls from only c few lasts walks (suc n) t l h =
      ⊎_elim
      (λ last. ⊎_elim (λ row. only (Granting c t) few row) (begun from only c t) (or_cases (has (granting_row from c) t) (t == 0 && (is_unseen probed c 0 && is_granted p requests c from)) last))
      (λ e.
      let falls = and_left (falls_unseen p version probed c t) (has lasts (place_before p c t)) e in
      passed c t falls
      (reached_falls from only c few lasts walks n (place_before p c t)
      (less c t n l (and_left (is_of_level p c t) ((is_two version || not (t == end_place p c)) && is_unseen probed c t) falls))
      (and_right (falls_unseen p version probed c t) (has lasts (place_before p c t)) e)))
      (or_cases (is_last p requests probed c from t) (falls_unseen p version probed c t && has lasts (place_before p c t)) (sym (walks t) ∙ h))

  taken_back : (c t : ℕ) (lasts : SlotSet) → ((t : ℕ) → has lasts t ≡ true → IsReached p version requests probed s (Granting c t))
      → ((is_two version && (is_unseen probed c 0 && has lasts (end_place p c))) && is_follower p c 0 t) ≡ true → IsReached p version requests probed s (Expired c t)
  taken_back c t lasts granting e =
      let out = and_left (is_two version && (is_unseen probed c 0 && has lasts (end_place p c))) (is_follower p c 0 t) e in
      let rest = and_right (is_two version) (is_unseen probed c 0 && has lasts (end_place p c)) out in
      Further (Granting c (end_place p c)) (Expired c t) (granting (end_place p c) (and_right (is_unseen probed c 0) (has lasts (end_place p c)) rest))
      (both (c == c && is_follower p c 0 t) (is_two version && (is_unseen probed c 0 && end_place p c == end_place p c))
      (both (c == c) (is_follower p c 0 t) (same c) (and_right (is_two version && (is_unseen probed c 0 && has lasts (end_place p c))) (is_follower p c 0 t) e))
      (both (is_two version) (is_unseen probed c 0 && end_place p c == end_place p c) (and_left (is_two version) (is_unseen probed c 0 && has lasts (end_place p c)) out)
      (both (is_unseen probed c 0) (end_place p c == end_place p c) (and_left (is_unseen probed c 0) (has lasts (end_place p c)) rest) (same (end_place p c)))))

  risen : (c t : ℕ) → (is_two version && rises_unseen p probed c t) ≡ true → IsReached p version requests probed s (Expired c (place_before p c t))
      → IsReached p version requests probed s (Expired c t)
  risen c t may before =
      let rises = and_right (is_two version) (rises_unseen p probed c t) may in
      Further (Expired c (place_before p c t)) (Expired c t) before
      (both (c == c && is_follower p c (place_before p c t) t) (is_two version && is_unseen probed c (place_before p c t))
      (both (c == c) (is_follower p c (place_before p c t) t) (same c)
      (both (is_of_level p c t) (place_before p c t == place_before p c t) (and_left (is_of_level p c t) (is_unseen probed c (place_before p c t)) rises) (same (place_before p c t))))
      (both (is_two version) (is_unseen probed c (place_before p c t)) (and_left (is_two version) (rises_unseen p probed c t) may)
      (and_right (is_of_level p c t) (is_unseen probed c (place_before p c t)) rises)))

  reached_rises : (from : GrantPhases) → Only from → (c : ℕ) → c < 4 → (lasts firsts : SlotSet) → ((t : ℕ) → has lasts t ≡ true → IsReached p version requests probed s (Granting c t))
      → Walks p c (λ t. is_two version && rises_unseen p probed c t) (is_first p version probed c lasts from) firsts → (n t : ℕ) → t < n → has firsts t ≡ true
      → IsReached p version requests probed s (Expired c t)
  reached_rises from only c few lasts firsts granting walks zero t l h = absurd (omega arith)
  reached_rises from only c few lasts firsts granting walks (suc n) t l h =
      ⊎_elim
      (λ first. ⊎_elim (λ row. only (Expired c t) few row) (taken_back c t lasts granting) (or_cases (has (expired_row from c) t)
      ((is_two version && (is_unseen probed c 0 && has lasts (end_place p c))) && is_follower p c 0 t) first))
      (λ e.
      let may = and_left (is_two version && rises_unseen p probed c t) (has firsts (place_before p c t)) e in
      risen c t may
      (reached_rises from only c few lasts firsts granting walks n (place_before p c t)
      (less c t n l (and_left (is_of_level p c t) (is_unseen probed c (place_before p c t)) (and_right (is_two version) (rises_unseen p probed c t) may)))
      (and_right (is_two version && rises_unseen p probed c t) (has firsts (place_before p c t)) e)))
      (or_cases (is_first p version probed c lasts from t) ((is_two version && rises_unseen p probed c t) && has firsts (place_before p c t)) (sym (walks t) ∙ h))

  over : (c : ℕ) (firsts : SlotSet) → ((t : ℕ) → has firsts t ≡ true → IsReached p version requests probed s (Expired c t)) → is_over p version probed c firsts ≡ true
      → IsReached p version requests probed s (Idle c)
  over c firsts expired e =
      let rest = and_right (is_two version) (is_unseen probed c (end_place p c) && has firsts (end_place p c)) e in
      Further (Expired c (end_place p c)) (Idle c) (expired (end_place p c) (and_right (is_unseen probed c (end_place p c)) (has firsts (end_place p c)) rest))
      (both (c == c) (is_two version && (is_unseen probed c (end_place p c) && end_place p c == end_place p c)) (same c)
      (both (is_two version) (is_unseen probed c (end_place p c) && end_place p c == end_place p c) (and_left (is_two version) (is_unseen probed c (end_place p c) && has firsts (end_place p c)) e)
      (both (is_unseen probed c (end_place p c)) (end_place p c == end_place p c) (and_left (is_unseen probed c (end_place p c)) (has firsts (end_place p c)) rest) (same (end_place p c)))))

  -- a round adds only what is reached
  module _ (from new : GrantPhases) (round : IsRound p version requests probed from new) (only : Only from) where
    granting_only : (c : ℕ) → c < 4 → (t : ℕ) → has (granting_row new c) t ≡ true → IsReached p version requests probed s (Granting c t)
    granting_only c few t h = reached_falls from only c few (granting_row new c) (round.level c few).falls (suc t) t (omega arith) h

    expired_only : (c : ℕ) → c < 4 → (t : ℕ) → has (expired_row new c) t ≡ true → IsReached p version requests probed s (Expired c t)
    expired_only c few t h =
        reached_rises from only c few (granting_row new c) (expired_row new c) (granting_only c few) (round.level c few).rises (suc t) t (omega arith) h

    pub round_only : Only new
    round_only (Idle c) few h =
        ⊎_elim (only (Idle c) few) (over c (expired_row new c) (expired_only c few)) (or_cases (is_idle_at from c) (is_over p version probed c (expired_row new c)) (sym (round.level c few).idle ∙ h))
    round_only (Granting c t) few h = granting_only c few t h
    round_only (Held b t) few h = only (Held b t) few (ap (λ rows. has (slice_index_or rows b no_slots) t) (sym round.held) ∙ h)
    round_only (Expired c t) few h = expired_only c few t h

  -- a holder's row adds only what is reached
  held_further : (b t : ℕ) (reached : SlotSet) (o : Option RequesterRow) → requester_at p b ≡ o
      → option_map_or (λ q. (nat_le t b && rises_unseen p probed q.level t) && has reached (place_before p q.level t)) o false ≡ true
      → ((u : ℕ) → u < t → has reached u ≡ true → IsReached p version requests probed s (Held b u))
      → IsReached p version requests probed s (Held b t)
  held_further b t reached None is e next = absurd (cc)
  held_further b t reached (Some q) is e next =
      let before = place_before p q.level t in
      let may = and_left (nat_le t b && rises_unseen p probed q.level t) (has reached before) e in
      let unseen = and_right (nat_le t b) (rises_unseen p probed q.level t) may in
      let level = and_left (is_of_level p q.level t) (is_unseen probed q.level before) unseen in
      Further (Held b before) (Held b t)
      (next before (before_less p ok q.level t level) (and_right (nat_le t b && rises_unseen p probed q.level t) (has reached before) e))
      (both (b == b && nat_le t b) (option_map_or (λ q. is_follower p q.level before t && is_unseen probed q.level before) (requester_at p b) false)
      (both (b == b) (nat_le t b) (same b) (and_left (nat_le t b) (rises_unseen p probed q.level t) may))
      (ap (λ x. option_map_or (λ q. is_follower p q.level before t && is_unseen probed q.level before) x false) is
      ∙ both (is_follower p q.level before t) (is_unseen probed q.level before)
      (both (is_of_level p q.level t) (before == before) level (same before))
      (and_right (is_of_level p q.level t) (is_unseen probed q.level before) unseen)))

  pub reached_held : (b : ℕ) → (reached : SlotSet) → RisesHeld p probed b (held_row s b) reached → (n t : ℕ) → t < n → has reached t ≡ true → IsReached p version requests probed s (Held b t)
  reached_held b reached rises zero t l h = absurd (omega arith)
  reached_held b reached rises (suc n) t l h =
      ⊎_elim (λ row. Here (Held b t) row)
      (λ e. held_further b t reached (requester_at p b) refl e (λ u less. reached_held b reached rises n u (omega arith)))
      (or_cases (has (held_row s b) t) (option_map_or (λ q. (nat_le t b && rises_unseen p probed q.level t) && has reached (place_before p q.level t)) (requester_at p b) false) (sym (rises t) ∙ h))

-- a holder without a phase rises nowhere
pub no_rise : (p : Plan) (probed : List SlotSet) (b : ℕ) (firsts : SlotSet) → ((t : ℕ) → has firsts t ≡ false) → RisesHeld p probed b firsts firsts
no_rise p probed b firsts empty t = by_requester (requester_at p b)
  where
    none : (a x y : Bool) → y ≡ false → a ≡ (a || (x && y))
    none a x y e = grind arith

    open_ : (a : Bool) → a ≡ (a || false)
    open_ true = refl
    open_ false = refl

    by_requester : (o : Option RequesterRow) → has firsts t ≡ (has firsts t || option_map_or (λ q. (nat_le t b && rises_unseen p probed q.level t) && has firsts (place_before p q.level t)) o false)
    by_requester None = open_ (has firsts t)
    by_requester (Some q) = none (has firsts t) (nat_le t b && rises_unseen p probed q.level t) (has firsts (place_before p q.level t)) (empty (place_before p q.level t))

-- the rows that a set has
pub rows_of : (q : GrantPhase) → has_row_for q ≡ true → InRows q
rows_of (Idle c) e = let l : c < 4 = grind (arith, nat_tests) in l
rows_of (Granting c t) e = let l : c < 4 = grind (arith, nat_tests) in l
rows_of (Held b t) e = let l : b < 22 = grind (arith, nat_tests) in l
rows_of (Expired c t) e = let l : c < 4 = grind (arith, nat_tests) in l

-- the unseen rises of holders add only what is reached, and take nothing away
pub begin_only : (p : Plan) (ok : IsAccepted p) (version : Version) (requests : BusLevels) (probed : List SlotSet) (s new : GrantPhases) → RisesAllHeld p probed s new
    → Only p ok version requests probed s new
begin_only p ok version requests probed s new rises (Idle c) few h = Here (Idle c) (ap (λ xs. slice_index_or xs c false) (sym rises.idle) ∙ h)
begin_only p ok version requests probed s new rises (Granting c t) few h = Here (Granting c t) (ap (λ xs. has (slice_index_or xs c no_slots) t) (sym rises.granting) ∙ h)
begin_only p ok version requests probed s new rises (Held b t) few h = reached_held p ok version requests probed s b (held_row new b) (rises.held b few) (suc t) t (omega arith) h
begin_only p ok version requests probed s new rises (Expired c t) few h = Here (Expired c t) (ap (λ xs. has (slice_index_or xs c no_slots) t) (sym rises.expired) ∙ h)

pub begin_kept : (p : Plan) (probed : List SlotSet) (s new : GrantPhases) → RisesAllHeld p probed s new → (q : GrantPhase) → InRows q → has_phase s q ≡ true → has_phase new q ≡ true
begin_kept p probed s new rises (Idle c) few h = ap (λ xs. slice_index_or xs c false) rises.idle ∙ h
begin_kept p probed s new rises (Granting c t) few h = ap (λ xs. has (slice_index_or xs c no_slots) t) rises.granting ∙ h
begin_kept p probed s new rises (Held b t) few h =
    rises.held b few t
    ∙ or_left (has (held_row s b) t) (option_map_or (λ q. (nat_le t b && rises_unseen p probed q.level t) && has (held_row new b) (place_before p q.level t)) (requester_at p b) false) h
begin_kept p probed s new rises (Expired c t) few h = ap (λ xs. has (slice_index_or xs c no_slots) t) rises.expired ∙ h

-- what a round keeps
pub round_kept : (p : Plan) (version : Version) (requests : BusLevels) (probed : List SlotSet) (from new : GrantPhases) → IsRound p version requests probed from new → (q : GrantPhase) → InRows q
    → has_phase from q ≡ true → has_phase new q ≡ true
round_kept p version requests probed from new round (Idle c) few h = (round.level c few).idle ∙ or_left _ _ h
round_kept p version requests probed from new round (Granting c t) few h = (round.level c few).falls t ∙ or_left _ _ (or_left _ _ h)
round_kept p version requests probed from new round (Held b t) few h = ap (λ rows. has (slice_index_or rows b no_slots) t) round.held ∙ h
round_kept p version requests probed from new round (Expired c t) few h = (round.level c few).rises t ∙ or_left _ _ (or_left _ _ h)

-- two sets with the same idle phases
alike : (a b : Bool) → are_alike a b ≡ true → a ≡ b
alike true true e = refl
alike true false e = absurd (cc)
alike false true e = absurd (cc)
alike false false e = refl

-- both have the idle phase of the level, or neither has
abbrev alike_at : GrantPhases → GrantPhases → ℕ → Bool
alike_at a b c = are_alike (is_idle_at a c) (is_idle_at b c)

module _ (a b : GrantPhases) (e : is_idle_alike a b ≡ true) where
  from_one : (alike_at a b 1 && (alike_at a b 2 && (alike_at a b 3 && true))) ≡ true
  from_one = and_right (alike_at a b 0) (alike_at a b 1 && (alike_at a b 2 && (alike_at a b 3 && true))) e

  from_two : (alike_at a b 2 && (alike_at a b 3 && true)) ≡ true
  from_two = and_right (alike_at a b 1) (alike_at a b 2 && (alike_at a b 3 && true)) from_one

  from_three : (alike_at a b 3 && true) ≡ true
  from_three = and_right (alike_at a b 2) (alike_at a b 3 && true) from_two

  idle_same : (c : ℕ) → c < 4 → is_idle_at a c ≡ is_idle_at b c
  idle_same zero l = alike (is_idle_at a 0) (is_idle_at b 0) (and_left (alike_at a b 0) (alike_at a b 1 && (alike_at a b 2 && (alike_at a b 3 && true))) e)
  idle_same (suc zero) l = alike (is_idle_at a 1) (is_idle_at b 1) (and_left (alike_at a b 1) (alike_at a b 2 && (alike_at a b 3 && true)) from_one)
  idle_same (suc (suc zero)) l = alike (is_idle_at a 2) (is_idle_at b 2) (and_left (alike_at a b 2) (alike_at a b 3 && true) from_two)
  idle_same (suc (suc (suc zero))) l = alike (is_idle_at a 3) (is_idle_at b 3) (and_left (alike_at a b 3) true from_three)
  idle_same (suc (suc (suc (suc c)))) l = absurd (omega arith)

-- each holder's row is closed
abbrev pub HeldRises : Plan → List SlotSet → GrantPhases → GrantPhases → Type 0
HeldRises p probed old new = (b : ℕ) → b < 22 → RisesHeld p probed b (held_row old b) (held_row new b)

module _ (p : Plan) (version : Version) (requests : BusLevels) (probed : List SlotSet) (old from new : GrantPhases) (round : IsRound p version requests probed from new)
    (idle : is_idle_alike new from ≡ true) (held : HeldRises p probed old new) where
  grants : (last c t : ℕ) → last < 4 → (is_unseen probed c 0 && (t == 0 && is_picked p requests last c)) ≡ true → is_idle_at new last ≡ true → has (granting_row new c) t ≡ true
  grants last c t few e h =
      let rest = and_right (is_unseen probed c 0) (t == 0 && is_picked p requests last c) e in
      let picked = and_right (t == 0) (is_picked p requests last c) rest in
      let was : is_idle_at from last ≡ true = sym (idle_same new from idle last few) ∙ h in
      let granted : is_granted p requests c from ≡ true = some_level (λ n. is_idle_at from n && is_picked p requests n c) last few
      (both (is_idle_at from last) (is_picked p requests last c) was picked) in
      (round.level c (picked_few p requests last c picked)).falls t
      ∙ or_left (is_last p requests probed c from t) (falls_unseen p version probed c t && has (granting_row new c) (place_before p c t))
      (or_true (has (granting_row from c) t) (t == 0 && (is_unseen probed c 0 && is_granted p requests c from))
      (both (t == 0) (is_unseen probed c 0 && is_granted p requests c from) (and_left (t == 0) (is_picked p requests last c) rest)
      (both (is_unseen probed c 0) (is_granted p requests c from) (and_left (is_unseen probed c 0) (t == 0 && is_picked p requests last c) e) granted)))

  passes : (c s t : ℕ) → c < 4 → is_follower p c s t ≡ true → ((is_two version || not (t == end_place p c)) && is_unseen probed c t) ≡ true → has (granting_row new c) s ≡ true
      → has (granting_row new c) t ≡ true
  passes c s t few follows may h =
      let before : place_before p c t ≡ s = same_number _ _ (and_right (is_of_level p c t) _ follows) in
      (round.level c few).falls t
      ∙ or_true _ _ (both _ _ (both _ _ (and_left _ _ follows) may) (ap (has (granting_row new c)) before ∙ h))

  runs_out : (c s t : ℕ) → c < 4 → is_follower p c 0 t ≡ true → (is_two version && (is_unseen probed c 0 && s == end_place p c)) ≡ true → has (granting_row new c) s ≡ true
      → has (expired_row new c) t ≡ true
  runs_out c s t few follows may h =
      let rest = and_right (is_two version) _ may in
      let end : s ≡ end_place p c = same_number _ _ (and_right (is_unseen probed c 0) _ rest) in
      (round.level c few).rises t
      ∙ or_left (is_first p version probed c (granting_row new c) from t) ((is_two version && rises_unseen p probed c t) && has (expired_row new c) (place_before p c t))
      (or_true (has (expired_row from c) t) ((is_two version && (is_unseen probed c 0 && has (granting_row new c) (end_place p c))) && is_follower p c 0 t)
      (both (is_two version && (is_unseen probed c 0 && has (granting_row new c) (end_place p c))) (is_follower p c 0 t)
      (both (is_two version) (is_unseen probed c 0 && has (granting_row new c) (end_place p c)) (and_left (is_two version) (is_unseen probed c 0 && s == end_place p c) may)
      (both (is_unseen probed c 0) (has (granting_row new c) (end_place p c)) (and_left (is_unseen probed c 0) (s == end_place p c) rest) (ap (has (granting_row new c)) (sym end) ∙ h)))
      follows))

  rises : (c s t : ℕ) → c < 4 → is_follower p c s t ≡ true → (is_two version && is_unseen probed c s) ≡ true → has (expired_row new c) s ≡ true → has (expired_row new c) t ≡ true
  rises c s t few follows may h =
      let before : place_before p c t ≡ s = same_number _ _ (and_right (is_of_level p c t) _ follows) in
      let unseen : is_unseen probed c (place_before p c t) ≡ true = ap (is_unseen probed c) before ∙ and_right (is_two version) _ may in
      (round.level c few).rises t
      ∙ or_true _ _ (both _ _ (both _ _ (and_left _ _ may) (both _ _ (and_left _ _ follows) unseen)) (ap (has (expired_row new c)) before ∙ h))

  ends : (c s : ℕ) → c < 4 → (is_two version && (is_unseen probed c s && s == end_place p c)) ≡ true → has (expired_row new c) s ≡ true → is_idle_at new c ≡ true
  ends c s few may h =
      let rest = and_right (is_two version) _ may in
      let end : s ≡ end_place p c = same_number _ _ (and_right (is_unseen probed c s) _ rest) in
      (round.level c few).idle
      ∙ or_true _ _ (both _ _ (and_left _ _ may) (both _ _ (ap (is_unseen probed c) (sym end) ∙ and_left _ _ rest) (ap (has (expired_row new c)) (sym end) ∙ h)))

  held_rises : (b s t : ℕ) → b < 22 → nat_le t b ≡ true → (o : Option RequesterRow) → requester_at p b ≡ o
      → option_map_or (λ q. is_follower p q.level s t && is_unseen probed q.level s) o false ≡ true → has (held_row new b) s ≡ true → has (held_row new b) t ≡ true
  held_rises b s t few up None is e h = absurd (cc)
  held_rises b s t few up (Some q) is e h =
      let follows = and_left (is_follower p q.level s t) _ e in
      let before : place_before p q.level t ≡ s = same_number _ _ (and_right (is_of_level p q.level t) _ follows) in
      held b few t
      ∙ or_true _ _ (ap (λ x. option_map_or (λ q. (nat_le t b && rises_unseen p probed q.level t) && has (held_row new b) (place_before p q.level t)) x false) is
      ∙ both _ _ (both _ _ up (both _ _ (and_left _ _ follows) (ap (is_unseen probed q.level) before ∙ and_right _ _ e))) (ap (has (held_row new b)) before ∙ h))

  -- a set that a round gives no idle phase is closed
  pub round_closed : (q r : GrantPhase) → InRows q → leads p version requests probed q r ≡ true → has_phase new q ≡ true → has_phase new r ≡ true
  round_closed (Idle last) (Granting c t) few e h = grants last c t few e h
  round_closed (Granting c s) (Granting n t) few e h =
      let at = and_left (n == c && is_follower p c s t) _ e in
      subst (λ m. has (granting_row new m) t ≡ true) (sym (same_number n c (and_left _ _ at)))
      (passes c s t few (and_right (n == c) _ at) (and_right _ _ e) h)
  round_closed (Granting c s) (Expired n t) few e h =
      let at = and_left (n == c && is_follower p c 0 t) _ e in
      subst (λ m. has (expired_row new m) t ≡ true) (sym (same_number n c (and_left _ _ at)))
      (runs_out c s t few (and_right (n == c) _ at) (and_right _ _ e) h)
  round_closed (Held b s) (Held k t) few e h =
      let at = and_left (k == b && nat_le t b) _ e in
      subst (λ m. has (held_row new m) t ≡ true) (sym (same_number k b (and_left _ _ at)))
      (held_rises b s t few (and_right (k == b) _ at) (requester_at p b) refl (and_right _ _ e) h)
  round_closed (Expired c s) (Expired n t) few e h =
      let at = and_left (n == c && is_follower p c s t) _ e in
      subst (λ m. has (expired_row new m) t ≡ true) (sym (same_number n c (and_left _ _ at)))
      (rises c s t few (and_right (n == c) _ at) (and_right _ _ e) h)
  round_closed (Expired c s) (Idle n) few e h =
      subst (λ m. is_idle_at new m ≡ true) (sym (same_number n c (and_left _ _ e)))
      (ends c s few (and_right (n == c) _ e) h)
  round_closed (Idle last) (Idle c) few e h = absurd (cc)
  round_closed (Idle last) (Held b t) few e h = absurd (cc)
  round_closed (Idle last) (Expired c t) few e h = absurd (cc)
  round_closed (Granting c s) (Idle n) few e h = absurd (cc)
  round_closed (Granting c s) (Held b t) few e h = absurd (cc)
  round_closed (Held b s) (Idle n) few e h = absurd (cc)
  round_closed (Held b s) (Granting c t) few e h = absurd (cc)
  round_closed (Held b s) (Expired c t) few e h = absurd (cc)
  round_closed (Expired c s) (Granting n t) few e h = absurd (cc)
  round_closed (Expired c s) (Held b t) few e h = absurd (cc)

-- how many idle phases a set has
abbrev one : Bool → ℕ
one true = 1
one false = 0

abbrev pub idle_count : GrantPhases → ℕ
idle_count s = one (is_idle_at s 0) + (one (is_idle_at s 1) + (one (is_idle_at s 2) + one (is_idle_at s 3)))

at_most_one : (b : Bool) → one b ≤ 1
at_most_one true = omega arith
at_most_one false = omega arith

pub at_most_four : (s : GrantPhases) → idle_count s ≤ 4
at_most_four s =
    let a = at_most_one (is_idle_at s 0) in
    let b = at_most_one (is_idle_at s 1) in
    let c = at_most_one (is_idle_at s 2) in
    let d = at_most_one (is_idle_at s 3) in
    omega arith

kept_one : (o n : Bool) → (o ≡ true → n ≡ true) → one o ≤ one n
kept_one true n keeps = let e = keeps refl in rw e (omega arith)
kept_one false n keeps = omega arith

one_more : (o n : Bool) → (o ≡ true → n ≡ true) → are_alike n o ≡ false → one o < one n
one_more true true keeps e = absurd (cc)
one_more true false keeps e = absurd (cc (keeps refl))
one_more false true keeps e = omega arith
one_more false false keeps e = absurd (cc)

-- a round that adds an idle phase
pub round_adds : (p : Plan) (version : Version) (requests : BusLevels) (probed : List SlotSet) (from new : GrantPhases) → IsRound p version requests probed from new → is_idle_alike new from ≡ false
    → idle_count from < idle_count new
round_adds p version requests probed from new round e = by_first (and_cases (alike_at new from 0) _ e)
  where
    keeps : (c : ℕ) → c < 4 → is_idle_at from c ≡ true → is_idle_at new c ≡ true
    keeps c l h = round_kept p version requests probed from new round (Idle c) l h

    kept : (c : ℕ) → c < 4 → one (is_idle_at from c) ≤ one (is_idle_at new c)
    kept c l = kept_one _ _ (keeps c l)

    more : (c : ℕ) → c < 4 → are_alike (is_idle_at new c) (is_idle_at from c) ≡ false → one (is_idle_at from c) < one (is_idle_at new c)
    more c l d = one_more _ _ (keeps c l) d

    zero_few : 0 < 4
    zero_few = omega arith

    one_few : 1 < 4
    one_few = omega arith

    two_few : 2 < 4
    two_few = omega arith

    three_few : 3 < 4
    three_few = omega arith

    at_three : (alike_at new from 3 && true) ≡ false → idle_count from < idle_count new
    at_three d =
        ⊎_elim (λ here. let x = kept 0 zero_few in let y = kept 1 one_few in let z = kept 2 two_few in let w = more 3 three_few here in omega arith) (λ no. absurd (cc))
        (and_cases (alike_at new from 3) true d)

    at_two : (alike_at new from 2 && (alike_at new from 3 && true)) ≡ false → idle_count from < idle_count new
    at_two d =
        ⊎_elim (λ here. let x = kept 0 zero_few in let y = kept 1 one_few in let z = more 2 two_few here in let w = kept 3 three_few in omega arith) at_three (and_cases (alike_at new from 2) _ d)

    at_one : (alike_at new from 1 && (alike_at new from 2 && (alike_at new from 3 && true))) ≡ false → idle_count from < idle_count new
    at_one d =
        ⊎_elim (λ here. let x = kept 0 zero_few in let y = more 1 one_few here in let z = kept 2 two_few in let w = kept 3 three_few in omega arith) at_two (and_cases (alike_at new from 1) _ d)

    by_first : (alike_at new from 0 ≡ false) ⊎ ((alike_at new from 1 && (alike_at new from 2 && (alike_at new from 3 && true))) ≡ false) → idle_count from < idle_count new
    by_first d =
        ⊎_elim (λ here. let x = more 0 zero_few here in let y = kept 1 one_few in let z = kept 2 two_few in let w = kept 3 three_few in omega arith) at_one d

-- the rows of holders stay as they are
pub held_stays : (p : Plan) (version : Version) (requests : BusLevels) (probed : List SlotSet) (old from new : GrantPhases) → IsRound p version requests probed from new → HeldRises p probed old from
    → HeldRises p probed old new
held_stays p version requests probed old from new round held b few =
    subst (λ rows. RisesHeld p probed b (held_row old b) (slice_index_or rows b no_slots)) (sym round.held) (held b few)
