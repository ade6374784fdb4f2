-- What conditions leave of the parts of a record, and when one of them is named: `laws`.
use Rattle.std.proofs.Common.{◌≡◌, ◌∙◌, ◌&&◌, ◌||◌, ◌⊎◌, ◌≤◌, ◌<◌, ℕ, zero, suc, Bool, true, false, not, List, [], ◌∷◌, ◌++◌, Option, Some, None, is_some, find, reverse, refl, sym, ap, subst, inl, inr, arith}
use Rattle.std.proofs.lemmas.Bool.{and_parts, cases_Bool}
use Rattle.std.proofs.lemmas.Bool.Decides.{nat_tests}
use Rattle.std.specs.Prelude.{nat_lt, nat_le, ◌==◌}
use Rattle.std.proofs.lemmas.List.{reverse-append}
use Rattle.std.proofs.lemmas.List.Elements.{filter-append}
use Rattle.std.specs.List.{filter, list_all, list_any}
use Rattle.std.specs.Option.{option_and_then, option_map_or}
use Rattle.vme_model.specs.declared.boards.InterrupterRow.{InterrupterRow}
use Rattle.vme_model.specs.declared.boards.Row.{Row}
use Rattle.vme_model.specs.Accepted.{IsAccepted}
use Rattle.vme_model.specs.declared.sets.ChainId.{ChainId}
use Rattle.vme_model.specs.declared.sets.ChainId.TheVariants.{Iack}
use Rattle.vme_model.specs.Plan.{Plan, board, interrupts_on, is_active, last_active, up_to, upstream}
use Rattle.vme_model.specs.Rules.{bus_numbers}
use Rattle.vme_model.proofs.Below.{IsBelow}
use Rattle.vme_model.proofs.Bools.{same_number}
use Rattle.vme_model.proofs.Cycles.{chain_below, interrupts}
use Rattle.vme_model.proofs.Members.{found_row}
use Rattle.vme_model.proofs.Ranges.{IsRowInRange, in_range}
use Rattle.vme_bus.specs.Sets.{has}
use Rattle.vme_captures.proofs.BelowSlots.{some_below}
use Rattle.vme_standings.specs.declared.phases.GrantPhase.{GrantPhase}
use Rattle.vme_standings.specs.declared.phases.GrantPhase.TheVariants.{Idle, Granting, Held, Expired}
use Rattle.vme_standings.specs.declared.phases.GrantPhases.{GrantPhases}
use Rattle.vme_standings.specs.declared.interrupters.Interrupters.TheVariants.{OnLevel}
use Rattle.vme_standings.specs.declared.requests.Request.{Request}
use Rattle.vme_standings.specs.declared.requests.Request.TheVariants as request
use Rattle.vme_standings.specs.declared.requests.Requests.{Requests}
use Rattle.vme_standings.specs.declared.fronts.Fronts.{Fronts}
use Rattle.vme_standings.specs.Fronts.{place_of}
use Rattle.vme_standings.specs.Grants.{are_alike}
use Rattle.vme_standings.specs.Interrupters.{is_meant_at}
use Rattle.vme_standings.specs.Phases.{has_phase, is_in_table}
use Rattle.vme_standings.specs.RequestSets.{may_be}
use Rattle.vme_standings.specs.Slots.{EachSlot}
use Rattle.vme_standings.specs.Requests.{is_interrupter, is_on_level}
use Rattle.vme_standings.proofs.Tests.{both, never}
use Rattle.vme_probe.specs.declared.demands.Demand.{Demand}
use Rattle.vme_probe.specs.declared.demands.Test.{Test}
use Rattle.vme_probe.specs.Demands.{are_fronts_left, are_grants_left, are_requests_left, can_pull, can_stand, first_failing, interrupter_at, is_any_left, is_end_left, is_expired_left, is_front_left, is_granting_left, is_held_left, is_idle_left, is_phase_allowed, is_phase_left, is_pull_left, is_request_allowed, is_request_left, places}

pub or_cases : (a b : Bool) → (a || b) ≡ true → (a ≡ true) ⊎ (b ≡ true)
or_cases true b h = inl refl
or_cases false b h = inr h

-- ---- which condition is named

-- none is named only if each leaves something
pub one_left : (leaves : List Demand → Test → Bool) (before ds : List Demand) (d : Demand) → is_some (first_failing leaves before (d ∷ ds)) ≡ false
    → (leaves (before ++ d ∷ []) d.test ≡ true) × (is_some (first_failing leaves (before ++ d ∷ []) ds) ≡ false)
unfolding first_failing
one_left leaves before ds d h =
    elim (cases_Bool (leaves (before ++ d ∷ []) d.test)) [
      | inl q ↦ (q, rw q at h)
      | inr q ↦ absurd (never true refl (rw q at h))
    ]

pub nothing_fails : (leaves : List Demand → Test → Bool) (before : List Demand) → is_some (first_failing leaves before []) ≡ false
unfolding first_failing
nothing_fails leaves before = refl

-- so one is named if it would be wrong that each does
pub named_if : (o : Bool) → (o ≡ false → ⊥) → o ≡ true
named_if true h = refl
named_if false h = absurd (h refl)

-- ---- what passes among numbers

pub some_passes : {X : Type 0} (k t : X → Bool) (xs : List X) → list_all k xs ≡ true → list_any t xs ≡ true → (x : X) × (k x ≡ true) × (t x ≡ true)
some_passes k t [] all some = absurd (never false some refl)
some_passes k t (x ∷ xs) all some =
    let a = and_parts (k x) (list_all k xs) all in
    elim (or_cases (t x) (list_any t xs) some) [
      | inl q ↦ (x, a.0, q)
      | inr q ↦ some_passes k t xs a.1 q
    ]

-- a place among all, and a level among all
pub some_place : (t : ℕ → Bool) → list_any t places ≡ true → (s : ℕ) × (nat_lt s 22 ≡ true) × (t s ≡ true)
some_place t h = some_passes (λ s. nat_lt s 22) t places refl h

pub some_level : (t : ℕ → Bool) → list_any t bus_numbers ≡ true → (c : ℕ) × (nat_lt c 4 ≡ true) × (t c ≡ true)
some_level t h = some_passes (λ c. nat_lt c 4) t bus_numbers refl h

pub each_place : (t : ℕ → Bool) → list_all t places ≡ true → (s : ℕ) → 0 < s → s < 22 → t s ≡ true
each_place t h s from to =
    named_if (t s) (λ fails. never (list_all t (up_to 21)) (and_parts (t 0) (list_all t (up_to 21)) h).1 (some_below t 21 s (omega arith) (omega arith) fails))

-- ---- the phases of the grants

pub record PhaseLeft (p : Plan) (s : GrantPhases) (ds : List Demand) : Type 0 where
  pub phase : GrantPhase
  pub near : is_in_table phase ≡ true
  pub has : has_phase s phase ≡ true
  pub allowed : list_all (λ d. is_phase_allowed p phase d.test) ds ≡ true

left_at : (p : Plan) (s : GrantPhases) (ds : List Demand) (q : GrantPhase) → is_in_table q ≡ true → is_phase_left p s ds q ≡ true → PhaseLeft p s ds
left_at p s ds q near h =
    let k = and_parts (has_phase s q) (list_all (λ d. is_phase_allowed p q d.test) ds) h in
    record { phase = q; near = near; has = k.0; allowed = k.1 }

pub phase_left : (p : Plan) (s : GrantPhases) (ds : List Demand) → are_grants_left p s ds ≡ true → PhaseLeft p s ds
phase_left p s ds h = first (or_cases (is_idle_left p s ds || list_any (is_granting_left p s ds) bus_numbers || list_any (is_held_left p s ds) places) _ h)
  where
    idle : is_idle_left p s ds ≡ true → PhaseLeft p s ds
    idle k = let f = some_level (λ c. is_phase_left p s ds (Idle c)) k in left_at p s ds (Idle f.0) f.1 f.2

    granting : list_any (is_granting_left p s ds) bus_numbers ≡ true → PhaseLeft p s ds
    granting k =
        let f = some_level (is_granting_left p s ds) k in
        let g = some_place (λ t. is_phase_left p s ds (Granting f.0 t)) f.2 in
        left_at p s ds (Granting f.0 g.0) (both (nat_lt f.0 4) (nat_lt g.0 22) f.1 g.1) g.2

    held : list_any (is_held_left p s ds) places ≡ true → PhaseLeft p s ds
    held k =
        let f = some_place (is_held_left p s ds) k in
        let g = some_place (λ t. is_phase_left p s ds (Held f.0 t)) f.2 in
        left_at p s ds (Held f.0 g.0) (both (nat_lt f.0 22) (nat_lt g.0 22) f.1 g.1) g.2

    expired : list_any (is_expired_left p s ds) bus_numbers ≡ true → PhaseLeft p s ds
    expired k =
        let f = some_level (is_expired_left p s ds) k in
        let g = some_place (λ t. is_phase_left p s ds (Expired f.0 t)) f.2 in
        left_at p s ds (Expired f.0 g.0) (both (nat_lt f.0 4) (nat_lt g.0 22) f.1 g.1) g.2

    third : (is_idle_left p s ds || list_any (is_granting_left p s ds) bus_numbers ≡ true) → PhaseLeft p s ds
    third k = elim (or_cases _ _ k) [ inl q ↦ idle q | inr q ↦ granting q ]

    second : (is_idle_left p s ds || list_any (is_granting_left p s ds) bus_numbers || list_any (is_held_left p s ds) places ≡ true) → PhaseLeft p s ds
    second k = elim (or_cases _ _ k) [ inl q ↦ third q | inr q ↦ held q ]

    first : (is_idle_left p s ds || list_any (is_granting_left p s ds) bus_numbers || list_any (is_held_left p s ds) places ≡ true) ⊎ (list_any (is_expired_left p s ds) bus_numbers ≡ true)
        → PhaseLeft p s ds
    first (inl k) = second k
    first (inr k) = expired k

-- ---- boards with an interrupter

pub record HasInterrupter (p : Plan) (n s : ℕ) : Type 0 where
  pub row : InterrupterRow
  pub found : interrupter_at p s ≡ Some row
  pub level : row.level ≡ n

pub interrupter_of : (p : Plan) (n s : ℕ) → is_on_level p n s ≡ true → HasInterrupter p n s
interrupter_of p n s on = of_board (board p s) refl
  where
    of_row : (r : Row) (o : Option InterrupterRow) → board p s ≡ Some r → r.interrupter ≡ o → option_map_or (λ i. i.level == n) o false ≡ true → HasInterrupter p n s
    of_row r None found has h = absurd (never false h refl)
    of_row r (Some i) found has h =
        record { row = i; found = ap (option_and_then (λ x. x.interrupter)) found ∙ has; level = same_number i.level n h }

    of_board : (o : Option Row) → board p s ≡ o → HasInterrupter p n s
    of_board None e = absurd (never false (subst (λ o. option_map_or (interrupts_on n) o false ≡ true) e on) refl)
    of_board (Some r) e = of_row r r.interrupter e refl (subst (λ o. option_map_or (interrupts_on n) o false ≡ true) e on)

-- the slot of a board
pub near_slot : (p : Plan) → IsAccepted p → (s : ℕ) (f : Row → Bool) → option_map_or f (board p s) false ≡ true → (0 < s) × (s < 22)
near_slot p ok s f on = of_board (board p s) refl
  where
    of_board : (o : Option Row) → board p s ≡ o → (0 < s) × (s < 22)
    of_board None e = absurd (never false (subst (λ o. option_map_or f o false ≡ true) e on) refl)
    of_board (Some r) e =
        let range = in_range p ok in
        let most = range.most in
        let f = found_row (IsRowInRange p) p.rows s r range.rows e in
        let same = f.slot in
        let from = f.fact.from_one in
        let to = f.fact.to_last in
        (omega (arith, same, from), omega (arith, same, to, most))

-- ---- the interrupt requests

pub implied : (a b : Bool) → (not a || b) ≡ true → a ≡ true → b ≡ true
implied true b h e = h
implied false b h e = absurd (never false e refl)

pub record RequestLeft (own : ℕ) (d : Requests) (ds : List Demand) (s : ℕ) : Type 0 where
  pub request : Request
  pub may : may_be d s request ≡ true
  pub allowed : list_all (λ x. is_request_allowed own s request x.test) ds ≡ true

pub request_left : (own : ℕ) (d : Requests) (ds : List Demand) (s : ℕ) → is_any_left own d ds s ≡ true → RequestLeft own d ds s
request_left own d ds s h = first (or_cases _ _ h)
  where
    at : (r : Request) → is_request_left own d ds s r ≡ true → RequestLeft own d ds s
    at r k = let l = and_parts (may_be d s r) (list_all (λ x. is_request_allowed own s r x.test) ds) k in record { request = r; may = l.0; allowed = l.1 }

    second : (is_request_left own d ds s request.Pending ≡ true) ⊎ (is_request_left own d ds s request.Served ≡ true) → RequestLeft own d ds s
    second (inl k) = at request.Pending k
    second (inr k) = at request.Served k

    first : (is_request_left own d ds s request.High ≡ true) ⊎ (is_pull_left own d ds s ≡ true) → RequestLeft own d ds s
    first (inl k) = at request.High k
    first (inr k) = second (or_cases _ _ k)

-- what is left of the request of a board of the level
pub request_of_level : (p : Plan) (own : ℕ) (low : Bool) (d : Requests) (ds : List Demand) (n : ℕ) → are_requests_left p own low d ds n ≡ true
    → (s : ℕ) → 0 < s → s < 22 → is_on_level p n s ≡ true → RequestLeft own d ds s
request_of_level p own low d ds n h s from to on =
    let all = (and_parts (list_all (can_stand p own d ds n) places) (not low || list_any (can_pull p own d ds n) places) h).0 in
    request_left own d ds s (implied (is_meant_at (OnLevel n) p s) (is_any_left own d ds s) (each_place (can_stand p own d ds n) all s from to) on)

-- ---- the acknowledge chain

alike_true : (a : Bool) → are_alike a true ≡ true → a ≡ true
alike_true true h = refl
alike_true false h = h

alike_false : (a : Bool) → are_alike a false ≡ true → a ≡ false
alike_false true h = sym h
alike_false false h = refl

-- low segments end at a place that conditions leave
pub record EndLeft (f : Fronts) (ds : List Demand) : Type 0 where
  pub end : ℕ
  pub near : end < 22
  pub has : has f.ends end ≡ true
  pub allowed : is_front_left ds (Some end) ≡ true

pub end_left : (f : Fronts) (ds : List Demand) → is_front_left ds None ≡ false → are_fronts_left f ds ≡ true → EndLeft f ds
end_left f ds low h = by_case (or_cases (f.waiting && is_front_left ds None) (list_any (is_end_left f ds) places) h)
  where
    by_case : ((f.waiting && is_front_left ds None) ≡ true) ⊎ (list_any (is_end_left f ds) places ≡ true) → EndLeft f ds
    by_case (inl k) = absurd (never (is_front_left ds None) (and_parts f.waiting (is_front_left ds None) k).1 low)
    by_case (inr k) =
        let e = some_place (is_end_left f ds) k in
        let l = and_parts (has f.ends e.0) (is_front_left ds (Some e.0)) e.2 in
        record { end = e.0; near = let near = e.1 in grind (arith, nat_tests); has = l.0; allowed = l.1 }

pub reaches : (place end : ℕ) → are_alike (nat_le place end) true ≡ true → place ≤ end
reaches place end h = let low = alike_true (nat_le place end) h in grind (arith, nat_tests)

pub ends_before : (place end : ℕ) → are_alike (nat_le place end) false ≡ true → end < place
ends_before place end h = let high = alike_false (nat_le place end) h in grind (arith, nat_tests)

-- the last board that works a chain is the greatest below the end
last_below : (test : ℕ → Bool) (n : ℕ) → n < 22 → find (λ s. true) (reverse (filter test (up_to n))) ≡ find (λ t. nat_lt t 22) (reverse (filter test (up_to n)))
last_below test zero near = refl
last_below test (suc n) near =
    subst (λ xs. find (λ s. true) xs ≡ find (λ t. nat_lt t 22) xs)
    (sym (ap reverse (filter-append test (up_to n) (suc n ∷ [])) ∙ reverse-append (filter test (up_to n)) (filter test (suc n ∷ []))))
    (elim (cases_Bool (test (suc n))) [
      | inl e ↦ rw (e, (let is : nat_lt (suc n) 22 ≡ true = grind (arith, nat_tests) in is)) refl
      | inr e ↦ rw e (last_below test n (omega arith))
    ])

pub last_is_upstream : (p : Plan) → IsAccepted p → (c : ChainId) → last_active p c ≡ upstream p c 22
last_is_upstream p ok c = last_below (is_active p.rows c) p.slots (let most = (in_range p ok).most in omega (arith, most))

-- Low segments that end before a board, and not before its input, end there.
pub ends_at_input : (p : Plan) → IsAccepted p → (f : Fronts) → EachSlot (λ t. has f.ends t ≡ true → is_interrupter p t ≡ true)
    → (s end : ℕ) → end < 22 → place_of (upstream p Iack s) ≤ end → end < s → has f.ends end ≡ true → has f.ends (place_of (upstream p Iack s)) ≡ true
ends_at_input p ok f ends s end near from to there = at (upstream p Iack s) (chain_below p (in_range p ok) s) from
  where
    at : (o : Option ℕ) → IsBelow (interrupts p) s o → place_of o ≤ end → has f.ends (place_of o) ≡ true
    at None none low =
        let zero_end : end ≡ 0 = first end refl in subst (λ e. has f.ends e ≡ true) zero_end there
      where
        first : (e : ℕ) → end ≡ e → end ≡ 0
        first zero is = is
        first (suc e) is = absurd (none end (ends end (omega (arith, is)) near there) to)
    at (Some u) great low = first end refl
      where
        first : (e : ℕ) → end ≡ e → has f.ends u ≡ true
        first zero is = subst (λ e. has f.ends e ≡ true) (omega (arith, is, low)) there
        first (suc e) is =
            let most = great.greatest end (ends end (omega (arith, is)) near there) to in
            subst (λ e. has f.ends e ≡ true) (omega (arith, most, low)) there
