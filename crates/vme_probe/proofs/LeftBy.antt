-- What conditions that a bus meets leave of what covers it, and which condition is named: `condition_laws`.
use Rattle.std.proofs.Common.{◌≡◌, ◌∙◌, ◌⊎◌, ◌&&◌, ◌||◌, ◌<◌, ℕ, zero, suc, Bool, true, false, not, List, [], ◌∷◌, ◌++◌, Option, Some, None, refl, sym, ap, subst, ⊎_elim, arith}
use Rattle.std.proofs.lemmas.Bool.{and_parts}
use Rattle.std.proofs.lemmas.Bool.Decides.{nat_tests}
use Rattle.std.specs.Prelude.{◌==◌, if◌then◌else◌, nat_lt, nat_le}
use Rattle.std.specs.List.{list_all, list_any}
use Rattle.std.specs.Option.{option_and_then, option_map_or}
use Rattle.vme_model.specs.declared.boards.InterrupterRow.{InterrupterRow}
use Rattle.vme_model.specs.declared.boards.Row.{Row}
use Rattle.vme_model.specs.declared.sets.ChainId.TheVariants.{Iack}
use Rattle.vme_model.specs.declared.signals.Driver.TheVariants.{Slot}
use Rattle.vme_model.specs.declared.signals.Edge.{Edge}
use Rattle.vme_model.specs.declared.signals.Version.{Version}
use Rattle.vme_model.specs.declared.signals.Wire.TheVariants as wire
use Rattle.vme_model.specs.Accepted.{IsAccepted}
use Rattle.vme_model.specs.History.{interrupt_line, line, pulls_interrupt, segment}
use Rattle.vme_model.specs.Plan.{Plan, board, interrupts_on}
use Rattle.vme_model.specs.Readings.{is_served}
use Rattle.vme_model.specs.Rules.{bus_numbers}
use Rattle.vme_model.specs.Settling.{is_chain_clear}
use Rattle.vme_model.specs.Verdict.{IsLegal}
use Rattle.vme_model.proofs.Members.{some_row}
use Rattle.vme_model.proofs.Ranges.{IsRowInRange, in_range}
use Rattle.vme_bus.specs.Sets.{has}
use Rattle.vme_captures.specs.declared.signals.Pin.{Pin}
use Rattle.vme_captures.proofs.BelowSlots.{all_below}
use Rattle.vme_standings.specs.declared.interrupters.Interrupters.TheVariants.{OnLevel}
use Rattle.vme_standings.specs.declared.phases.GrantPhase.{GrantPhase}
use Rattle.vme_standings.specs.declared.phases.GrantPhase.TheVariants.{Idle, Granting, Held, Expired}
use Rattle.vme_standings.specs.declared.phases.GrantPhases.{GrantPhases}
use Rattle.vme_standings.specs.declared.requests.Request.{Request}
use Rattle.vme_standings.specs.declared.requests.Request.TheVariants as request
use Rattle.vme_standings.specs.declared.requests.Requests.{Requests}
use Rattle.vme_standings.specs.declared.standings.Standings.{Standings}
use Rattle.vme_standings.specs.Covers.{Covers}
use Rattle.vme_standings.specs.Cuts.{is_so}
use Rattle.vme_standings.specs.FrontCovers.{HasComeTo}
use Rattle.vme_standings.specs.Fronts.{place_of}
use Rattle.vme_standings.specs.Grants.{are_alike, is_clear_due}
use Rattle.vme_standings.specs.Interrupters.{is_meant_at, is_on_low_line}
use Rattle.vme_standings.specs.Phases.{has_phase, is_in_table}
use Rattle.vme_standings.specs.RequestSets.{may_be}
use Rattle.vme_standings.specs.Requests.{is_interrupter, is_on_level, request_by, request_of}
use Rattle.vme_standings.proofs.FrontSteps.{board_high, head_high}
use Rattle.vme_standings.proofs.GrantOthers.{in_table}
use Rattle.vme_standings.proofs.JoinedHidden.{low_line_is}
use Rattle.vme_standings.proofs.RequestLaws.{interrupter_in}
use Rattle.vme_standings.proofs.RequestRows.{interrupts_there}
use Rattle.vme_standings.proofs.Tests.{both, never, or_left, or_true}
use Rattle.vme_probe.specs.declared.demands.Demand.{Demand}
use Rattle.vme_probe.specs.declared.demands.Test.{Test}
use Rattle.vme_probe.specs.declared.demands.Test.TheVariants.{Known, Grants, ClearNotDue, Chain, Requests as OfRequests}
use Rattle.vme_probe.specs.declared.obstacles.Obstacle.{Obstacle}
use Rattle.vme_probe.specs.Demands.{are_fronts_left, are_grants_left, are_requests_left, can_pull, can_stand, first_failing, interrupter_at, is_any_left, is_chain_low, is_end_left, is_expired_left, is_front_allowed, is_front_left, is_granting_left, is_held_left, is_idle_left, is_left, is_phase_allowed, is_phase_left, is_pull_left, is_request_allowed, is_request_left, passes_requests, places}
use Rattle.vme_probe.proofs.Leaving.{each_place}

-- ---- the condition that is named

pub record IsFirst (leaves : List Demand → Test → Bool) (before ds : List Demand) (o : Obstacle) : Type 0 where
  pub above : List Demand
  pub named : Demand
  pub below : List Demand
  pub are : ds ≡ above ++ named ∷ below
  pub is : named.obstacle ≡ o
  pub fails : leaves (before ++ (above ++ named ∷ [])) named.test ≡ false

appended : {A : Type 0} (xs : List A) (x : A) (ys : List A) → (xs ++ x ∷ []) ++ ys ≡ xs ++ x ∷ ys
appended [] x ys = refl
appended (y ∷ xs) x ys = ap (λ zs. y ∷ zs) (appended xs x ys)

same_some : (a b : Obstacle) → Some a ≡ Some b → a ≡ b
same_some a b e = cc

pub first_is : (leaves : List Demand → Test → Bool) (before ds : List Demand) (o : Obstacle) → first_failing leaves before ds ≡ Some o → IsFirst leaves before ds o
unfolding first_failing
first_is leaves before [] o h = absurd (cc)
first_is leaves before (d ∷ ds) o h = by_test (leaves (before ++ d ∷ []) d.test) refl h (λ e. first_is leaves (before ++ d ∷ []) ds o e)
  where
    by_test : (b : Bool) → leaves (before ++ d ∷ []) d.test ≡ b → (if b then first_failing leaves (before ++ d ∷ []) ds else Some d.obstacle) ≡ Some o
        → (first_failing leaves (before ++ d ∷ []) ds ≡ Some o → IsFirst leaves (before ++ d ∷ []) ds o) → IsFirst leaves before (d ∷ ds) o
    by_test true left e next =
        let f = next e in
        record {
          above = d ∷ f.above;
          named = f.named;
          below = f.below;
          are = ap (λ xs. d ∷ xs) f.are;
          is = f.is;
          fails = subst (λ xs. leaves xs f.named.test ≡ false) (appended before d (f.above ++ f.named ∷ [])) f.fails;
        }
    by_test false left e next = record { above = []; named = d; below = ds; are = refl; is = same_some d.obstacle o e; fails = left }

-- ---- one of several passes

none_pass : (t : ℕ → Bool) (xs : List ℕ) → list_any t xs ≡ false → list_all (λ x. not (t x)) xs ≡ true
none_pass t [] h = refl
none_pass t (x ∷ xs) h = by_test (t x) h (λ k. none_pass t xs k)
  where
    by_test : (b : Bool) → (b || list_any t xs) ≡ false → (list_any t xs ≡ false → list_all (λ y. not (t y)) xs ≡ true) → (not b && list_all (λ y. not (t y)) xs) ≡ true
    by_test true k next = absurd (never true refl k)
    by_test false k next = next k

-- the places up to one of them
some_of : (t : ℕ → Bool) (xs : List ℕ) → (list_any t xs ≡ false → ⊥) → list_any t xs ≡ true
some_of t xs h = by_test (list_any t xs) refl
  where
    by_test : (b : Bool) → list_any t xs ≡ b → list_any t xs ≡ true
    by_test true e = e
    by_test false e = absurd (h e)

place_any : (t : ℕ → Bool) (s : ℕ) → s < 22 → t s ≡ true → list_any t places ≡ true
place_any t s near is = some_of t places (λ none. at s near is (none_pass t places none))
  where
    at : (x : ℕ) → x < 22 → t x ≡ true → list_all (λ y. not (t y)) places ≡ true → ⊥
    at zero less on all = never (not (t 0)) (and_parts (not (t 0)) _ all).0 (off (t 0) on)
      where
        off : (b : Bool) → b ≡ true → not b ≡ false
        off b e = grind arith
    at (suc x) less on all = never (not (t (suc x))) (each_place (λ y. not (t y)) all (suc x) (omega arith) less) (off (t (suc x)) on)
      where
        off : (b : Bool) → b ≡ true → not b ≡ false
        off b e = grind arith

level_any : (t : ℕ → Bool) (c : ℕ) → nat_lt c 4 ≡ true → t c ≡ true → list_any t bus_numbers ≡ true
level_any t zero few is = or_left (t 0) _ is
level_any t (suc zero) few is = or_true (t 0) _ (or_left (t 1) _ is)
level_any t (suc (suc zero)) few is = or_true (t 0) _ (or_true (t 1) _ (or_left (t 2) _ is))
level_any t (suc (suc (suc zero))) few is = or_true (t 0) _ (or_true (t 1) _ (or_true (t 2) _ (or_left (t 3) _ is)))
level_any t (suc (suc (suc (suc c)))) few is = absurd (grind (arith, nat_tests))

below_22 : (a : ℕ) → nat_lt a 22 ≡ true → a < 22
below_22 a e = grind (arith, nat_tests)

-- ---- the parts

-- a phase that all these conditions leave
grants_left : (p : Plan) (set : GrantPhases) (ds : List Demand) (q : GrantPhase) → is_in_table q ≡ true → is_phase_left p set ds q ≡ true → are_grants_left p set ds ≡ true
grants_left p set ds (Idle c) near left =
    or_left _ _ (or_left _ _ (or_left _ _ (level_any (λ n. is_phase_left p set ds (Idle n)) c near left)))
grants_left p set ds (Granting c last) near left =
    let n = and_parts (nat_lt c 4) (nat_lt last 22) near in
    or_left _ _ (or_left _ _ (or_true (is_idle_left p set ds) _ (level_any (is_granting_left p set ds) c n.0
    (place_any (λ t. is_phase_left p set ds (Granting c t)) last (below_22 last n.1) left))))
grants_left p set ds (Held b first) near left =
    let n = and_parts (nat_lt b 22) (nat_lt first 22) near in
    or_left _ _ (or_true (is_idle_left p set ds || list_any (is_granting_left p set ds) bus_numbers) _ (place_any (is_held_left p set ds) b (below_22 b n.0)
    (place_any (λ t. is_phase_left p set ds (Held b t)) first (below_22 first n.1) left)))
grants_left p set ds (Expired c first) near left =
    let n = and_parts (nat_lt c 4) (nat_lt first 22) near in
    or_true (is_idle_left p set ds || list_any (is_granting_left p set ds) bus_numbers || list_any (is_held_left p set ds) places) _ (level_any (is_expired_left p set ds) c n.0
    (place_any (λ t. is_phase_left p set ds (Expired c t)) first (below_22 first n.1) left))

any_request : (own : ℕ) (d : Requests) (ds : List Demand) (s : ℕ) (r : Request) → is_request_left own d ds s r ≡ true → is_any_left own d ds s ≡ true
any_request own d ds s request.High left = or_left _ _ left
any_request own d ds s request.Pending left = or_true (is_request_left own d ds s request.High) _ (or_left _ _ left)
any_request own d ds s request.Served left = or_true (is_request_left own d ds s request.High) _ (or_true (is_request_left own d ds s request.Pending) _ left)

pull_request : (own : ℕ) (d : Requests) (ds : List Demand) (s : ℕ) (served : Bool) → is_request_left own d ds s (request_by true served) ≡ true → is_pull_left own d ds s ≡ true
pull_request own d ds s false left = or_left _ _ left
pull_request own d ds s true left = or_true (is_request_left own d ds s request.Pending) _ left

-- the interrupter of a board
pub on_level_of : (p : Plan) (s : ℕ) (i : InterrupterRow) → interrupter_at p s ≡ Some i → is_on_level p i.level s ≡ true
on_level_of p s i found = by_board (board p s) found
  where
    self : (n : ℕ) → (n == n) ≡ true
    self n = grind (arith, nat_tests)

    by_row : (o : Option InterrupterRow) → o ≡ Some i → option_map_or (λ x. x.level == i.level) o false ≡ true
    by_row o e = ap (λ (x : Option InterrupterRow). option_map_or (λ y. y.level == i.level) x false) e ∙ self i.level

    by_board : (o : Option Row) → option_and_then (λ r. r.interrupter) o ≡ Some i → option_map_or (interrupts_on i.level) o false ≡ true
    by_board None e = absurd (cc)
    by_board (Some r) e = by_row r.interrupter e

-- ---- what a bus meets

module _ (p : Plan) (ok : IsAccepted p) (version : Version) (pins : List Pin) (h : List Edge) (legal : IsLegal version p h) (st : Standings) (covers : Covers p pins h st) where
  -- the phase in which the bus is
  abbrev pub now : GrantPhase
  now = covers.phases.phase

  -- the end of the low segments of the acknowledge chain
  abbrev pub is_there : Option ℕ → Bool
  is_there None = st.fronts.waiting
  is_there (Some e) = nat_lt e 22 && has st.fronts.ends e

  -- the segment is the controller's, or that of a board with an interrupter
  abbrev pub is_segment_of : Option ℕ → Bool
  is_segment_of None = true
  is_segment_of (Some s) = is_interrupter p s

  pub record Front : Type 0 where
    pub end : Option ℕ
    pub there : line p h wire.AddressStrobe ≡ true → is_there end ≡ true
    pub stands : line p h wire.AddressStrobe ≡ true → (o : Option ℕ) → is_segment_of o ≡ true → segment h Iack o ≡ is_chain_low end (place_of o)

  pub front : Front
  front = by_strobe (line p h wire.AddressStrobe) refl
    where
      is_near : (a : ℕ) → a < 22 → nat_lt a 22 ≡ true
      is_near a less = grind (arith, nat_tests)

      head : (e : ℕ) → true ≡ nat_le 0 e
      head e = grind (arith, nat_tests)

      place_near : (e : ℕ) → (e ≡ 0) ⊎ (is_interrupter p e ≡ true) → e < 22
      place_near e x = ⊎_elim (λ (z : e ≡ 0). omega (arith, z)) (λ (on : is_interrupter p e ≡ true). (interrupter_in p ok e on).near) x

      come : (e : ℕ) → HasComeTo p h e → has st.fronts.ends e ≡ true → Front
      come e c held = record {
        end = Some e;
        there = λ _. both (nat_lt e 22) (has st.fronts.ends e) (is_near e (place_near e c.exists)) held;
        stands = λ _ o is. by_place o is;
      }
        where
          by_place : (o : Option ℕ) → is_segment_of o ≡ true → segment h Iack o ≡ is_chain_low (Some e) (place_of o)
          by_place None is = c.begun ∙ head e
          by_place (Some s) is = c.passed s is

      waits : is_chain_clear p h Iack ≡ true → st.fronts.waiting ≡ true → Front
      waits clear held = record {
        end = None;
        there = λ _. held;
        stands = λ _ o is. by_place o is;
      }
        where
          by_place : (o : Option ℕ) → is_segment_of o ≡ true → segment h Iack o ≡ false
          by_place None is = head_high p ok h clear
          by_place (Some s) is = board_high p ok h clear s is

      by_strobe : (b : Bool) → line p h wire.AddressStrobe ≡ b → Front
      by_strobe false high = record { end = None; there = λ low. absurd (never _ low high); stands = λ low o is. absurd (never _ low high) }
      by_strobe true low = ⊎_elim
          (λ (x : (is_chain_clear p h Iack ≡ true) × (st.fronts.waiting ≡ true)). waits x.0 x.1)
          (λ (x : (place : ℕ) × HasComeTo p h place × (has st.fronts.ends place ≡ true)). come x.0 x.1 x.2)
          (covers.fronts low)

  -- the bus meets what a condition asks, for the driver of a slot
  abbrev pub Meets : ℕ → Test → Type 0
  Meets own (Known b) = b ≡ true
  Meets own (Grants fact) = is_so p fact now ≡ true
  Meets own (ClearNotDue asked) = not (is_clear_due p asked now) ≡ true
  Meets own (Chain place low) = (line p h wire.AddressStrobe ≡ true) × (are_alike (is_chain_low front.end place) low ≡ true)
  Meets own (OfRequests t) = (i : InterrupterRow) × (interrupter_at p own ≡ Some i) × ((s : ℕ) → is_on_level p i.level s ≡ true → passes_requests own t s (request_of p h s) ≡ true)

  abbrev pub AllMet : ℕ → List Demand → Type 0
  AllMet own [] = Unit {0}
  AllMet own (d ∷ ds) = Meets own d.test × AllMet own ds

  module _ (own : ℕ) where
    phase_allowed : (t : Test) → Meets own t → is_phase_allowed p now t ≡ true
    phase_allowed (Known b) m = refl
    phase_allowed (Grants fact) m = m
    phase_allowed (ClearNotDue asked) m = m
    phase_allowed (Chain place low) m = refl
    phase_allowed (OfRequests t) m = refl

    front_allowed : (t : Test) → Meets own t → is_front_allowed front.end t ≡ true
    front_allowed (Known b) m = refl
    front_allowed (Grants fact) m = refl
    front_allowed (ClearNotDue asked) m = refl
    front_allowed (Chain place low) m = m.1
    front_allowed (OfRequests t) m = refl

    same_row : (a b : InterrupterRow) → Some a ≡ Some b → a ≡ b
    same_row a b e = cc

    request_allowed : (i : InterrupterRow) → interrupter_at p own ≡ Some i → (s : ℕ) → is_on_level p i.level s ≡ true → (t : Test) → Meets own t → is_request_allowed own s (request_of p h s) t ≡ true
    request_allowed i found s on (Known b) m = refl
    request_allowed i found s on (Grants fact) m = refl
    request_allowed i found s on (ClearNotDue asked) m = refl
    request_allowed i found s on (Chain place low) m = refl
    request_allowed i found s on (OfRequests t) m = m.2 s (subst (λ (x : InterrupterRow). is_on_level p x.level s ≡ true) (same_row i m.0 (sym found ∙ m.1)) on)

    phases_allowed : (ds : List Demand) → AllMet own ds → list_all (λ d. is_phase_allowed p now d.test) ds ≡ true
    phases_allowed [] m = refl
    phases_allowed (d ∷ ds) m = both _ _ (phase_allowed d.test m.0) (phases_allowed ds m.1)

    fronts_allowed : (ds : List Demand) → AllMet own ds → is_front_left ds front.end ≡ true
    fronts_allowed [] m = refl
    fronts_allowed (d ∷ ds) m = both _ _ (front_allowed d.test m.0) (fronts_allowed ds m.1)

    requests_allowed : (i : InterrupterRow) → interrupter_at p own ≡ Some i → (s : ℕ) → is_on_level p i.level s ≡ true → (ds : List Demand) → AllMet own ds
        → list_all (λ d. is_request_allowed own s (request_of p h s) d.test) ds ≡ true
    requests_allowed i found s on [] m = refl
    requests_allowed i found s on (d ∷ ds) m = both _ _ (request_allowed i found s on d.test m.0) (requests_allowed i found s on ds m.1)

    -- the phase of the bus is left
    grants_stay : (ds : List Demand) → AllMet own ds → are_grants_left p st.phases ds ≡ true
    grants_stay ds m =
        grants_left p st.phases ds now (in_table version p ok h legal now covers.phases.is_in)
        (both (has_phase st.phases now) _ covers.phases.member (phases_allowed ds m))

    -- and the end of the low segments
    fronts_stay : (ds : List Demand) → line p h wire.AddressStrobe ≡ true → AllMet own ds → are_fronts_left st.fronts ds ≡ true
    fronts_stay ds low m = by_end front.end (front.there low) (fronts_allowed ds m)
      where
        by_end : (o : Option ℕ) → is_there o ≡ true → is_front_left ds o ≡ true → are_fronts_left st.fronts ds ≡ true
        by_end None held left = or_left _ _ (both st.fronts.waiting (is_front_left ds None) held left)
        by_end (Some e) held left =
            let k = and_parts (nat_lt e 22) (has st.fronts.ends e) held in
            or_true (st.fronts.waiting && is_front_left ds None) _ (place_any (is_end_left st.fronts ds) e (below_22 e k.0) (both (has st.fronts.ends e) (is_front_left ds (Some e)) k.1 left))

    -- and the requests on the line of the driver's board
    module _ (ds : List Demand) (m : AllMet own ds) (i : InterrupterRow) (found : interrupter_at p own ≡ Some i) where
      stays : (s : ℕ) → is_on_level p i.level s ≡ true → is_request_left own st.requests ds s (request_of p h s) ≡ true
      stays s on = both (may_be st.requests s (request_of p h s)) _ (covers.requests s (interrupts_there p i.level s on)) (requests_allowed i found s on ds m)

      stands_so : (s : ℕ) → can_stand p own st.requests ds i.level s ≡ true
      stands_so s = by_level (is_on_level p i.level s) refl
        where
          implied : (a b : Bool) → a ≡ false → (not a || b) ≡ true
          implied a b e = grind arith

          by_level : (b : Bool) → is_on_level p i.level s ≡ b → can_stand p own st.requests ds i.level s ≡ true
          by_level false off = implied (is_meant_at (OnLevel i.level) p s) _ off
          by_level true on = or_true (not (is_meant_at (OnLevel i.level) p s)) _ (any_request own st.requests ds s (request_of p h s) (stays s on))

      pulls_so : interrupt_line p h i.level ≡ true → list_any (can_pull p own st.requests ds i.level) places ≡ true
      pulls_so low =
          let r = some_row (pulls_interrupt h i.level) (IsRowInRange p) p.rows (in_range p ok).rows low in
          let t = and_parts (interrupts_on i.level r.0) _ r.1 in
          let on : is_on_level p i.level r.0.slot ≡ true = ap (λ o. option_map_or (interrupts_on i.level) o false) r.2.alone ∙ t.0 in
          place_any (can_pull p own st.requests ds i.level) r.0.slot (interrupter_in p ok r.0.slot (interrupts_there p i.level r.0.slot on)).near
          (both (is_meant_at (OnLevel i.level) p r.0.slot) _ on
          (pull_request own st.requests ds r.0.slot (is_served p h (Slot r.0.slot))
          (subst (λ b. is_request_left own st.requests ds r.0.slot (request_by b (is_served p h (Slot r.0.slot))) ≡ true) t.1 (stays r.0.slot on))))

      requests_stay : are_requests_left p own (is_on_low_line st.lines p own) st.requests ds i.level ≡ true
      requests_stay =
          both (list_all (can_stand p own st.requests ds i.level) places) _
          (both (can_stand p own st.requests ds i.level 0) _ (stands_so 0) (all_below (can_stand p own st.requests ds i.level) 21 (λ k low high. stands_so k)))
          (by_line (interrupt_line p h i.level) refl)
        where
          same : is_on_low_line st.lines p own ≡ interrupt_line p h i.level
          same = low_line_is p ok h st.lines covers.levels.shared i.level own (on_level_of p own i found)

          off_line : (a b c : Bool) → a ≡ b → b ≡ false → (not a || c) ≡ true
          off_line a b c e f = grind arith

          by_line : (b : Bool) → interrupt_line p h i.level ≡ b → (not (is_on_low_line st.lines p own) || list_any (can_pull p own st.requests ds i.level) places) ≡ true
          by_line false high = off_line (is_on_low_line st.lines p own) (interrupt_line p h i.level) _ same high
          by_line true low = or_true (not (is_on_low_line st.lines p own)) _ (pulls_so low)

    -- so the last of conditions that the bus meets leaves something
    pub left_by : (ds : List Demand) → AllMet own ds → (t : Test) → Meets own t → is_left p st own ds t ≡ true
    left_by ds m (Known b) t = t
    left_by ds m (Grants fact) t = grants_stay ds m
    left_by ds m (ClearNotDue asked) t = grants_stay ds m
    left_by ds m (Chain place low) t = fronts_stay ds t.0 m
    left_by ds m (OfRequests r) t = rw t.1 (requests_stay ds m t.0 t.1)

  -- Each condition that holds, and above which all hold, is met.
  abbrev pub Tells : (Obstacle → Bool) → ℕ → List Demand → Type 0
  Tells holds own [] = Unit {0}
  Tells holds own (d ∷ ds) = holds d.obstacle ≡ true → Meets own d.test × Tells holds own ds

  module _ (holds : Obstacle → Bool) (own : ℕ) where
    met_above : (above : List Demand) (d : Demand) (below : List Demand) → Tells holds own (above ++ d ∷ below) → list_all (λ x. holds x.obstacle) (above ++ d ∷ []) ≡ true
        → AllMet own (above ++ d ∷ []) × Meets own d.test
    met_above [] d below tells all =
        let t = (tells (and_parts (holds d.obstacle) true all).0).0 in
        ((t, tt), t)
    met_above (x ∷ above) d below tells all =
        let a = and_parts (holds x.obstacle) (list_all (λ y. holds y.obstacle) (above ++ d ∷ [])) all in
        let t = tells a.0 in
        let r = met_above above d below t.1 a.1 in
        ((t.0, r.0), r.1)

    pub never_first : (ds : List Demand) → Tells holds own ds → (o : Obstacle) (f : IsFirst (is_left p st own) [] ds o) → list_all (λ x. holds x.obstacle) (f.above ++ f.named ∷ []) ≡ true → ⊥
    never_first ds tells o f all =
        let m = met_above f.above f.named f.below (subst (Tells holds own) f.are tells) all in
        never _ (left_by own (f.above ++ f.named ∷ []) m.0 f.named.test m.1) f.fails
