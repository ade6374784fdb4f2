-- The phase of the grants after a legal list.
use Rattle.std.proofs.Common.{◌≡◌, ◌⊎◌, ℕ, zero, suc, ◌<◌, Bool, true, false, List, [], ◌∷◌, Option, Some, None, refl, sym, ap, ◌∙◌, subst, arith, inl, inr}
use Rattle.std.specs.Prelude.{◌&&◌, ◌||◌, not, nat_lt, reverse, find}
use Rattle.std.specs.List.{list_any, list_all}
use Rattle.std.specs.Option.{option_map_or}
use Rattle.std.proofs.lemmas.Bool.Decides.{nat_tests}
use Rattle.vme_model.specs.declared.boards.Row.{Row}
use Rattle.vme_model.specs.declared.signals.Version.{Version}
use Rattle.vme_model.specs.declared.signals.Edge.{Edge}
use Rattle.vme_model.specs.declared.signals.Cycle.{Cycle}
use Rattle.vme_model.specs.declared.signals.Driver.{Driver}
use Rattle.vme_model.specs.declared.signals.Driver.TheVariants.{Controller, Slot}
use Rattle.vme_model.specs.declared.signals.Wire.{Wire}
use Rattle.vme_model.specs.declared.signals.Wire.TheVariants.{Bg, Br, BgOut, Bbsy}
use Rattle.vme_model.specs.Signals.{is_two}
use Rattle.vme_model.specs.Plan.{Plan, requests_on, upstream, last_active, grant_chain}
use Rattle.vme_model.specs.History.{drive, pulls_line, line, pulls_request, request_line, segment, last_level, is_past_end}
use Rattle.vme_model.specs.Readings.{grant_in}
use Rattle.vme_model.specs.Settling.{are_grants_through}
use Rattle.vme_model.specs.Verdict.{IsLegal}
use Rattle.vme_model.specs.GrantSafety.{last_granted, was_taken, grant_passes, was_withdrawn}
use Rattle.vme_model.proofs.Bools.{and_left, and_right, not_true, is_false}
use Rattle.vme_model.proofs.Below.{IsBelow, is_below, last_of}
use Rattle.vme_model.proofs.Ranges.{IsRowInRange, IsInRange}
use Rattle.vme_model.proofs.Members.{on, some_row, one_chain, within, line_low, found_row, has_board, is_at, active_is, HasLevel, level_of}
use Rattle.vme_model.proofs.GrantPhases.{GrantWires, Phased, Idle, segment_of, IsAt, HasPassed, grant_falls, grant_rises, asks, asks_no_more, passes_on, rises, takes, releases}
use Rattle.vme_model.proofs.Picks.{laws_of, at_four}
use Rattle.vme_model.proofs.AllowedEdges.{Passed, all_passed, sets_slot, sets_level}

-- what the lemmas on phases read of a history
abbrev pub grant_wires : Plan → List Edge → GrantWires
grant_wires p h = record {
  bg = λ n. drive h Controller (Bg n);
  out = λ s. drive h (Slot s) BgOut;
  busy = λ s. drive h (Slot s) Bbsy;
  br = λ s. drive h (Slot s) Br;
  granted = last_granted h;
  taken = was_taken h;
  passers = grant_passes h;
  withdrawn = was_withdrawn p h;
}

-- a list of edges is in one of the phases
abbrev pub Now : Version → Plan → List Edge → Type 0
Now version p h = Phased (on p) p.slots (is_two version) (grant_wires p h)

-- the bus is free if BBSY* is high
pub all_free : (p : Plan) → IsInRange p → (h : List Edge) → line p h Bbsy ≡ false → (m s : ℕ) → on p m s ≡ true → drive h (Slot s) Bbsy ≡ false
all_free p range h e m s o = is_false (drive h (Slot s) Bbsy) (λ b. cc (e, line_low p range h m s o b))

-- somebody holds the bus if BBSY* is low
pub holder : (p : Plan) → IsInRange p → (h : List Edge) → line p h Bbsy ≡ true → (s : ℕ) × (drive h (Slot s) Bbsy ≡ true)
holder p range h e =
    let r = some_row (pulls_line h Bbsy) (IsRowInRange p) p.rows range.rows e in
    (r.0.slot, and_right _ _ r.1)

-- somebody waits if a request line is low
waiter : (p : Plan) → IsInRange p → (h : List Edge) (n : ℕ) → request_line p h n ≡ true → (s : ℕ) × (on p n s ≡ true) × (drive h (Slot s) Br ≡ true)
waiter p range h n e =
    let r = some_row (pulls_request h n) (IsRowInRange p) p.rows range.rows e in
    (r.0.slot, ap (λ x. option_map_or (requests_on n) x false) r.2.alone ∙ and_left _ _ r.1, and_right (requests_on n r.0) _ r.1)

pub grants_high : (bg : ℕ → Bool) → list_all (λ n. not (bg n)) (0 ∷ 1 ∷ 2 ∷ 3 ∷ []) ≡ true → (m : ℕ) → m < 4 → bg m ≡ false
grants_high bg e m l = not_true (bg m) (at_four (λ n. not (bg n)) m l e)

is_less : (m n : ℕ) → nat_lt m n ≡ true → m < n
is_less m n h = grind (arith, nat_tests)

pub as_segment : (p : Plan) (h : List Edge) (n : ℕ) (found : Option ℕ) → n < 4 → segment h (grant_chain n) found ≡ segment_of (grant_wires p h) n found
as_segment p h zero None l = refl
as_segment p h zero (Some s) l = refl
as_segment p h (suc zero) None l = refl
as_segment p h (suc zero) (Some s) l = refl
as_segment p h (suc (suc zero)) None l = refl
as_segment p h (suc (suc zero)) (Some s) l = refl
as_segment p h (suc (suc (suc zero))) None l = refl
as_segment p h (suc (suc (suc zero))) (Some s) l = refl
as_segment p h (suc (suc (suc (suc n)))) found l = absurd (omega arith)

pub grant_is : (p : Plan) (h : List Edge) (s : ℕ) (l : HasLevel p h s) (b : Bool) → grant_in p h (Slot s) ≡ b → segment_of (grant_wires p h) l.level (upstream p (grant_chain l.level) s) ≡ b
grant_is p h s l b e = sym (as_segment p h l.level (upstream p (grant_chain l.level) s) l.in_range) ∙ (sym l.grant ∙ e)

pub place : (version : Version) (p : Plan) → IsInRange p → (h : List Edge) (s : ℕ) (l : HasLevel p h s) → IsAt (on p) p.slots (is_two version) l.level s (upstream p (grant_chain l.level) s)
place version p range h s l = is_at (is_two version) p range l.level s l.in_range l.member

when : (x y : Bool) → x ≡ false → (x || y) ≡ true → y ≡ true
when x y e f = grind arith

off : (x : Bool) → x ≡ true → not x ≡ false
off x e = grind arith

any_all : (f : Row → Bool) (rows : List Row) → list_any f rows ≡ true → list_all (λ r. not (f r)) rows ≡ true → ⊥
any_all f [] a b = cc
any_all f (row ∷ rows) a b = any_all f rows (when (f row) (list_any f rows) (not_true (f row) (and_left _ _ b)) a) (and_right (not (f row)) _ b)

-- every grant segment of a board is high
clear_now : (p : Plan) → IsInRange p → (h : List Edge) (m s : ℕ) → on p m s ≡ true → are_grants_through p h ≡ true → drive h (Slot s) BgOut ≡ false
clear_now p range h m s o c = is_false (drive h (Slot s) BgOut) (λ low. low_one low)
  where
    low_one : drive h (Slot s) BgOut ≡ true → ⊥
    low_one low =
        let b = has_board p m s o in
        let f = found_row (IsRowInRange p) p.rows s b.row range.rows b.is_board in
        any_all (λ r. drive h (Slot r.slot) BgOut) p.rows (f.passes (λ r. drive h (Slot r.slot) BgOut) (subst (λ x. drive h (Slot x) BgOut ≡ true) (sym f.slot) low)) c

-- what stands last on a chain
pub is_end : (p : Plan) → IsInRange p → (n : ℕ) → n < 4 → IsBelow (on p n) (suc p.slots) (last_active p (grant_chain n))
is_end p range n l = subst (λ xs. IsBelow (on p n) (suc p.slots) (find (λ s. true) (reverse xs))) (sym (active_is p n l))
    (subst (IsBelow (on p n) (suc p.slots)) (last_of (on p n) p.slots p.slots (omega arith)) (is_below (on p n) p.slots (suc p.slots) (within p range n)))

rise_of : (two : Bool) (p : Plan) → IsInRange p → (h : List Edge) (n : ℕ) → n < 4 → (busy : Bool) → line p h Bbsy ≡ busy → (two || busy) ≡ true → (not two || busy || is_past_end p h (grant_chain n))
    ≡ true → ((s : ℕ) × (drive h (Slot s) Bbsy ≡ true)) ⊎ HasPassed (on p) p.slots two (grant_wires p h) n (last_active p (grant_chain n))
rise_of two p range h n l true e g s = inl (holder p range h e)
rise_of true p range h n l false e g s = inr (record { version = refl; last = is_end p range n l; low = sym (as_segment p h n (last_active p (grant_chain n)) l) ∙ s })
rise_of false p range h n l false e g s = absurd (cc)

may_stop : (two busy : Bool) → (two || busy) ≡ true → (busy ≡ true) ⊎ (two ≡ true)
may_stop true busy e = inr refl
may_stop false busy e = inl e

gave_up : (busy o before : Bool) → busy ≡ false → o ≡ true → ((not busy && o) || before) ≡ true
gave_up busy o before e f = grind arith

still : (busy o before : Bool) → before ≡ true → ((not busy && o) || before) ≡ true
still busy o before e = grind arith

-- such an edge keeps the grants in one of the phases
abbrev KeepsPhase : Version → Plan → Driver → Wire → Bool → Type 0
KeepsPhase version p d w fall = (h : List Edge) (v : Option Cycle) → Passed version p h d w fall v → Now version p h → Now version p (record { driver = d; wire = w; fall = fall; value = v } ∷ h)

after_grant : (version : Version) (p : Plan) → IsInRange p → (n : ℕ) → KeepsPhase version p Controller (Bg n) true
after_grant version p range n h v a now =
    let r = and_left _ _ a.rule in
    let w = waiter p range h n ((laws_of p.arbiter).is_low (request_line p h) (last_level h) n (and_right _ _ a.rule)) in
    grant_falls (on p) p.slots (is_two version) (grant_wires p h) _ n w.0 (sets_level (λ m. drive h Controller (Bg m)) n true) (is_less n 4 a.wire) w.1 w.2
    (grants_high (λ m. drive h Controller (Bg m)) (and_left _ _ r)) (all_free p range h (not_true _ (and_right _ _ r)))
    (λ e m s o. clear_now p range h m s o (when (not (is_two version)) (are_grants_through p h) (off (is_two version) e) a.settles)) now

after_grant_rise : (version : Version) (p : Plan) → IsInRange p → (n : ℕ) → KeepsPhase version p Controller (Bg n) false
after_grant_rise version p range n h v a now =
    grant_rises (on p) p.slots (is_two version) (one_chain p) (within p range) (grant_wires p h) _ n _ (sets_level (λ m. drive h Controller (Bg m)) n false) a.before
    (rise_of (is_two version) p range h n (is_less n 4 a.wire) (line p h Bbsy) refl a.rule a.settles) now

after_request : (version : Version) (p : Plan) → IsInRange p → (s : ℕ) → KeepsPhase version p (Slot s) Br true
after_request version p range s h v a now = asks (on p) p.slots (is_two version) (grant_wires p h) _ s (sets_slot (λ t. drive h (Slot t) Br) s true) now

after_request_rise : (version : Version) (p : Plan) → IsInRange p → (s : ℕ) → KeepsPhase version p (Slot s) Br false
after_request_rise version p range s h v a now =
    asks_no_more (on p) p.slots (is_two version) (grant_wires p h) _ _ s (sets_slot (λ t. drive h (Slot t) Br) s false) (may_stop (is_two version) (drive h (Slot s) Bbsy) a.rule)
    (λ n b o. gave_up (drive h (Slot s) Bbsy) (on p n s) (was_withdrawn p h n) b o) (λ n b. still (drive h (Slot s) Bbsy) (on p n s) (was_withdrawn p h n) b) now

after_pass : (version : Version) (p : Plan) → IsInRange p → (s : ℕ) → KeepsPhase version p (Slot s) BgOut true
after_pass version p range s h v a now =
    let l = level_of p range h s a.exists in
    let r = and_left _ _ a.rule in
    let quiet_now = not_true _ (and_right _ _ r) in
    passes_on (on p) p.slots (is_two version) (one_chain p) (within p range) (grant_wires p h) _ _ l.level s _ (place version p range h s l) (sets_slot (λ t. drive h (Slot t) BgOut) s true)
    (ap (λ b. (Slot s, b) ∷ grant_passes h) quiet_now) (grant_is p h s l true (and_left _ _ r)) a.before quiet_now (not_true _ (and_right _ _ a.rule)) now

after_pass_rise : (version : Version) (p : Plan) → IsInRange p → (s : ℕ) → KeepsPhase version p (Slot s) BgOut false
after_pass_rise version p range s h v a now =
    let l = level_of p range h s a.exists in
    rises (on p) p.slots (is_two version) (one_chain p) (grant_wires p h) _ l.level s _ (place version p range h s l) (sets_slot (λ t. drive h (Slot t) BgOut) s false)
    (grant_is p h s l false (not_true _ a.rule)) a.before now

after_take : (version : Version) (p : Plan) → IsInRange p → (s : ℕ) → KeepsPhase version p (Slot s) Bbsy true
after_take version p range s h v a now =
    let l = level_of p range h s a.exists in
    let r = and_left _ _ a.rule in
    takes (on p) p.slots (is_two version) (one_chain p) (grant_wires p h) _ _ l.level s _ (place version p range h s l) (sets_slot (λ t. drive h (Slot t) Bbsy) s true)
    (grant_is p h s l true (and_left _ _ r)) (not_true _ (and_right _ _ r)) a.before now

after_release : (version : Version) (p : Plan) → IsInRange p → (s : ℕ) → KeepsPhase version p (Slot s) Bbsy false
after_release version p range s h v a now =
    let l = level_of p range h s a.exists in
    let r = and_left _ _ (and_left _ _ a.rule) in
    releases (on p) p.slots (is_two version) (one_chain p) (grant_wires p h) _ l.level s _ (place version p range h s l) (sets_slot (λ t. drive h (Slot t) Bbsy) s false)
    (grant_is p h s l false (not_true _ (and_right _ _ r))) a.before now

-- after every edge that passed its tests
step : (version : Version) (p : Plan) → IsInRange p → (h : List Edge) (d : Driver) (w : Wire) (fall : Bool) (v : Option Cycle) → Passed version p h d w fall v → Now version p h
    → Now version p (record { driver = d; wire = w; fall = fall; value = v } ∷ h)
step version p range h Controller (Bg n) true v a now = after_grant version p range n h v a now
step version p range h Controller (Bg n) false v a now = after_grant_rise version p range n h v a now
step version p range h (Slot s) (Bg n) true v a now = absurd (cc a.wire)
step version p range h (Slot s) (Bg n) false v a now = absurd (cc a.wire)
step version p range h Controller Br false v a now = absurd (cc a.wire)
step version p range h Controller BgOut true v a now = absurd (cc a.wire)
step version p range h Controller Bbsy true v a now = absurd (cc a.wire)
step version p range h (Slot s) Br true v a now = after_request version p range s h v a now
step version p range h (Slot s) Br false v a now = after_request_rise version p range s h v a now
step version p range h (Slot s) BgOut true v a now = after_pass version p range s h v a now
step version p range h (Slot s) BgOut false v a now = after_pass_rise version p range s h v a now
step version p range h (Slot s) Bbsy true v a now = after_take version p range s h v a now
step version p range h (Slot s) Bbsy false v a now = after_release version p range s h v a now
step version p range h d w true v a now = now
step version p range h d w false v a now = now

pub now_of : (version : Version) (p : Plan) → IsInRange p → (h : List Edge) → IsLegal version p h → Now version p h
now_of version p range [] l = (Idle, record { bg_high = λ n. refl; out_high = λ s. refl; free = λ s. refl })
now_of version p range (e ∷ h) l = step version p range h e.driver e.wire e.fall e.value (all_passed version p h e.driver e.wire e.fall e.value l.0) (now_of version p range h l.1)
