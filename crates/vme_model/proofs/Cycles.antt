-- The phase of the cycles after a legal list.
use Rattle.std.proofs.Common.{◌≡◌, ℕ, suc, ◌≤◌, Bool, true, false, List, [], ◌∷◌, Option, Some, None, refl, sym, ap, ◌∙◌, subst, arith}
use Rattle.std.specs.Prelude.{◌&&◌, ◌||◌, not, ◌==◌, if◌then◌else◌, is_some, is_none}
use Rattle.std.specs.List.{list_all, Contains, All}
use Rattle.std.specs.Option.{option_map_or}
use Rattle.std.proofs.lemmas.Bool.Decides.{nat_tests}
use Rattle.std.proofs.lemmas.List.Elements.{All-contains, All-nil, All-cons}
use Rattle.vme_model.specs.declared.boards.Row.{Row}
use Rattle.vme_model.specs.declared.sets.ChainId.TheVariants as chain
use Rattle.vme_model.specs.declared.signals.Version.{Version}
use Rattle.vme_model.specs.declared.signals.Edge.{Edge}
use Rattle.vme_model.specs.declared.signals.Cycle.{Cycle}
use Rattle.vme_model.specs.declared.signals.Cycle.TheVariants.{Acknowledge, Access}
use Rattle.vme_model.specs.declared.signals.Driver.{Driver}
use Rattle.vme_model.specs.declared.signals.Driver.TheVariants.{Controller, Slot}
use Rattle.vme_model.specs.declared.signals.Wire.{Wire}
use Rattle.vme_model.specs.declared.signals.Wire.TheVariants.{Iack, Berr, Bbsy, Addr, AddressStrobe, DataStrobe, IackOut, Dtack}
use Rattle.vme_model.specs.Signals.{is_two}
use Rattle.vme_model.specs.Plan.{Plan, board, drives, works, upstream, last_active, active}
use Rattle.vme_model.specs.History.{drive, pulls_line, line, segment, input, shown, has_strobed}
use Rattle.vme_model.specs.Readings.{readings, iack_in}
use Rattle.vme_model.specs.Rules.{is_passed_by, may_answer}
use Rattle.vme_model.specs.Settling.{is_unanswerable}
use Rattle.vme_model.specs.Verdict.{IsLegal}
use Rattle.vme_model.specs.CycleSafety.{last_acknowledged, was_acknowledged, is_pending_at, acknowledge_passes}
use Rattle.vme_model.proofs.Bools.{and_left, and_right, not_true, is_false, same_number}
use Rattle.vme_model.proofs.Below.{IsBelow, is_below, contained, last_of}
use Rattle.vme_model.proofs.Ranges.{IsRowInRange, IsInRange}
use Rattle.vme_model.proofs.Members.{on, some_row, found_row}
use Rattle.vme_model.proofs.GrantPhases.{holds_once}
use Rattle.vme_model.proofs.Grants.{Now, grant_wires, now_of}
use Rattle.vme_model.proofs.CyclePhases.{CycleWires, Quiet, Cycled, Silent, iack_before, IsAsked, IsUnanswerable, group_falls, group_rises, strobe_falls, strobe_rises, dstrobe_falls, dstrobe_rises, dtack_falls, dtack_rises, berr_falls, berr_rises, iack_falls, iack_rises, iout_falls, iout_rises, taken, given_up}
use Rattle.vme_model.proofs.AllowedEdges.{Passed, all_passed, sets_slot}

-- what the lemmas on phases read of a history
abbrev pub cycle_wires : Plan → List Edge → CycleWires
cycle_wires p h = record {
  group = λ s. drive h (Slot s) Addr;
  strobe = λ s. drive h (Slot s) AddressStrobe;
  dstrobe = λ s. drive h (Slot s) DataStrobe;
  dtack = λ s. drive h (Slot s) Dtack;
  iout = λ s. drive h (Slot s) IackOut;
  strobed = λ s. has_strobed h (Slot s);
  iack = drive h Controller Iack;
  berr = drive h Controller Berr;
  shown = shown p h;
  acknowledged = last_acknowledged p h;
  answered = was_acknowledged p h;
  passers = acknowledge_passes p h;
}

abbrev pub busy_of : List Edge → ℕ → Bool
busy_of h s = drive h (Slot s) Bbsy

-- the slot's board has an interrupter, a requester, or there is one
abbrev pub interrupts : Plan → ℕ → Bool
interrupts p s = option_map_or (works chain.Iack) (board p s) false

abbrev pub masters : Plan → ℕ → Bool
masters p s = option_map_or (λ r. is_some r.requester) (board p s) false

abbrev pub has_board : Plan → ℕ → Bool
has_board p s = is_some (board p s)

abbrev pub Going : Plan → List Edge → Type 0
Going p h = Cycled (interrupts p) (masters p) (has_board p) p.slots (cycle_wires p h) (busy_of h)

-- the row of a slot with a board that passes
record HasRow (p : Plan) (f : Row → Bool) (s : ℕ) : Type 0 where
  row : Row
  is_board : board p s ≡ Some row
  passes : f row ≡ true

row_of : (p : Plan) (f : Row → Bool) (s : ℕ) (found : Option Row) → board p s ≡ found → option_map_or f found false ≡ true → HasRow p f s
row_of p f s None e h = absurd (cc)
row_of p f s (Some r) e h = record { row = r; is_board = e; passes = h }

has_row : (p : Plan) (f : Row → Bool) (s : ℕ) → option_map_or f (board p s) false ≡ true → HasRow p f s
has_row p f s h = row_of p f s (board p s) refl h

-- a low wire of a board shows on the line
line_shows : (p : Plan) → IsInRange p → (h : List Edge) (w : Wire) (s : ℕ) → option_map_or (drives w) (board p s) false ≡ true → drive h (Slot s) w ≡ true → line p h w ≡ true
line_shows p range h w s o low =
    let b = has_row p (drives w) s o in
    let f = found_row (IsRowInRange p) p.rows s b.row range.rows b.is_board in
    f.passes (pulls_line h w) (both (drives w b.row) (drive h (Slot b.row.slot) w) b.passes (subst (λ x. drive h (Slot x) w ≡ true) (sym f.slot) low))
  where
    both : (x y : Bool) → x ≡ true → y ≡ true → (x && y) ≡ true
    both x y e f = grind arith

line_high : (p : Plan) → IsInRange p → (h : List Edge) (w : Wire) → line p h w ≡ false → (s : ℕ) → option_map_or (drives w) (board p s) false ≡ true → drive h (Slot s) w ≡ false
line_high p range h w e s o = is_false (drive h (Slot s) w) (λ b. cc (e, line_shows p range h w s o b))

pub line_from : (p : Plan) → IsInRange p → (h : List Edge) (w : Wire) → line p h w ≡ true → (s : ℕ) × (drive h (Slot s) w ≡ true)
line_from p range h w e =
    let r = some_row (pulls_line h w) (IsRowInRange p) p.rows range.rows e in
    (r.0.slot, and_right (drives w r.0) _ r.1)

pub within : (p : Plan) → IsInRange p → (s : ℕ) → interrupts p s ≡ true → (1 ≤ s) × (s ≤ p.slots)
within p range s h =
    let b = has_row p (works chain.Iack) s h in
    let f = found_row (IsRowInRange p) p.rows s b.row range.rows b.is_board in
    (subst (λ x. 1 ≤ x) f.slot f.fact.from_one, subst (λ x. x ≤ p.slots) f.slot f.fact.to_last)

pub board_there : (p : Plan) (f : Row → Bool) (s : ℕ) → option_map_or f (board p s) false ≡ true → has_board p s ≡ true
board_there p f s h = let b = has_row p f s h in ap is_some b.is_board

dtack_board : (p : Plan) (s : ℕ) (found : Option Row) → is_some found ≡ true → option_map_or (drives Dtack) found false ≡ true
dtack_board p s None e = absurd (cc)
dtack_board p s (Some r) e = refl

as_before : (p : Plan) (h : List Edge) (found : Option ℕ) → segment h chain.Iack found ≡ iack_before (cycle_wires p h) found
as_before p h None = refl
as_before p h (Some s) = refl

pub one_holder : (version : Version) (p : Plan) (h : List Edge) → Now version p h → (s t : ℕ) → busy_of h s ≡ true → busy_of h t ≡ true → s ≡ t
one_holder version p h now s t a b = holds_once (on p) p.slots (is_two version) (grant_wires p h) s t a b now

self : (n : ℕ) → (n == n) ≡ true
self n = grind (arith, nat_tests)

-- the masters' strobes are high if the line is high
pub strobes_high : (p : Plan) → IsInRange p → (h : List Edge) → line p h AddressStrobe ≡ false → (t : ℕ) → masters p t ≡ true → drive h (Slot t) AddressStrobe ≡ false
strobes_high p range h e t m = line_high p range h AddressStrobe e t m

data_high : (p : Plan) → IsInRange p → (h : List Edge) → line p h DataStrobe ≡ false → (t : ℕ) → masters p t ≡ true → drive h (Slot t) DataStrobe ≡ false
data_high p range h e t m = line_high p range h DataStrobe e t m

dtack_high : (p : Plan) → IsInRange p → (h : List Edge) → line p h Dtack ≡ false → (t : ℕ) → has_board p t ≡ true → drive h (Slot t) Dtack ≡ false
dtack_high p range h e t b = line_high p range h Dtack e t (dtack_board p t (board p t) b)

-- every active slot of the chain is clear
all_clear : (f : ℕ → Bool) (xs : List ℕ) → list_all (λ s. not (f s)) xs ≡ true → (t : ℕ) → Contains xs t → f t ≡ false
all_clear f xs e t c = not_true (f t) (All-contains (λ s. not (f s) ≡ true) xs t (from_all xs e) c)
  where
    from_all : (xs : List ℕ) → list_all (λ s. not (f s)) xs ≡ true → All (λ s. not (f s) ≡ true) xs
    from_all [] e = All-nil (λ s. not (f s) ≡ true)
    from_all (x ∷ xs) e = All-cons (λ s. not (f s) ≡ true) x xs (and_left (not (f x)) _ e) (from_all xs (and_right (not (f x)) _ e))

-- a slot that sees the acknowledge works its chain
record IsReached (p : Plan) (h : List Edge) (s : ℕ) : Type 0 where
  member : interrupts p s ≡ true
  low : input p h chain.Iack s ≡ true

reached_of : (p : Plan) → IsInRange p → (h : List Edge) (s : ℕ) (found : Option Row) → board p s ≡ found → option_map_or (λ r. is_some r.interrupter && input p h chain.Iack r.slot) found
    false ≡ true → IsReached p h s
reached_of p range h s None e i = absurd (cc)
reached_of p range h s (Some r) e i =
    let f = found_row (IsRowInRange p) p.rows s r range.rows e in
    record {
      member = ap (λ x. option_map_or (works chain.Iack) x false) e ∙ and_left (is_some r.interrupter) (input p h chain.Iack r.slot) i;
      low = subst (λ x. input p h chain.Iack x ≡ true) f.slot (and_right (is_some r.interrupter) (input p h chain.Iack r.slot) i);
    }

reached : (p : Plan) → IsInRange p → (h : List Edge) (s : ℕ) → iack_in p h (Slot s) ≡ true → IsReached p h s
reached p range h s e = reached_of p range h s (board p s) refl e

pub chain_asks : (p : Plan) → IsInRange p → (h : List Edge) (s : ℕ) → iack_in p h (Slot s) ≡ true → iack_before (cycle_wires p h) (upstream p chain.Iack s) ≡ true
chain_asks p range h s e = sym (as_before p h (upstream p chain.Iack s)) ∙ (reached p range h s e).low

pub chain_member : (p : Plan) → IsInRange p → (h : List Edge) (s : ℕ) → iack_in p h (Slot s) ≡ true → interrupts p s ≡ true
chain_member p range h s e = (reached p range h s e).member

pub chain_below : (p : Plan) → IsInRange p → (s : ℕ) → IsBelow (interrupts p) s (upstream p chain.Iack s)
chain_below p range s = is_below (interrupts p) p.slots s (within p range)

own_slot : (p : Plan) → IsInRange p → (s x : ℕ) → option_map_or (λ b. b.slot == x) (board p s) false ≡ true → s ≡ x
own_slot p range s x e =
    let b = has_row p (λ b. b.slot == x) s e in
    let f = found_row (IsRowInRange p) p.rows s b.row range.rows b.is_board in
    sym f.slot ∙ same_number b.row.slot x b.passes

asked : (p : Plan) → IsInRange p → (h : List Edge) (s : ℕ) (sh : Option Cycle) → may_answer (readings p h (Slot s)) sh ≡ true → IsAsked (interrupts p) (masters p) (has_board p) p.slots
    (cycle_wires p h) sh s (upstream p chain.Iack s)
asked p range h s None e = absurd (cc)
asked p range h s (Some (Acknowledge level)) e =
    let i = and_left (iack_in p h (Slot s)) _ (and_left _ _ e) in
    (chain_member p range h s i, chain_below p range s, not_true _ (and_right (iack_in p h (Slot s)) _ (and_left _ _ e)), chain_asks p range h s i)
asked p range h s (Some (Access x)) e = own_slot p range s x e

no_board : (found : Option Row) → is_none found ≡ true → is_some found ≡ false
no_board None e = refl
no_board (Some r) e = absurd (cc)

unanswerable : (p : Plan) → IsInRange p → (h : List Edge) (sh : Option Cycle) → is_unanswerable p h sh ≡ true → IsUnanswerable (interrupts p) (masters p) (has_board p) p.slots (cycle_wires p h) sh
    (last_active p chain.Iack)
unanswerable p range h None e = absurd (cc)
unanswerable p range h (Some (Acknowledge level)) e = (
  subst (IsBelow (interrupts p) (suc p.slots)) (last_of (interrupts p) p.slots p.slots (omega arith)) (is_below (interrupts p) p.slots (suc p.slots) (within p range)),
  sym (as_before p h (last_active p chain.Iack)) ∙ e,
)
unanswerable p range h (Some (Access x)) e = no_board (board p x) e

-- a slot that passes an acknowledge on
record PassesOn (p : Plan) (h : List Edge) (s : ℕ) : Type 0 where
  level : ℕ
  shows : shown p h ≡ Some (Acknowledge level)
  unasked_now : is_pending_at p h (Slot s) (shown p h) ≡ false

passes_on_of : (p : Plan) (h : List Edge) (s : ℕ) (sh : Option Cycle) → shown p h ≡ sh → is_passed_by (readings p h (Slot s)) sh ≡ true → PassesOn p h s
passes_on_of p h s None e r = absurd (cc)
passes_on_of p h s (Some (Acknowledge level)) e r = record { level = level; shows = e; unasked_now = ap (is_pending_at p h (Slot s)) e ∙ not_true _ r }
passes_on_of p h s (Some (Access x)) e r = absurd (cc)

-- such an edge keeps the cycles in one of the phases
abbrev KeepsPhase : Version → Plan → Driver → Wire → Bool → Type 0
KeepsPhase version p d w fall = (h : List Edge) (v : Option Cycle) → Passed version p h d w fall v → Now version p h → Going p h → Going p (record { driver = d; wire = w; fall = fall; value = v } ∷ h)

after_address : (version : Version) (p : Plan) → IsInRange p → (s : ℕ) → KeepsPhase version p (Slot s) Addr true
after_address version p range s h v a now go =
    let r = and_left _ _ (and_left _ _ a.rule) in
    group_falls (interrupts p) (masters p) (has_board p) p.slots (cycle_wires p h) (busy_of h) _ _ s (sets_slot (λ t. drive h (Slot t) Addr) s true) (and_left _ _ r)
    (strobes_high p range h (not_true _ (and_right _ _ r))) go

after_address_off : (version : Version) (p : Plan) → IsInRange p → (s : ℕ) → KeepsPhase version p (Slot s) Addr false
after_address_off version p range s h v a now go =
    let r = and_left _ _ a.rule in
    group_rises (interrupts p) (masters p) (has_board p) p.slots (cycle_wires p h) (busy_of h) _ _ s (sets_slot (λ t. drive h (Slot t) Addr) s false) (and_left _ _ r) (not_true _ (and_right _ _ r))
    (and_right _ _ a.rule) go

after_strobe : (version : Version) (p : Plan) → IsInRange p → (s : ℕ) → KeepsPhase version p (Slot s) AddressStrobe true
after_strobe version p range s h v a now go =
    let clear = all_clear (λ t. drive h (Slot t) IackOut) (active p chain.Iack) (and_right _ _ a.settles) in
    strobe_falls (interrupts p) (masters p) (has_board p) p.slots (cycle_wires p h) (busy_of h) _ _ s (one_holder version p h now) (sets_slot (λ t. drive h (Slot t) AddressStrobe) s true) (fresh s)
    (and_left _ _ a.rule) a.exists (strobes_high p range h (not_true _ (and_right _ _ a.rule))) (not_true _ (and_left _ _ a.settles))
    (λ t o. clear t (contained (interrupts p) p.slots t o (within p range t o).0 (within p range t o).1)) go
  where
    fresh : (s : ℕ) → (if s == s then false else (false || has_strobed h (Slot s))) ≡ false
    fresh s = cc (self s)

after_strobe_rise : (version : Version) (p : Plan) → IsInRange p → (s : ℕ) → KeepsPhase version p (Slot s) AddressStrobe false
after_strobe_rise version p range s h v a now go =
    strobe_rises (interrupts p) (masters p) (has_board p) p.slots (cycle_wires p h) (busy_of h) _ s (sets_slot (λ t. drive h (Slot t) AddressStrobe) s false) a.before (not_true _ a.rule) go

after_data_strobe : (version : Version) (p : Plan) → IsInRange p → (s : ℕ) → KeepsPhase version p (Slot s) DataStrobe true
after_data_strobe version p range s h v a now go =
    let r = and_left _ _ a.rule in
    let r2 = and_left _ _ r in
    let r3 = and_left _ _ r2 in
    dstrobe_falls (interrupts p) (masters p) (has_board p) p.slots (cycle_wires p h) (busy_of h) _ _ s (sets_slot (λ t. drive h (Slot t) DataStrobe) s true) (now_strobed s) (and_left _ _ r3) a.before
    (not_true _ (and_right _ _ a.rule)) (dtack_high p range h (not_true _ (and_right _ _ r2))) (not_true _ (and_right _ _ r)) go
  where
    now_strobed : (s : ℕ) → (s == s || has_strobed h (Slot s)) ≡ true
    now_strobed s = cc (self s)

after_data_strobe_rise : (version : Version) (p : Plan) → IsInRange p → (s : ℕ) → KeepsPhase version p (Slot s) DataStrobe false
after_data_strobe_rise version p range s h v a now go =
    dstrobe_rises (interrupts p) (masters p) (has_board p) p.slots (cycle_wires p h) (busy_of h) _ s (sets_slot (λ t. drive h (Slot t) DataStrobe) s false) a.before go

after_answer : (version : Version) (p : Plan) → IsInRange p → (s : ℕ) → KeepsPhase version p (Slot s) Dtack true
after_answer version p range s h v a now go =
    let r = and_left _ _ a.rule in
    let w = line_from p range h DataStrobe (and_left _ _ r) in
    dtack_falls (interrupts p) (masters p) (has_board p) p.slots (cycle_wires p h) (busy_of h) _ _ s w.0 _ (sets_slot (λ t. drive h (Slot t) Dtack) s true) a.before
    (board_there p (drives Dtack) s a.exists) w.1 (asked p range h s (shown p h) (and_right _ _ a.rule)) go

after_answer_rise : (version : Version) (p : Plan) → IsInRange p → (s : ℕ) → KeepsPhase version p (Slot s) Dtack false
after_answer_rise version p range s h v a now go =
    dtack_rises (interrupts p) (masters p) (has_board p) p.slots (cycle_wires p h) (busy_of h) _ s (sets_slot (λ t. drive h (Slot t) Dtack) s false) (data_high p range h (not_true _ a.rule)) go

after_acknowledge_pass : (version : Version) (p : Plan) → IsInRange p → (s : ℕ) → KeepsPhase version p (Slot s) IackOut true
after_acknowledge_pass version p range s h v a now go =
    let r = and_left _ _ a.rule in
    let r2 = and_left _ _ r in
    let i = and_left (iack_in p h (Slot s)) _ r2 in
    let w = line_from p range h DataStrobe (and_right _ _ r) in
    let l = passes_on_of p h s (shown p h) refl (and_right _ _ a.rule) in
    iout_falls (interrupts p) (masters p) (has_board p) p.slots (within p range) (cycle_wires p h) (busy_of h) _ _ s w.0 l.level _ (sets_slot (λ t. drive h (Slot t) IackOut) s true)
    (ap (λ b. (Slot s, shown p h, b) ∷ acknowledge_passes p h) l.unasked_now) l.shows (chain_member p range h s i) (board_there p (drives IackOut) s a.exists)
    (not_true _ (and_right (iack_in p h (Slot s)) _ r2)) (chain_below p range s) a.before (chain_asks p range h s i) w.1 go

after_acknowledge_pass_rise : (version : Version) (p : Plan) → IsInRange p → (s : ℕ) → KeepsPhase version p (Slot s) IackOut false
after_acknowledge_pass_rise version p range s h v a now go =
    iout_rises (interrupts p) (masters p) (has_board p) p.slots (cycle_wires p h) (busy_of h) _ (strobes_high p range h (not_true _ a.rule)) go

after_take : (version : Version) (p : Plan) → IsInRange p → (s : ℕ) → KeepsPhase version p (Slot s) Bbsy true
after_take version p range s h v a now go =
    taken (interrupts p) (masters p) (has_board p) p.slots (cycle_wires p h) (busy_of h) _ s (sets_slot (busy_of h) s true) go

after_release : (version : Version) (p : Plan) → IsInRange p → (s : ℕ) → KeepsPhase version p (Slot s) Bbsy false
after_release version p range s h v a now go =
    given_up (interrupts p) (masters p) (has_board p) p.slots (cycle_wires p h) (busy_of h) _ s (one_holder version p h now) a.before (off (drive h (Slot s) Addr) (drive h (Slot s) AddressStrobe)
    (and_right _ _ (and_left _ _ a.rule))) go
  where
    off : (x y : Bool) → (not x || y) ≡ true → y ≡ false → x ≡ false
    off x y e f = grind arith

after_error : (version : Version) (p : Plan) → IsInRange p → KeepsPhase version p Controller Berr true
after_error version p range h v a now go =
    let w = line_from p range h DataStrobe (and_left _ _ a.rule) in
    berr_falls (interrupts p) (masters p) (has_board p) p.slots (cycle_wires p h) (busy_of h) w.0 _ (λ t o. (within p range t o).1) (dtack_high p range h (not_true _ (and_right _ _ a.rule))) w.1
    (unanswerable p range h (shown p h) a.settles) go

after_error_rise : (version : Version) (p : Plan) → IsInRange p → KeepsPhase version p Controller Berr false
after_error_rise version p range h v a now go =
    berr_rises (interrupts p) (masters p) (has_board p) p.slots (cycle_wires p h) (busy_of h) (data_high p range h (not_true _ a.rule)) go

after_acknowledge : (version : Version) (p : Plan) → IsInRange p → KeepsPhase version p Controller Iack true
after_acknowledge version p range h v a now go =
    let r = and_left _ _ a.rule in
    let w = line_from p range h DataStrobe (and_right _ _ r) in
    iack_falls (interrupts p) (masters p) (has_board p) p.slots (cycle_wires p h) (busy_of h) w.0 a.before (and_right _ _ a.rule) w.1 go

after_acknowledge_rise : (version : Version) (p : Plan) → IsInRange p → KeepsPhase version p Controller Iack false
after_acknowledge_rise version p range h v a now go =
    iack_rises (interrupts p) (masters p) (has_board p) p.slots (cycle_wires p h) (busy_of h) (strobes_high p range h (not_true _ a.rule)) go

-- after every edge that passed its tests
step : (version : Version) (p : Plan) → IsInRange p → (h : List Edge) (d : Driver) (w : Wire) (fall : Bool) (v : Option Cycle) → Passed version p h d w fall v → Now version p h → Going p h
    → Going p (record { driver = d; wire = w; fall = fall; value = v } ∷ h)
step version p range h (Slot s) Addr true v a now go = after_address version p range s h v a now go
step version p range h (Slot s) Addr false v a now go = after_address_off version p range s h v a now go
step version p range h (Slot s) AddressStrobe true v a now go = after_strobe version p range s h v a now go
step version p range h (Slot s) AddressStrobe false v a now go = after_strobe_rise version p range s h v a now go
step version p range h (Slot s) DataStrobe true v a now go = after_data_strobe version p range s h v a now go
step version p range h (Slot s) DataStrobe false v a now go = after_data_strobe_rise version p range s h v a now go
step version p range h (Slot s) Dtack true v a now go = after_answer version p range s h v a now go
step version p range h (Slot s) Dtack false v a now go = after_answer_rise version p range s h v a now go
step version p range h (Slot s) IackOut true v a now go = after_acknowledge_pass version p range s h v a now go
step version p range h (Slot s) IackOut false v a now go = after_acknowledge_pass_rise version p range s h v a now go
step version p range h (Slot s) Bbsy true v a now go = after_take version p range s h v a now go
step version p range h (Slot s) Bbsy false v a now go = after_release version p range s h v a now go
step version p range h Controller Berr true v a now go = after_error version p range h v a now go
step version p range h Controller Berr false v a now go = after_error_rise version p range h v a now go
step version p range h Controller Iack true v a now go = after_acknowledge version p range h v a now go
step version p range h Controller Iack false v a now go = after_acknowledge_rise version p range h v a now go
step version p range h Controller Dtack true v a now go = absurd (cc a.wire)
step version p range h Controller IackOut true v a now go = absurd (cc a.wire)
step version p range h (Slot s) Berr true v a now go = absurd (cc a.wire)
step version p range h (Slot s) Berr false v a now go = absurd (cc a.wire)
step version p range h (Slot s) Iack true v a now go = absurd (cc a.wire)
step version p range h (Slot s) Iack false v a now go = absurd (cc a.wire)
step version p range h d w true v a now go = go
step version p range h d w false v a now go = go

pub going_of : (version : Version) (p : Plan) → IsInRange p → (h : List Edge) → IsLegal version p h → Going p h
going_of version p range [] l = (
  Quiet,
  record {
    answer = Silent;
    answers = record { dtack_by = λ t h. absurd (cc); berr_by = λ h. absurd (cc); boards = λ t h. absurd (cc) };
    strobe_high = λ t. refl;
    dstrobe_high = λ t. refl;
    group_busy = λ t h. absurd (cc);
  },
)
going_of version p range (e ∷ h) l = step version p range h e.driver e.wire e.fall e.value (all_passed version p h e.driver e.wire e.fall e.value l.0) (now_of version p range h l.1)
    (going_of version p range h l.1)
