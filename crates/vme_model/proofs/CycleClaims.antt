-- What the phase of the cycles says about a history, and about the edge made after it.
use Rattle.std.proofs.Common.{◌≡◌, ℕ, ◌+◌, ◌≤◌, Bool, true, false, List, [], ◌∷◌, Option, Some, None, refl, sym, ap, ◌∙◌, subst, arith}
use Rattle.std.specs.Prelude.{◌&&◌, ◌||◌, ◌==◌, if◌then◌else◌}
use Rattle.std.specs.Option.{option_map_or, option_and_then}
use Rattle.vme_model.specs.declared.boards.Row.{Row}
use Rattle.vme_model.specs.declared.boards.InterrupterRow.{InterrupterRow}
use Rattle.vme_model.specs.declared.boards.IrqKind.{IrqKind}
use Rattle.vme_model.specs.declared.boards.IrqKind.TheVariants.{Roak, Rora}
use Rattle.vme_model.specs.declared.signals.Version.{Version}
use Rattle.vme_model.specs.declared.signals.Edge.{Edge}
use Rattle.vme_model.specs.declared.signals.Cycle.{Cycle}
use Rattle.vme_model.specs.declared.signals.Cycle.TheVariants.{Acknowledge, Access}
use Rattle.vme_model.specs.declared.signals.Driver.{Driver}
use Rattle.vme_model.specs.declared.signals.Driver.TheVariants.{Controller, Slot}
use Rattle.vme_model.specs.declared.signals.Wire.{Wire}
use Rattle.vme_model.specs.declared.signals.Wire.TheVariants.{Berr, DataStrobe, Irq, Dtack}
use Rattle.vme_model.specs.Signals.{is_acknowledge, is_fall_of, is_same_wire}
use Rattle.vme_model.specs.Plan.{Plan, board, drives}
use Rattle.vme_model.specs.History.{drive, shown, served_since_request, serves}
use Rattle.vme_model.specs.Readings.{readings, iack_in, is_served, is_pending}
use Rattle.vme_model.specs.Rules.{may_answer}
use Rattle.vme_model.specs.Verdict.{IsLegal}
use Rattle.vme_model.specs.CycleSafety.{OneAddresses, KeepsItsAddress, Answers, OneAnswers, IsRightfulAnswer, AnswersRightfully, is_roak, has_roak, answers_since_request, AnswersOnce, ReleasesAnswered}
use Rattle.vme_model.proofs.Bools.{never, and_left, and_right, not_true, same_number}
use Rattle.vme_model.proofs.Below.{low_part, part_of, contained}
use Rattle.vme_model.proofs.Ranges.{IsInRange}
use Rattle.vme_model.proofs.CyclePhases.{Answer, IsAnswer, unasked, one_group, group_strobe, answer_of, rightful_answer}
use Rattle.vme_model.proofs.Grants.{Now}
use Rattle.vme_model.proofs.Cycles.{cycle_wires, busy_of, interrupts, masters, has_board, Going, one_holder, line_from, board_there, within, chain_below, chain_asks, chain_member}
use Rattle.vme_model.proofs.AllowedEdges.{Passed, all_passed}

answer_alone : (p : Plan) (h : List Edge) (a : Answer) (x y : Driver) → IsAnswer (interrupts p) (masters p) (has_board p) p.slots (λ s. drive h (Slot s) Dtack) (drive h Controller Berr) a
    → Answers h x → Answers h y → x ≡ y
answer_alone p h a Controller Controller i e f = refl
answer_alone p h a Controller (Slot t) i e f = absurd (cc (i.berr_by e, i.dtack_by t f))
answer_alone p h a (Slot s) Controller i e f = absurd (cc (i.dtack_by s e, i.berr_by f))
answer_alone p h a (Slot s) (Slot t) i e f = cc (i.dtack_by s e, i.dtack_by t f)

-- a ROAK slot answered once since its last request, or not at all
record IsOnce (p : Plan) (h : List Edge) (s : ℕ) : Type 0 where
  none : served_since_request p h (Slot s) Roak ≡ false → answers_since_request p h s ≡ 0
  one : served_since_request p h (Slot s) Roak ≡ true → answers_since_request p h s ≡ 1

kind_of : (k : IrqKind) → is_roak k ≡ true → k ≡ Roak
kind_of Roak e = refl
kind_of Rora e = absurd (cc)

roak_in : (found : Option InterrupterRow) (f : IrqKind → Bool) → option_map_or (λ i. is_roak i.kind) found false ≡ true → option_map_or (λ i. f i.kind) found false ≡ f Roak
roak_in None f e = absurd (cc)
roak_in (Some i) f e = ap f (kind_of i.kind e)

roak_of : (found : Option Row) (f : IrqKind → Bool) → option_map_or (λ i. is_roak i.kind) (option_and_then (λ r. r.interrupter) found) false ≡ true
    → option_map_or (λ r. option_map_or (λ i. f i.kind) r.interrupter false) found false ≡ f Roak
roak_of None f e = absurd (cc)
roak_of (Some r) f e = roak_in r.interrupter f e

is_served_of : (p : Plan) (h : List Edge) (s : ℕ) → has_roak p s ≡ true → is_served p h (Slot s) ≡ served_since_request p h (Slot s) Roak
is_served_of p h s e = roak_of (board p s) (served_since_request p h (Slot s)) e

pending_of : (p : Plan) (h : List Edge) (s level : ℕ) → has_roak p s ≡ true → is_pending (readings p h (Slot s)) level ≡ true → served_since_request p h (Slot s) Roak ≡ false
pending_of p h s level e r = sym (is_served_of p h s e) ∙ not_true _ (and_right _ _ r)

answer_pending : (p : Plan) (h : List Edge) (s : ℕ) (sh : Option Cycle) → is_acknowledge sh ≡ true → may_answer (readings p h (Slot s)) sh ≡ true → (level : ℕ)
    × (is_pending (readings p h (Slot s)) level ≡ true)
answer_pending p h s None e r = absurd (cc)
answer_pending p h s (Some (Acknowledge level)) e r = (level, and_right _ _ r)
answer_pending p h s (Some (Access x)) e r = absurd (cc)

serves_same : (sh : Option Cycle) → serves Roak sh ≡ is_acknowledge sh
serves_same None = refl
serves_same (Some (Acknowledge level)) = refl
serves_same (Some (Access x)) = refl

-- an answer to an acknowledge is the first since the request
first_answer : (version : Version) (p : Plan) (h : List Edge) (s : ℕ) → has_roak p s ≡ true → (d : Driver) (w : Wire) (fall : Bool) (v : Option Cycle) → Passed version p h d w fall v
    → (is_fall_of (Slot s) Dtack (record { driver = d; wire = w; fall = fall; value = v }) && is_acknowledge (shown p h)) ≡ true → served_since_request p h (Slot s) Roak ≡ false
first_answer version p h s roak (Slot u) Dtack true v a e =
    let same = same_number u s (and_left _ _ e) in
    let q = answer_pending p h u (shown p h) (and_right (u == s) _ e) (and_right _ _ a.rule) in
    pending_of p h s q.0 roak (subst (λ x. is_pending (readings p h (Slot x)) q.0 ≡ true) same q.1)
first_answer version p h s roak Controller w fall v a e = absurd (never (and_right (is_same_wire w Dtack) false (and_right fall _ (and_left _ _ e))))
first_answer version p h s roak (Slot u) w true v a e = absurd (never e)
first_answer version p h s roak (Slot u) w false v a e = absurd (never e)

once_more : (x y z z' before : Bool) (n : ℕ) → z ≡ z' → ((y && z') ≡ true → before ≡ false) → (before ≡ false → n ≡ 0) → (before ≡ true → n ≡ 1)
    → ((if x then false else ((y && z) || before)) ≡ false → (if x then 0 else (if y && z' then 1 else 0) + n) ≡ 0)
    × ((if x then false else ((y && z) || before)) ≡ true → (if x then 0 else (if y && z' then 1 else 0) + n) ≡ 1)
once_more true y z z' before n e f a b = (λ h. refl, λ h. absurd (cc))
once_more false true true z' before n e f a b = (λ h. absurd (cc), λ h. grind (arith, f, a, e))
once_more false true false z' before n e f a b = (λ h. grind (arith, a, e, h), λ h. grind (arith, b, e, h))
once_more false false z z' before n e f a b = (λ h. omega (arith, a h), λ h. omega (arith, b h))

once_of : (version : Version) (p : Plan) (h : List Edge) (s : ℕ) → has_roak p s ≡ true → IsLegal version p h → IsOnce p h s
once_of version p [] s roak l = record { none = λ e. refl; one = λ e. absurd (cc) }
once_of version p (e ∷ h) s roak l =
    let i = once_of version p h s roak l.1 in
    let q = once_more (is_fall_of (Slot s) Irq e) (is_fall_of (Slot s) Dtack e) (serves Roak (shown p h)) (is_acknowledge (shown p h)) (served_since_request p h (Slot s) Roak)
    (answers_since_request p h s) (serves_same (shown p h)) (first_answer version p h s roak e.driver e.wire e.fall e.value (all_passed version p h e.driver e.wire e.fall e.value l.0)) i.none
    i.one in
    record { none = q.0; one = q.1 }

at_most_once : (p : Plan) (h : List Edge) (s : ℕ) → IsOnce p h s → answers_since_request p h s ≤ 1
at_most_once p h s i = go (served_since_request p h (Slot s) Roak) refl
  where
    go : (b : Bool) → served_since_request p h (Slot s) Roak ≡ b → answers_since_request p h s ≤ 1
    go true e = omega (arith, i.one e)
    go false e = omega (arith, i.none e)

pub one_addresses : (version : Version) (p : Plan) (h : List Edge) → Now version p h → Going p h → OneAddresses h
one_addresses version p h now go s t a b =
    one_group (interrupts p) (masters p) (has_board p) p.slots (cycle_wires p h) (busy_of h) s t (one_holder version p h now) a b go

pub keeps_its_address : (p : Plan) (h : List Edge) → Going p h → KeepsItsAddress h
keeps_its_address p h go s a b = group_strobe (interrupts p) (masters p) (has_board p) p.slots (cycle_wires p h) (busy_of h) s a b go

pub one_answers : (p : Plan) (h : List Edge) → Going p h → OneAnswers h
one_answers p h go x y a b =
    let i = answer_of (interrupts p) (masters p) (has_board p) p.slots (cycle_wires p h) (busy_of h) go in
    answer_alone p h i.0 x y i.1 a b

pub answers_once : (version : Version) (p : Plan) (h : List Edge) → IsLegal version p h → AnswersOnce p h
answers_once version p h l s roak = at_most_once p h s (once_of version p h s roak l)

answer_is : (version : Version) (p : Plan) → IsInRange p → (h : List Edge) (s level : ℕ) (v : Option Cycle) → Passed version p h (Slot s) Dtack true v → shown p h ≡ Some (Acknowledge level)
    → Going p h → IsRightfulAnswer p h s level
answer_is version p range h s level v a sh go =
    let r = and_left _ _ a.rule in
    let w = line_from p range h DataStrobe (and_left _ _ r) in
    let m : may_answer (readings p h (Slot s)) (Some (Acknowledge level)) ≡ true = subst (λ x. may_answer (readings p h (Slot s)) x ≡ true) sh (and_right _ _ a.rule) in
    let i = and_left (iack_in p h (Slot s)) _ (and_left _ _ m) in
    let o = chain_member p range h s i in
    let f = rightful_answer (interrupts p) (masters p) (has_board p) p.slots (cycle_wires p h) (busy_of h) s w.0 level _ sh o (board_there p (drives Dtack) s a.exists) a.before (chain_below p range s)
    (not_true _ (and_right (iack_in p h (Slot s)) _ (and_left _ _ m))) (chain_asks p range h s i) w.1 go in
    record {
      member = contained (interrupts p) p.slots s o (within p range s o).0 (within p range s o).1;
      began = f.acknowledged ∙ sh;
      unanswered = f.unanswered;
      passed = f.passers ∙ ap (λ x. unasked x (low_part (interrupts p) s p.slots)) sh ∙ ap (unasked (Some (Acknowledge level))) (sym (part_of (interrupts p) s p.slots));
      requests = and_right _ _ m;
    }

pub answers_rightfully : (version : Version) (p : Plan) → IsInRange p → (h : List Edge) (d : Driver) (w : Wire) (fall : Bool) (v : Option Cycle) → Passed version p h d w fall v → Going p h
    → AnswersRightfully p h (record { driver = d; wire = w; fall = fall; value = v })
answers_rightfully version p range h (Slot s) Dtack true v a go k level e sh = subst (λ x. IsRightfulAnswer p h x level) (same_number s k e) (answer_is version p range h s level v a sh go)
answers_rightfully version p range h Controller w true v a go k level e sh = absurd (never (and_right (is_same_wire w Dtack) false e))
answers_rightfully version p range h (Slot s) w true v a go k level e sh = absurd (never e)
answers_rightfully version p range h d w false v a go k level e sh = absurd (never e)

pub releases_answered : (version : Version) (p : Plan) (h : List Edge) (d : Driver) (w : Wire) (fall : Bool) (v : Option Cycle) → Passed version p h d w fall v → IsLegal version p h
    → ReleasesAnswered p h (record { driver = d; wire = w; fall = fall; value = v })
releases_answered version p h (Slot s) Irq false v a l k e roak = subst (λ x. has_roak p x ≡ true → answers_since_request p h x ≡ 1) (same_number s k e)
    (λ r. (once_of version p h s r l).one (sym (is_served_of p h s r) ∙ a.rule)) roak
releases_answered version p h Controller w false v a l k e roak = absurd (never (and_right (is_same_wire w Irq) false e))
releases_answered version p h (Slot s) w false v a l k e roak = absurd (never e)
releases_answered version p h d w true v a l k e roak = absurd (never e)
