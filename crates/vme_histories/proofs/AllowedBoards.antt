-- A board of an accepted plan, and an edge that the rules allow it.
use Rattle.std.proofs.Common.{◌≡◌, refl, sym, ap, subst, ℕ, Bool, true, false, List, ◌∷◌, ◌<◌, ◌≤◌, arith}
use Rattle.std.specs.Prelude.{◌==◌, ◌&&◌, if◌then◌else◌, not, Option, Some, None, Ok}
use Rattle.std.specs.Option.{option_map_or, IfSome}
use Rattle.std.proofs.lemmas.Bool.Decides.{nat_tests}
use Rattle.vme_model.specs.declared.boards.Row.{Row}
use Rattle.vme_model.specs.declared.boards.RequesterRow.{RequesterRow}
use Rattle.vme_model.specs.declared.boards.InterrupterRow.{InterrupterRow}
use Rattle.vme_model.specs.declared.signals.Version.{Version}
use Rattle.vme_model.specs.declared.signals.Driver.TheVariants.{Controller, Slot}
use Rattle.vme_model.specs.declared.signals.Wire.{Wire}
use Rattle.vme_model.specs.declared.signals.Wire.TheVariants.{Bg, Bclr, Iack, Berr, Br, BgOut, Bbsy, Addr, AddressStrobe, DataStrobe, Irq, IackOut, Dtack}
use Rattle.vme_model.specs.declared.signals.Cycle.{Cycle}
use Rattle.vme_model.specs.declared.signals.Edge.{Edge}
use Rattle.vme_model.specs.Signals.{is_grant_wire, grant_level, is_same_wire, is_edge_of, has_wire, has_value, is_well_formed}
use Rattle.vme_model.specs.Plan.{Plan, board, drives, has_driver}
use Rattle.vme_model.specs.Accepted.{IsAccepted}
use Rattle.vme_model.specs.History.{drive, last_level}
use Rattle.vme_model.specs.Verdict.{verdict_but_full}
use Rattle.vme_model.proofs.Bools.{and_left, and_right}
use Rattle.vme_model.proofs.Ranges.{IsRowInRange, in_range}
use Rattle.vme_model.proofs.Members.{found_row}
use Rattle.vme_model.proofs.AllowedEdges.{checked, all_passed}
use Rattle.vme_model.specs.declared.refusals.Refused.TheVariants.{NoSuchDriver}
use Rattle.vme_histories.specs.Levels.{request_level, interrupt_level}

pub record Stands (p : Plan) (s : ℕ) (r : Row) : Type 0 where
  pub found : board p s ≡ Some r
  pub slot : r.slot ≡ s
  pub from_one : 1 ≤ s
  pub to_last : s ≤ p.slots
  pub near : s < 22
  pub request : request_level r < 4
  pub interrupt : interrupt_level r < 8

request_of : (o : Option RequesterRow) → IfSome o (λ q. q.level < 4) → option_map_or (λ q. q.level) o 0 < 4
request_of None l = omega arith
request_of (Some q) l = l

interrupt_of : (o : Option InterrupterRow) → IfSome o (λ i. (1 ≤ i.level) × (i.level < 8)) → option_map_or (λ i. i.level) o 0 < 8
interrupt_of None l = omega arith
interrupt_of (Some i) l = l.1

pub stands : (p : Plan) (s : ℕ) (r : Row) → IsAccepted p → board p s ≡ Some r → Stands p s r
stands p s r ok found =
    let range = in_range p ok in
    let f = found_row (IsRowInRange p) p.rows s r range.rows found in
    let same = f.slot in
    let from = f.fact.from_one in
    let to = f.fact.to_last in
    let most = range.most in
    record {
      found = found;
      slot = f.slot;
      from_one = omega arith;
      to_last = omega arith;
      near = omega arith;
      request = request_of r.requester f.fact.level;
      interrupt = interrupt_of r.interrupter f.fact.irq;
    }

-- an edge of a slot, and of the controller
abbrev pub at : ℕ → Wire → Bool → Option Cycle → Edge
at s w fall v = record { driver = Slot s; wire = w; fall = fall; value = v }

abbrev pub at_head : Wire → Bool → Option Cycle → Edge
at_head w fall v = record { driver = Controller; wire = w; fall = fall; value = v }

-- what an allowed edge of a board says about it
pub record IsDriven (p : Plan) (h : List Edge) (s : ℕ) (r : Row) (w : Wire) (fall : Bool) (v : Option Cycle) : Type 0 where
  pub wire : has_wire (Slot s) w ≡ true
  pub drives : drives w r ≡ true
  pub before : drive h (Slot s) w ≡ not fall
  pub value : has_value w fall v ≡ true

value_of : (version : Version) (p : Plan) (h : List Edge) (e : Edge) → verdict_but_full version p h e ≡ Ok tt → has_value e.wire e.fall e.value ≡ true
value_of version p h e l =
    let a = checked (is_well_formed e && has_driver p e.driver e.wire) NoSuchDriver _ l in
    and_right (has_wire e.driver e.wire) (has_value e.wire e.fall e.value) (and_left (is_well_formed e) (has_driver p e.driver e.wire) a.0)

pub driven : (version : Version) (p : Plan) (h : List Edge) (s : ℕ) (r : Row) (w : Wire) (fall : Bool) (v : Option Cycle) → board p s ≡ Some r → verdict_but_full version p h (at s w fall v) ≡ Ok tt
    → IsDriven p h s r w fall v
driven version p h s r w fall v found l =
    let passed = all_passed version p h (Slot s) w fall v l in
    record {
      wire = passed.wire;
      drives = subst (λ (o : Option Row). option_map_or (drives w) o false ≡ true) found passed.exists;
      before = passed.before;
      value = value_of version p h (at s w fall v) l;
    }

pub same_self : (w : Wire) → is_same_wire w w ≡ true
same_self (Bg n) = grind (arith, nat_tests)
same_self Bclr = refl
same_self Iack = refl
same_self Berr = refl
same_self Br = refl
same_self BgOut = refl
same_self Bbsy = refl
same_self Addr = refl
same_self AddressStrobe = refl
same_self DataStrobe = refl
same_self Irq = refl
same_self IackOut = refl
same_self Dtack = refl

self : (n : ℕ) → (n == n) ≡ true
self n = grind (arith, nat_tests)

pub own_edge : (s t : ℕ) (w : Wire) (fall : Bool) (v : Option Cycle) → t ≡ s → is_edge_of (Slot t) w (at s w fall v) ≡ true
own_edge s t w fall v same = both (is_same_wire w w) (s == t) (same_self w) (subst (λ x. (s == x) ≡ true) (sym same) (self s))
  where
    both : (a b : Bool) → a ≡ true → b ≡ true → (a && b) ≡ true
    both a b e f = grind arith

pub own_after : (h : List Edge) (s t : ℕ) (w : Wire) (fall : Bool) (v : Option Cycle) → t ≡ s → drive (at s w fall v ∷ h) (Slot t) w ≡ fall
own_after h s t w fall v same = ap (λ b. if b then fall else drive h (Slot t) w) (own_edge s t w fall v same)

pub flipped : (a b : ℕ) → (a == b) ≡ false → (b == a) ≡ false
flipped a b e = grind (arith, nat_tests)

-- an edge of a board leaves the level last granted
pub level_kept : (h : List Edge) (s : ℕ) (w : Wire) (fall : Bool) (v : Option Cycle) → has_wire (Slot s) w ≡ true → last_level h ≡ last_level (at s w fall v ∷ h)
level_kept h s w fall v has = sym (ap (λ b. if b then grant_level w else last_level h) (neither fall (is_grant_wire w) (no_grant w has)))
  where
    neither : (a b : Bool) → b ≡ false → (a && b) ≡ false
    neither true b off = off
    neither false b off = refl

    no_grant : (x : Wire) → has_wire (Slot s) x ≡ true → is_grant_wire x ≡ false
    no_grant (Bg n) has = absurd (cc)
    no_grant Bclr has = refl
    no_grant Iack has = refl
    no_grant Berr has = refl
    no_grant Br has = refl
    no_grant BgOut has = refl
    no_grant Bbsy has = refl
    no_grant Addr has = refl
    no_grant AddressStrobe has = refl
    no_grant DataStrobe has = refl
    no_grant Irq has = refl
    no_grant IackOut has = refl
    no_grant Dtack has = refl
