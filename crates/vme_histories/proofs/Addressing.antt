-- The slot whose address group is on, and what it shows, after an edge of an address group.
use Rattle.std.proofs.Common.{◌≡◌, ◌∙◌, refl, sym, ap, subst, ℕ, zero, suc, Bool, true, false, List, [], ◌∷◌, ◌++◌, arith}
use Rattle.std.specs.Prelude.{◌==◌, if◌then◌else◌, Option, Some, None, Ok, find}
use Rattle.std.specs.Option.{option_and_then}
use Rattle.std.proofs.lemmas.Bool.Decides.{nat_tests}
use Rattle.vme_model.specs.declared.boards.Row.{Row}
use Rattle.vme_model.specs.declared.signals.Version.{Version}
use Rattle.vme_model.specs.declared.signals.Driver.TheVariants.{Controller, Slot}
use Rattle.vme_model.specs.declared.signals.Wire.{Wire}
use Rattle.vme_model.specs.declared.signals.Wire.TheVariants.{Bg, Bclr, Iack, Berr, Br, BgOut, Bbsy, Addr, AddressStrobe, DataStrobe, Irq, IackOut, Dtack}
use Rattle.vme_model.specs.declared.signals.Cycle.{Cycle}
use Rattle.vme_model.specs.declared.signals.Edge.{Edge}
use Rattle.vme_model.specs.Signals.{has_value, has_wire}
use Rattle.vme_model.specs.Plan.{Plan, up_to}
use Rattle.vme_model.specs.Accepted.{IsAccepted}
use Rattle.vme_model.specs.History.{drive, addressing, shown, last_value}
use Rattle.vme_model.specs.Verdict.{IsLegal, verdict_but_full}
use Rattle.vme_model.specs.CycleSafety.{OneAddresses}
use Rattle.vme_model.specs.Safe.{OnEachPrefix}
use Rattle.vme_model.proofs.Bools.{is_false}
use Rattle.vme_model.proofs.Safety.{legal_is_safe}
use Rattle.vme_slots.proofs.Slots.{find_up_to_none, find_up_to_first}
use Rattle.vme_histories.specs.Shown.{addressing_after}
use Rattle.vme_histories.proofs.Others.{drive_same}
use Rattle.vme_histories.proofs.AllowedBoards.{Stands, IsDriven, at, at_head, own_edge, own_after}

whole : (P : List Edge → Type 0) (h : List Edge) → OnEachPrefix P h → P h
whole P [] each = each
whole P (e ∷ h) each = each.0

pub one_addresses : (version : Version) (p : Plan) (h : List Edge) → IsAccepted p → IsLegal version p h → OneAddresses h
one_addresses version p h ok legal = whole OneAddresses h (legal_is_safe version p h ok legal).one_addresses

-- if an address group goes on, no other one is on
going_on : (p : Plan) (h : List Edge) (s : ℕ) (r : Row) (v : Option Cycle) → Stands p s r → OneAddresses (at s Addr true v ∷ h) → addressing p (at s Addr true v ∷ h) ≡ Some s
going_on p h s r v k one =
    let e = at s Addr true v in
    let test = λ (t : ℕ). drive (e ∷ h) (Slot t) Addr in
    let own : test s ≡ true = own_after h s s Addr true v refl in
    find_up_to_first test p.slots s k.from_one k.to_last own
    (λ t low less. is_false (test t) (λ on. let same : t ≡ s = one t s on own in absurd (omega arith)))

-- if an address group goes off, none is left on
gone_off : (p : Plan) (h : List Edge) (s : ℕ) (v : Option Cycle) → drive h (Slot s) Addr ≡ true → OneAddresses h → addressing p (at s Addr false v ∷ h) ≡ None
gone_off p h s v was one =
    let e = at s Addr false v in
    let test = λ (t : ℕ). drive (e ∷ h) (Slot t) Addr in
    find_up_to_none test p.slots (λ t low high. is_false (test t) (λ on. not_on t on (s == t) refl))
  where
    not_on : (t : ℕ) → drive (at s Addr false v ∷ h) (Slot t) Addr ≡ true → (b : Bool) → (s == t) ≡ b → ⊥
    not_on t on true is =
        let same : t ≡ s = grind (arith, nat_tests) in
        let off = own_after h s t Addr false v same in
        let bad : false ≡ true = sym off ∙ on in cc
    not_on t on false is =
        let before : drive h (Slot t) Addr ≡ true = sym (drive_same h (at s Addr false v) (Slot t) Addr is) ∙ on in
        let same : t ≡ s = one t s before was in
        absurd (grind (arith, nat_tests))

no_value : (v : Option Cycle) → has_value Addr false v ≡ true → None ≡ v
no_value None e = refl
no_value (Some c) e = absurd (cc)

pub record IsShown (p : Plan) (h : List Edge) (s : ℕ) (fall : Bool) (v : Option Cycle) : Type 0 where
  pub addressing : addressing p (at s Addr fall v ∷ h) ≡ addressing_after (addressing p h) s Addr fall
  pub shown : shown p (at s Addr fall v ∷ h) ≡ v

pub showing : (version : Version) (p : Plan) (h : List Edge) (s : ℕ) (r : Row) (fall : Bool) (v : Option Cycle) → IsAccepted p → IsLegal version p h → verdict_but_full version p h (at s Addr fall v)
    ≡ Ok tt → Stands p s r → IsDriven p h s r Addr fall v → IsShown p h s fall v
showing version p h s r true v ok legal allowed k d =
    let on = going_on p h s r v k (one_addresses version p (at s Addr true v ∷ h) ok (allowed, legal)) in
    record {
      addressing = on;
      shown = ap (option_and_then (λ t. last_value (at s Addr true v ∷ h) (Slot t))) on ∙ ap (λ b. if b then v else last_value h (Slot s)) (own_edge s s Addr true v refl);
    }
showing version p h s r false v ok legal allowed k d =
    let off = gone_off p h s v d.before (one_addresses version p h ok legal) in
    record {
      addressing = off;
      shown = ap (option_and_then (λ t. last_value (at s Addr false v ∷ h) (Slot t))) off ∙ no_value v d.value;
    }

-- what is shown at an edge of the wire that is known to be the address group
pub record IsShownAt (p : Plan) (h : List Edge) (s : ℕ) (w : Wire) (fall : Bool) (v : Option Cycle) : Type 0 where
  pub addressing : addressing p (at s w fall v ∷ h) ≡ addressing_after (addressing p h) s w fall
  pub shown : shown p (at s w fall v ∷ h) ≡ v

pub shown_at : (version : Version) (p : Plan) (h : List Edge) (s : ℕ) (r : Row) (w : Wire) (fall : Bool) (v : Option Cycle) → IsAccepted p → IsLegal version p h → verdict_but_full version p h
    (at s w fall v) ≡ Ok tt → Stands p s r → IsDriven p h s r w fall v → w ≡ Addr → IsShownAt p h s w fall v
shown_at version p h s r w fall v ok legal allowed k d is =
    let P : Wire → Type 0 = λ x. verdict_but_full version p h (at s x fall v) ≡ Ok tt → IsDriven p h s r x fall v → IsShownAt p h s x fall v in
    let all : P Addr = λ a b. let shows = showing version p h s r fall v ok legal a k b in record { addressing = shows.addressing; shown = shows.shown } in
    subst P (sym is) all allowed d

-- the slot whose address group is on
pub addressing_by : (p : Plan) (h : List Edge) (s : ℕ) (w : Wire) (fall : Bool) (v : Option Cycle) → has_wire (Slot s) w ≡ true
    → (w ≡ Addr → addressing p (at s w fall v ∷ h) ≡ addressing_after (addressing p h) s w fall) → addressing_after (addressing p h) s w fall ≡ addressing p (at s w fall v ∷ h)
addressing_by p h s Addr fall v has on = sym (on refl)
addressing_by p h s Br fall v has on = refl
addressing_by p h s BgOut fall v has on = refl
addressing_by p h s Bbsy fall v has on = refl
addressing_by p h s AddressStrobe fall v has on = refl
addressing_by p h s DataStrobe fall v has on = refl
addressing_by p h s Irq fall v has on = refl
addressing_by p h s IackOut fall v has on = refl
addressing_by p h s Dtack fall v has on = refl
addressing_by p h s w fall v has on = absurd (cc)

pub addressing_kept : (p : Plan) (h : List Edge) (w : Wire) (fall : Bool) (v : Option Cycle) → has_wire Controller w ≡ true → addressing p h ≡ addressing p (at_head w fall v ∷ h)
addressing_kept p h (Bg n) fall v has = refl
addressing_kept p h Bclr fall v has = refl
addressing_kept p h Iack fall v has = refl
addressing_kept p h Berr fall v has = refl
addressing_kept p h w fall v has = absurd (cc)

-- before any edge no slot passes the test
pub none_on : (n : ℕ) → find (λ s. false) (up_to n) ≡ None
none_on zero = refl
none_on (suc n) = skip (up_to n) (none_on n)
  where
    skip : (xs : List ℕ) → find (λ (s : ℕ). false) xs ≡ None → find (λ (s : ℕ). false) (xs ++ suc n ∷ []) ≡ None
    skip [] e = refl
    skip (x ∷ xs) e = skip xs e

pub none_addresses : (p : Plan) → None ≡ addressing p []
none_addresses p = sym (none_on p.slots)
