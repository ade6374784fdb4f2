-- The second version of the rules allows everything that the first one allows.
use Rattle.std.proofs.Common.{◌≡◌, ℕ, Bool, true, false, List, [], ◌∷◌, Option, Ok, refl, arith}
use Rattle.std.specs.Prelude.{◌&&◌, ◌||◌, not}
use Rattle.std.specs.List.{list_all}
use Rattle.vme_model.specs.declared.boards.Row.{Row}
use Rattle.vme_model.specs.declared.refusals.Refused.TheVariants.{NoSuchDriver, AlreadyThere, Rule, NotSettled}
use Rattle.vme_model.specs.declared.signals.Version.TheVariants.{One, Two}
use Rattle.vme_model.specs.declared.signals.Edge.{Edge}
use Rattle.vme_model.specs.declared.signals.Cycle.{Cycle}
use Rattle.vme_model.specs.declared.signals.Driver.{Driver}
use Rattle.vme_model.specs.declared.signals.Driver.TheVariants.{Controller, Slot}
use Rattle.vme_model.specs.declared.signals.Wire.{Wire}
use Rattle.vme_model.specs.declared.signals.Wire.TheVariants.{Bg, Br, BgOut, Bbsy}
use Rattle.vme_model.specs.Plan.{Plan, grant_chain}
use Rattle.vme_model.specs.Accepted.{IsAccepted}
use Rattle.vme_model.specs.History.{drive, line, is_past_end}
use Rattle.vme_model.specs.Verdict.{IsLegal, verdict_but_full, check}
use Rattle.vme_model.proofs.Bools.{and_left, and_right, not_true}
use Rattle.vme_model.proofs.Ranges.{IsInRange, in_range}
use Rattle.vme_model.proofs.Members.{on}
use Rattle.vme_model.proofs.GrantPhases.{clear_before}
use Rattle.vme_model.proofs.AllowedEdges.{all_passed, checked}
use Rattle.vme_model.proofs.Grants.{Now, grant_wires, now_of, all_free, grants_high}

all_high : (f : ℕ → Bool) → ((s : ℕ) → f s ≡ false) → (rows : List Row) → list_all (λ r. not (f r.slot)) rows ≡ true
all_high f h [] = refl
all_high f h (row ∷ rows) = both (f row.slot) (list_all (λ r. not (f r.slot)) rows) (h row.slot) (all_high f h rows)
  where
    both : (x y : Bool) → x ≡ false → y ≡ true → (not x && y) ≡ true
    both x y e f = grind arith

-- the four tests, again
again : (a b : Bool) (named settles : ℕ × Bool) → a ≡ true → b ≡ true → named.1 ≡ true → settles.1 ≡ true
    → check a NoSuchDriver (check b AlreadyThere (check named.1 (Rule named.0) (check settles.1 (NotSettled settles.0) (Ok tt)))) ≡ Ok tt
again a b named settles e f g h = cc

or_left : (x y : Bool) → x ≡ true → (x || y) ≡ true
or_left x y e = grind arith

allowed_too : (p : Plan) → IsInRange p → (h : List Edge) (d : Driver) (w : Wire) (fall : Bool) (v : Option Cycle) → verdict_but_full One p h (record { driver = d; wire = w; fall = fall; value = v })
    ≡ Ok tt → Now One p h → verdict_but_full Two p h (record { driver = d; wire = w; fall = fall; value = v }) ≡ Ok tt
allowed_too p range h Controller (Bg n) true v l now =
    let a = checked _ NoSuchDriver _ l in
    let b = checked _ AlreadyThere _ a.1 in
    let q = all_passed One p h Controller (Bg n) true v l in
    let r = and_left _ _ q.rule in
    again _ _ _ _ a.0 b.0 q.rule (all_high (λ s. drive h (Slot s) BgOut) (clear_before (on p) p.slots false refl (grant_wires p h) (grants_high (λ m. drive h Controller (Bg m)) (and_left _ _ r))
    (all_free p range h (not_true _ (and_right _ _ r))) now) p.rows)
allowed_too p range h Controller (Bg n) false v l now =
    let a = checked _ NoSuchDriver _ l in
    let b = checked _ AlreadyThere _ a.1 in
    let q = all_passed One p h Controller (Bg n) false v l in
    again _ _ (2, true) (3, (line p h Bbsy || is_past_end p h (grant_chain n))) a.0 b.0 refl (or_left (line p h Bbsy) (is_past_end p h (grant_chain n)) q.rule)
allowed_too p range h (Slot s) Br false v l now =
    let a = checked _ NoSuchDriver _ l in
    let b = checked _ AlreadyThere _ a.1 in
    again _ _ (10, true) (0, true) a.0 b.0 refl refl
allowed_too p range h (Slot s) Br true v l now = l
allowed_too p range h d w true v l now = l
allowed_too p range h d w false v l now = l

legal_in : (p : Plan) → IsInRange p → (h : List Edge) → IsLegal One p h → IsLegal Two p h
legal_in p range [] l = tt
legal_in p range (e ∷ h) l = (allowed_too p range h e.driver e.wire e.fall e.value l.0 (now_of One p range h l.1), legal_in p range h l.1)

pub legal_in_second : (p : Plan) (h : List Edge) → IsAccepted p → IsLegal One p h → IsLegal Two p h
legal_in_second p h accepted l = legal_in p (in_range p accepted) h l
