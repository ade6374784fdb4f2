-- What covers a part of a bus covers it in a union.
use Rattle.std.proofs.Common.{◌≡◌, ◌∙◌, ◌⊎◌, ◌<◌, ℕ, Bool, true, List, arith, inl, inr}
use Rattle.std.specs.Prelude.{◌||◌, nat_lt}
use Rattle.std.proofs.lemmas.Bool.Decides.{nat_tests}
use Rattle.vme_bus.specs.declared.sets.SlotSet.{SlotSet}
use Rattle.vme_bus.specs.Sets.{has}
use Rattle.vme_model.specs.Plan.{Plan}
use Rattle.vme_model.specs.Settling.{is_chain_clear}
use Rattle.vme_model.specs.declared.sets.ChainId.TheVariants.{Iack}
use Rattle.vme_model.proofs.Bools.{and_left, and_right}
use Rattle.vme_model.specs.declared.signals.Edge.{Edge}
use Rattle.vme_model.specs.declared.signals.Wire.{Wire}
use Rattle.vme_standings.specs.declared.fronts.Fronts.{Fronts}
use Rattle.vme_standings.specs.declared.phases.GrantPhase.{GrantPhase}
use Rattle.vme_standings.specs.declared.phases.GrantPhase.TheVariants.{Idle, Granting, Held, Expired}
use Rattle.vme_standings.specs.declared.phases.GrantPhases.{GrantPhases}
use Rattle.vme_standings.specs.declared.requests.Requests.{Requests}
use Rattle.vme_standings.specs.Cycles.{CoversDrivers}
use Rattle.vme_standings.specs.FrontCovers.{CoversFronts, HasComeTo}
use Rattle.vme_standings.specs.Phases.{has_phase, is_in_table}
use Rattle.vme_standings.specs.Requests.{CoversRequests, request_of}
use Rattle.vme_standings.specs.RequestSets.{may_be}
use Rattle.vme_standings.proofs.Tests.{or_left, or_true}
use Rattle.vme_standings.specs.Unions.{UnitesFronts, UnitesPhases, UnitesRequests, UnitesSlots}

pub left : (x a b : Bool) → x ≡ (a || b) → a ≡ true → x ≡ true
left x a b e l = e ∙ or_left a b l

pub right : (x a b : Bool) → x ≡ (a || b) → b ≡ true → x ≡ true
right x a b e l = e ∙ or_true a b l

pub either_way : (x a b : Bool) → x ≡ (a || b) → (a ≡ true) ⊎ (b ≡ true) → x ≡ true
either_way x a b e (inl l) = left x a b e l
either_way x a b e (inr r) = right x a b e r

pub requests_covered : (p : Plan) (h : List Edge) (a b new : Requests) → UnitesRequests a b new → CoversRequests p h (may_be a) ⊎ CoversRequests p h (may_be b) → CoversRequests p h (may_be new)
requests_covered p h a b new unites (inl covers) s is = left (may_be new s (request_of p h s)) (may_be a s (request_of p h s)) (may_be b s (request_of p h s)) (unites s (request_of p h s))
    (covers s is)
requests_covered p h a b new unites (inr covers) s is = right (may_be new s (request_of p h s)) (may_be a s (request_of p h s)) (may_be b s (request_of p h s)) (unites s (request_of p h s))
    (covers s is)

pub drivers_covered : (h : List Edge) (w : Wire) (a b new : SlotSet) → UnitesSlots a b new → CoversDrivers h w a ⊎ CoversDrivers h w b → CoversDrivers h w new
drivers_covered h w a b new unites (inl covers) s is = left (has new s) (has a s) (has b s) (unites s) (covers s is)
drivers_covered h w a b new unites (inr covers) s is = right (has new s) (has a s) (has b s) (unites s) (covers s is)

-- the acknowledge has not begun, or it has come to a place, as the set says
abbrev Stands : Plan → List Edge → Fronts → Type 0
Stands p h f =
    ((is_chain_clear p h Iack ≡ true) × (f.waiting ≡ true))
    ⊎ ((place : ℕ) × HasComeTo p h place × (has f.ends place ≡ true))

from_one : (p : Plan) (h : List Edge) (a b new : Fronts) → UnitesFronts a b new → Stands p h a → Stands p h new
from_one p h a b new unites (inl clear) = inl (clear.0, left new.waiting a.waiting b.waiting unites.waiting clear.1)
from_one p h a b new unites (inr come) = inr (come.0, come.1, left (has new.ends come.0) (has a.ends come.0) (has b.ends come.0) (unites.ends come.0) come.2)

from_other : (p : Plan) (h : List Edge) (a b new : Fronts) → UnitesFronts a b new → Stands p h b → Stands p h new
from_other p h a b new unites (inl clear) = inl (clear.0, right new.waiting a.waiting b.waiting unites.waiting clear.1)
from_other p h a b new unites (inr come) = inr (come.0, come.1, right (has new.ends come.0) (has a.ends come.0) (has b.ends come.0) (unites.ends come.0) come.2)

pub fronts_covered : (p : Plan) (h : List Edge) (a b new : Fronts) → UnitesFronts a b new → CoversFronts p h a ⊎ CoversFronts p h b → CoversFronts p h new
fronts_covered p h a b new unites (inl covers) low = from_one p h a b new unites (covers low)
fronts_covered p h a b new unites (inr covers) low = from_other p h a b new unites (covers low)

near4 : (n : ℕ) → nat_lt n 4 ≡ true → n < 4
near4 n e = grind (arith, nat_tests)

near22 : (n : ℕ) → nat_lt n 22 ≡ true → n < 22
near22 n e = grind (arith, nat_tests)

pub phases_had : (a b new : GrantPhases) (q : GrantPhase) → UnitesPhases a b new → is_in_table q ≡ true → (has_phase a q ≡ true) ⊎ (has_phase b q ≡ true) → has_phase new q ≡ true
phases_had a b new (Idle c) unites near one = either_way _ _ _ (unites.idle c (near4 c near)) one
phases_had a b new (Granting c t) unites near one =
    let m : t < 22 = near22 t (and_right (nat_lt c 4) (nat_lt t 22) near) in
    either_way _ _ _ (unites.granting c t (near4 c (and_left (nat_lt c 4) (nat_lt t 22) near)) (omega (arith, m))) one
phases_had a b new (Held c t) unites near one =
    let m : t < 22 = near22 t (and_right (nat_lt c 22) (nat_lt t 22) near) in
    either_way _ _ _ (unites.held c t (near22 c (and_left (nat_lt c 22) (nat_lt t 22) near)) (omega (arith, m))) one
phases_had a b new (Expired c t) unites near one =
    let m : t < 22 = near22 t (and_right (nat_lt c 4) (nat_lt t 22) near) in
    either_way _ _ _ (unites.expired c t (near4 c (and_left (nat_lt c 4) (nat_lt t 22) near)) (omega (arith, m))) one
