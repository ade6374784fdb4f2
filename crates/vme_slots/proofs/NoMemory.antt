-- No fault of a plan is want of memory.
use Rattle.std.proofs.Common.{◌≡◌, refl, Bool, true, false, ap, ◌∙◌, sym, ℕ, List, [], ◌∷◌, map}
use Rattle.std.specs.Prelude.{Option, Some, None, option_map, find, is_none, nat_lt}
use Rattle.std.specs.Option.{option_map_or}
use Rattle.std.proofs.lemmas.Bool.{false≢true}
use Rattle.vme_model.specs.declared.boards.Row.{Row}
use Rattle.vme_model.specs.declared.sets.ChainId.{ChainId}
use Rattle.vme_model.specs.declared.refusals.Field.{Field}
use Rattle.vme_model.specs.declared.refusals.PlanError.{PlanError}
use Rattle.vme_model.specs.declared.refusals.PlanError.TheVariants as error
use Rattle.vme_model.specs.Plan.{Plan, board, up_to}
use Rattle.vme_model.specs.Accepted.{first_of, when, plan_fault, too_many_slots, out_of_range, no_controller, slot_twice, chain_broken, is_broken, chains, level_not_served, handler_twice, handler_without_requester}

abbrev is_memory : PlanError → Bool
is_memory error.Memory = true
is_memory _ = false

record IsPlain (o : Option PlanError) : Type 0 where
  plain : option_map_or is_memory o false ≡ false

-- no first value is P9, if neither the first one nor those after it are
plain_first : (a : Option PlanError) (rest : List (Option PlanError)) → IsPlain a → IsPlain (first_of rest) → IsPlain (first_of (a ∷ rest))
plain_first None rest here later = later
plain_first (Some e) rest here later = here

plain_when : (b : Bool) (e : PlanError) → is_memory e ≡ false → IsPlain (when b e)
plain_when true e plain = record { plain = plain }
plain_when false e plain = record { plain = refl }

plain_map : {A : Type 0} (f : A → PlanError) (o : Option A) → ((a : A) → is_memory (f a) ≡ false) → IsPlain (option_map f o)
plain_map f None plain = record { plain = refl }
plain_map f (Some a) plain = record { plain = plain a }

plain_each : {A : Type 0} (f : A → Option PlanError) (xs : List A) → ((x : A) → IsPlain (f x)) → IsPlain (first_of (map f xs))
plain_each f [] plain = record { plain = refl }
plain_each f (x ∷ xs) plain = plain_first (f x) (map f xs) (plain x) (plain_each f xs plain)

-- none of the faults is P9
plain_fault : (p : Plan) → IsPlain (plan_fault p)
plain_fault p =
    plain_first (too_many_slots p) _ (plain_when (nat_lt 21 p.slots) _ refl) (
    plain_first (out_of_range p) _ (plain_map (λ (f : Field). error.OutOfRange f) _ (λ f. refl)) (
    plain_first (no_controller p) _ (plain_when (is_none (board p 1)) _ refl) (
    plain_first (slot_twice p) _ (plain_map (λ (s : ℕ). error.SlotTwice s) _ (λ s. refl)) (
    plain_first (chain_broken p) _ (plain_each (λ (s : ℕ). option_map (λ c. error.ChainBroken s c) (find (is_broken p s) chains)) (up_to p.slots)
    (λ s. plain_map (λ (c : ChainId). error.ChainBroken s c) _ (λ c. refl))) (
    plain_first (level_not_served p) _ (plain_map (λ (r : Row). error.LevelNotServed r.slot) _ (λ r. refl)) (
    plain_first (handler_twice p) _ (plain_map (λ (v : ℕ). error.HandlerTwice v) _ (λ v. refl)) (
    plain_first (handler_without_requester p) _ (plain_map (λ (r : Row). error.HandlerWithoutRequester r.slot) _ (λ r. refl)) (record { plain = refl }))))))))

pub fault_is_plain : (p : Plan) → plan_fault p ≡ Some error.Memory → ⊥
fault_is_plain p e = false≢true (sym (plain_fault p).plain ∙ ap (λ o. option_map_or is_memory o false) e)
