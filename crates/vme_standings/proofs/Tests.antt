-- Tests of sets that hold and fail: `Requests::falls`, `acknowledged`, `passed`.
use Rattle.std.proofs.Common.{◌≡◌, ◌⊎◌, ℕ, Bool, true, false, refl, inl, inr, arith}
use Rattle.std.specs.Prelude.{◌&&◌, ◌||◌, not}
use Rattle.vme_bus.specs.Sets.{has}
use Rattle.vme_standings.specs.declared.requests.Request.{Request}
use Rattle.vme_standings.specs.declared.requests.Request.TheVariants.{High, Pending, Served}
use Rattle.vme_standings.specs.declared.requests.Requests.{Requests}
use Rattle.vme_standings.specs.RequestSets.{may_be}

pub is_false : (b : Bool) → (b ≡ true → ⊥) → b ≡ false
is_false true h = absurd (h refl)
is_false false h = refl

pub never : (b : Bool) → b ≡ true → b ≡ false → ⊥
never b on off = cc

-- a test decides what it tells
pub by_test : {X : Type 0} (b : Bool) → (b ≡ true → X) → (X → b ≡ true) → X ⊎ (X → ⊥)
by_test true f g = inl (f refl)
by_test false f g = inr (λ x. never false (g x) refl)

pub or_left : (a b : Bool) → a ≡ true → (a || b) ≡ true
or_left a b e = grind arith

pub both : (a b : Bool) → a ≡ true → b ≡ true → (a && b) ≡ true
both a b e f = grind arith

pub or_true : (a b : Bool) → b ≡ true → (a || b) ≡ true
or_true a b e = grind arith

pub or_false : (a b : Bool) → b ≡ false → (a || b) ≡ a
or_false a b e = grind arith

pub and_not_true : (a b : Bool) → b ≡ true → (a && not b) ≡ false
and_not_true a b e = grind arith

pub and_not_false : (a b : Bool) → b ≡ false → (a && not b) ≡ a
and_not_false a b e = grind arith

pub and_false : (a b : Bool) → a ≡ false → (a && b) ≡ false
and_false a b e = grind arith

pub and_false_right : (a b : Bool) → b ≡ false → (a && b) ≡ false
and_false_right a b e = grind arith

pub and_true : (a b : Bool) → a ≡ true → (a && b) ≡ b
and_true a b e = grind arith

-- what is new is there, where what was there is not
pub what_is_new : (new kept more old on : Bool) → new ≡ (kept || more) → kept ≡ (old && not on) → on ≡ true → new ≡ true → more ≡ true
what_is_new new kept more old on e f g h = grind arith

-- one request stands as before
pub same_states : (old new : Requests) (s : ℕ) → has new.high s ≡ has old.high s → has new.pending s ≡ has old.pending s → has new.served s ≡ has old.served s
    → (r : Request) → may_be new s r ≡ may_be old s r
same_states old new s a b c High = a
same_states old new s a b c Pending = b
same_states old new s a b c Served = c
