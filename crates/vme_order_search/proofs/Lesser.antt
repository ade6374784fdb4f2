-- Which of two lists of places is the lesser.
use Rattle.std.proofs.Common.{inl, inr, ◌<◌, ◌∷◌, ℕ, List, [], sym, ◌∙◌, subst, ap, arith}
use Rattle.vme_moments.specs.Orders.{IsLesser}
use Rattle.vme_order_search.specs.Searching.{IsAtMost}

pub lesser_trans : (a b c : List ℕ) → IsLesser a b → IsLesser b c → IsLesser a c
lesser_trans [] b c h g = absurd h
lesser_trans (i ∷ a) [] c h g = absurd h
lesser_trans (i ∷ a) (j ∷ b) [] h g = absurd g
lesser_trans (i ∷ a) (j ∷ b) (k ∷ c) (inl h) (inl g) = inl (lesser_trans a b c h g)
lesser_trans (i ∷ a) (j ∷ b) (k ∷ c) (inl h) (inr g) = inl (subst (λ l. IsLesser a l) g.0 h)
lesser_trans (i ∷ a) (j ∷ b) (k ∷ c) (inr h) (inl g) = inl (subst (λ l. IsLesser l c) (sym h.0) g)
lesser_trans (i ∷ a) (j ∷ b) (k ∷ c) (inr h) (inr g) =
    inr (
      h.0 ∙ g.0,
      (let first : i < j = h.1 in let other : j < k = g.1 in
          let both : i < k = omega arith in both),
    )

pub lesser_self : (a : List ℕ) → IsLesser a a → ⊥
lesser_self [] h = h
lesser_self (i ∷ a) (inl h) = lesser_self a h
lesser_self (i ∷ a) (inr h) = absurd (let lt : i < i = h.1 in omega arith)

pub at_most_lesser : (a b c : List ℕ) → IsAtMost a b → IsLesser b c → IsLesser a c
at_most_lesser a b c (inl e) h = subst (λ l. IsLesser l c) (sym e) h
at_most_lesser a b c (inr g) h = lesser_trans a b c g h

pub lesser_at_most : (a b c : List ℕ) → IsLesser a b → IsAtMost b c → IsLesser a c
lesser_at_most a b c h (inl e) = subst (λ l. IsLesser a l) e h
lesser_at_most a b c h (inr g) = lesser_trans a b c h g

pub at_most_longer : (j : ℕ) (a b : List ℕ) → IsAtMost a b → IsAtMost (j ∷ a) (j ∷ b)
at_most_longer j a b (inl e) = inl (ap (λ l. j ∷ l) e)
at_most_longer j a b (inr h) = inr (inl h)

-- a lesser place behind what is not greater
pub lesser_place : (i j : ℕ) (a b : List ℕ) → IsAtMost a b → i < j → IsLesser (i ∷ a) (j ∷ b)
lesser_place i j a b (inl e) lt = inr (e, lt)
lesser_place i j a b (inr h) lt = inl h
