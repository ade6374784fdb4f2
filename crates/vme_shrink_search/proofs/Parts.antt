-- Lists with edges left out.
use Rattle.std.proofs.Common.{◌≡◌, inl, inr, ◌≤◌, ◌++◌, ◌∷◌, [], ℕ, zero, suc, List, Bool, true, false, is_ok, length, take, drop, if◌then◌else◌, refl, sym, ◌∙◌, subst, arith}
use Rattle.vme_model.specs.declared.signals.Edge.{Edge}
use Rattle.vme_model.specs.Verdict.{State, verdict, made}
use Rattle.vme_shrink_search.specs.Stories.{IsPart, without}
use Rattle.vme_shrink_search.proofs.Lists.{lasting, accepted_lasting}

pub part_more : (g : List Edge) (f : Edge) (h : List Edge) → IsPart g h → IsPart g (f ∷ h)
part_more [] f h p = tt
part_more (e ∷ g) f h p = inr p

pub part_same : (g : List Edge) → IsPart g g
part_same [] = tt
part_same (e ∷ g) = inl (refl, part_same g)

pub part_of_part : (f g h : List Edge) → IsPart f g → IsPart g h → IsPart f h
part_of_part [] g h p q = tt
part_of_part (x ∷ f) [] h p q = absurd p
part_of_part (x ∷ f) (y ∷ g) [] p q = absurd q
part_of_part (x ∷ f) (y ∷ g) (z ∷ h) p (inr q) = inr (part_of_part (x ∷ f) (y ∷ g) h p q)
part_of_part (x ∷ f) (y ∷ g) (z ∷ h) (inl p) (inl q) =
    inl (p.0 ∙ q.0, part_of_part f g h p.1 q.1)
part_of_part (x ∷ f) (y ∷ g) (z ∷ h) (inr p) (inl q) = inr (part_of_part (x ∷ f) g h p q.1)

part_by : (b : State) (e : Edge) (es : List Edge) → IsPart (lasting (made b e) es) es
    → IsPart (lasting b es) es
    → (t : Bool) → IsPart (if t then e ∷ lasting (made b e) es else lasting b es) (e ∷ es)
part_by b e es one other true = inl (refl, one)
part_by b e es one other false = part_more (lasting b es) e es other

lasting_part : (b : State) (es : List Edge) → IsPart (lasting b es) es
lasting_part b [] = tt
lasting_part b (e ∷ es) =
    part_by b e es (lasting_part (made b e) es) (lasting_part b es) (is_ok (verdict b e))

drop_part : (n : ℕ) (g : List Edge) → IsPart (drop n g) g
drop_part zero g = part_same g
drop_part (suc n) [] = tt
drop_part (suc n) (e ∷ g) = part_more (drop n g) e g (drop_part n g)

left_part : (from to : ℕ) (g : List Edge) → from ≤ to → IsPart (take from g ++ drop to g) g
left_part zero to g le = drop_part to g
left_part (suc from) zero g le = absurd (omega arith)
left_part (suc from) (suc to) [] le = tt
left_part (suc from) (suc to) (e ∷ g) le = inl (refl, left_part from to g (omega arith))

-- what is left with a stretch left out
pub without_part : (b : State) (g : List Edge) (from to : ℕ) → b.history ≡ [] → from ≤ to
    → IsPart (without b g from to) g
without_part b g from to none le =
    let left : List Edge = take from g ++ drop to g in
    part_of_part (without b g from to) left g
    (subst (λ l. IsPart l left) (sym (accepted_lasting b left none)) (lasting_part b left))
    (left_part from to g le)

pub part_few : (g h : List Edge) → IsPart g h → length g ≤ length h
part_few [] h p = omega arith
part_few (e ∷ g) [] p = absurd p
part_few (e ∷ g) (f ∷ h) (inl p) = let few = part_few g h p.1 in omega (arith, few)
part_few (e ∷ g) (f ∷ h) (inr p) = let few = part_few (e ∷ g) h p in omega (arith, few)
