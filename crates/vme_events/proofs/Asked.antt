-- `before`: of two requests that are low the older one has the smaller number.
use Rattle.std.proofs.Common.{◌≡◌, ◌∙◌, ℕ, ◌+◌, ◌<◌, ◌≤◌, Bool, true, false, List, [], ◌∷◌, length, Option, Some, None, refl, sym, ap, subst, arith}
use Rattle.std.specs.Prelude.{◌&&◌, if◌then◌else◌, nat_lt, is_some, unwrap_or}
use Rattle.std.proofs.lemmas.Bool.Decides.{nat_tests}
use Rattle.vme_model.specs.declared.signals.Driver.{Driver}
use Rattle.vme_model.specs.declared.signals.Wire.{Wire}
use Rattle.vme_model.specs.declared.signals.Edge.{Edge}
use Rattle.vme_model.specs.Signals.{is_edge_of}
use Rattle.vme_model.specs.History.{drive}
use Rattle.vme_model.specs.Numbered.{Numbered, edges_in, since}
use Rattle.vme_model.proofs.Numbers.{low_has_since}
use Rattle.vme_events.specs.Events.{fell_at}
use Rattle.vme_events.specs.Places.{AreBelow}

-- the place of the driver's last edge of the wire
abbrev moved_at : List Edge → Driver → Wire → ℕ
moved_at [] d w = 0
moved_at (e ∷ h) d w = if is_edge_of d w e then length h + 1 else moved_at h d w

moved_within : (h : List Edge) (d : Driver) (w : Wire) → moved_at h d w ≤ length h
moved_within [] d w = omega arith
moved_within (e ∷ h) d w = within (is_edge_of d w e) (moved_within h d w)
  where
    within : (t : Bool) → moved_at h d w ≤ length h → (if t then length h + 1 else moved_at h d w) ≤ length (e ∷ h)
    within true le = omega arith
    within false le = omega (arith, le)

-- where a wire is low, its last edge is a fall
low_fell : (h : List Edge) (d : Driver) (w : Wire) → drive h d w ≡ true → fell_at h d w ≡ moved_at h d w
low_fell [] d w low = refl
low_fell (e ∷ h) d w low = at (is_edge_of d w e) e.fall low (low_fell h d w)
  where
    at : (t fall : Bool) → (if t then fall else drive h d w) ≡ true → (drive h d w ≡ true → fell_at h d w ≡ moved_at h d w)
        → (if fall && t then length h + 1 else fell_at h d w) ≡ (if t then length h + 1 else moved_at h d w)
    at true true low f = refl
    at true false low f = absurd (cc)
    at false true low f = f low
    at false false low f = f low

-- an edge has a number below the next one
since_below : (k : Numbered) (n : ℕ) (d : Driver) (w : Wire) (m : ℕ) → AreBelow n k → since k d w ≡ Some m → m < n
since_below [] n d w m below at = absurd (cc)
since_below ((o, e) ∷ k) n d w m below at = one (is_edge_of d w e) at (since_below k o d w m below.1)
  where
    one : (t : Bool) → (if t then Some o else since k d w) ≡ Some m → (since k d w ≡ Some m → m < o) → m < n
    one true at f = let same : o ≡ m = cc in let lt = below.0 in omega (arith, same, lt)
    one false at f = let first = f at in let lt = below.0 in omega (arith, first, lt)

-- numbers and places are in one order
same_order : (k : Numbered) (n : ℕ) (c d : Driver) (w : Wire) (i j : ℕ) → AreBelow n k → since k c w ≡ Some i → since k d w ≡ Some j
    → nat_lt i j ≡ nat_lt (moved_at (edges_in k) c w) (moved_at (edges_in k) d w)
same_order [] n c d w i j below first second = absurd (cc)
same_order ((o, e) ∷ k) n c d w i j below first second =
    one (is_edge_of c w e) (is_edge_of d w e) first second (λ f s. same_order k o c d w i j below.1 f s)
    (λ f. since_below k o c w i below.1 f) (λ s. since_below k o d w j below.1 s)
  where
    h : List Edge
    h = edges_in k

    one : (t u : Bool) → (if t then Some o else since k c w) ≡ Some i → (if u then Some o else since k d w) ≡ Some j
        → (since k c w ≡ Some i → since k d w ≡ Some j → nat_lt i j ≡ nat_lt (moved_at (edges_in k) c w) (moved_at (edges_in k) d w))
        → (since k c w ≡ Some i → i < o) → (since k d w ≡ Some j → j < o)
        → nat_lt i j ≡ nat_lt (if t then length (edges_in k) + 1 else moved_at (edges_in k) c w) (if u then length (edges_in k) + 1 else moved_at (edges_in k) d w)
    one true true first second f low high = let a : o ≡ i = cc in let b : o ≡ j = cc in grind (arith, nat_tests, a, b)
    one true false first second f low high =
        let a : o ≡ i = cc in let lt = high second in let le = moved_within (edges_in k) d w in grind (arith, nat_tests, a, lt, le)
    one false true first second f low high =
        let b : o ≡ j = cc in let lt = low first in let le = moved_within (edges_in k) c w in grind (arith, nat_tests, b, lt, le)
    one false false first second f low high = f first second

-- which of two low requests is older
older_at : (k : Numbered) (h : List Edge) (n : ℕ) (c d : Driver) (w : Wire) (i j : Option ℕ) → edges_in k ≡ h → AreBelow n k → drive h c w ≡ true → drive h d w ≡ true
    → since k c w ≡ i → since k d w ≡ j → is_some i ≡ true → is_some j ≡ true → nat_lt (unwrap_or i 0) (unwrap_or j 0) ≡ nat_lt (fell_at h c w) (fell_at h d w)
older_at k h n c d w None j same below first second at to one two = absurd (cc)
older_at k h n c d w (Some i) None same below first second at to one two = absurd (cc)
older_at k h n c d w (Some i) (Some j) same below first second at to one two =
    same_order k n c d w i j below at to
    ∙ ap (λ l. nat_lt (moved_at l c w) (moved_at l d w)) same
    ∙ ap (λ x. nat_lt x (moved_at h d w)) (sym (low_fell h c w first))
    ∙ ap (λ x. nat_lt (fell_at h c w) x) (sym (low_fell h d w second))

low_moved : (k : Numbered) (h : List Edge) (d : Driver) (w : Wire) → edges_in k ≡ h → drive h d w ≡ true → is_some (since k d w) ≡ true
low_moved k h d w same low = low_has_since k d w (ap (λ l. drive l d w) same ∙ low)

pub older : (k : Numbered) (h : List Edge) (n : ℕ) (c d : Driver) (w : Wire) → edges_in k ≡ h → AreBelow n k → drive h c w ≡ true → drive h d w ≡ true
    → nat_lt (unwrap_or (since k c w) 0) (unwrap_or (since k d w) 0) ≡ nat_lt (fell_at h c w) (fell_at h d w)
older k h n c d w same below first second =
    older_at k h n c d w (since k c w) (since k d w) same below first second refl refl (low_moved k h c w same first) (low_moved k h d w same second)
