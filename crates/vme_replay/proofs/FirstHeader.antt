-- Where the first header line of an input is.
use Rattle.std.proofs.Common.{◌≡◌, ◌≢◌, ℕ, ◌||◌, ◌==◌, List, [], ◌∷◌, ◌++◌, take, Bool, true, false, Option, Some, None, refl, sym, ◌∙◌, ap, append_assoc, subst, codes, zero, suc}
use Rattle.std.proofs.lemmas.Bool.{false_from_ne_true, ne_eqb}
use Rattle.std.proofs.lemmas.Slice.Eq.{bytes_eq-Decides}
use Rattle.std.specs.Str.{bytes_eq}
use Rattle.vme_model.specs.declared.signals.Version.{Version}
use Rattle.vme_model.specs.declared.signals.Version.TheVariants.{One, Two}
use Rattle.vme_model.specs.Text.{version_of, header}
use Rattle.vme_trace.specs.Reading.{IsOneLine}
use Rattle.vme_replay.specs.Joining.{cut, begins_trace}
use Rattle.vme_replay.specs.Front.{behind}

abbrev pub names : List ℕ → Bool
names line = bytes_eq line (codes "vme 1") || bytes_eq line (codes "vme 2")

not_feed : (b : ℕ) → b ≢ 10 → (b == 10) ≡ false
not_feed b h = ne_eqb b 10 h

-- a complete line begins a trace exactly where it is a header line
at_feed : (part more : List ℕ) → IsOneLine part → begins_trace (part ++ 10 ∷ more) ≡ names part
at_feed [] more h = refl
at_feed (a ∷ []) more h = refl
at_feed (a ∷ b ∷ []) more h = refl
at_feed (a ∷ b ∷ c ∷ []) more h = refl
at_feed (a ∷ b ∷ c ∷ d ∷ []) more h = refl
at_feed (a ∷ b ∷ c ∷ d ∷ e ∷ []) more h = refl
at_feed (a ∷ b ∷ c ∷ d ∷ e ∷ f ∷ rest) more h = rw (not_feed f h.1.1.1.1.1.0) refl

one_line_take : (n : ℕ) (part : List ℕ) → IsOneLine part → IsOneLine (take n part)
one_line_take zero part h = tt
one_line_take (suc n) [] h = tt
one_line_take (suc n) (b ∷ part) h = (h.0, one_line_take n part h.1)

bytes_ne : (x y : List ℕ) → x ≢ y → bytes_eq x y ≡ false
bytes_ne x y h = false_from_ne_true (bytes_eq x y) (λ e. h ((bytes_eq-Decides x y).0 e))

-- a line without a line feed begins none
at_end : (part : List ℕ) → IsOneLine part → begins_trace part ≡ false
at_end part h =
    let one = bytes_ne (take 6 part) (codes "vme 1\n") (λ e. (subst IsOneLine e (one_line_take 6 part h)).1.1.1.1.1.0 refl) in
    let two = bytes_ne (take 6 part) (codes "vme 2\n") (λ e. (subst IsOneLine e (one_line_take 6 part h)).1.1.1.1.1.0 refl) in
    rw (one, two) refl

-- no header line stands in a part of a line
pub cut_part : (at_line : Bool) (part : List ℕ) → IsOneLine part → cut at_line part ≡ None
unfolding cut
cut_part at_line [] h = refl
cut_part true (b ∷ part) h = rw (at_end (b ∷ part) h, cut_part (b == 10) part h.1) refl
cut_part false (b ∷ part) h = rw (cut_part (b == 10) part h.1) refl

pub behind_behind : (x y : List ℕ) (o : Option (List ℕ × List ℕ)) → behind x (behind y o) ≡ behind (x ++ y) o
behind_behind x y None = refl
behind_behind x y (Some p) = ap (λ l. Some (l, p.1)) (sym (append_assoc x y p.0))

-- behind a line that has begun, and is no header line
cut_rest : (part more : List ℕ) → IsOneLine part → cut false (part ++ 10 ∷ more) ≡ behind (part ++ 10 ∷ []) (cut true more)
unfolding cut
cut_rest [] more h = refl
cut_rest (b ∷ part) more h = rw (not_feed b h.0, cut_rest part more h.1) (behind_behind (b ∷ []) (part ++ 10 ∷ []) (cut true more))

cut_unbegun : (bytes : List ℕ) → begins_trace bytes ≡ false → cut true bytes ≡ cut false bytes
unfolding cut
cut_unbegun [] h = refl
cut_unbegun (b ∷ bytes) h = rw h refl

-- a complete line that is no header line
pub cut_line : (part more : List ℕ) → IsOneLine part → names part ≡ false → cut true (part ++ 10 ∷ more) ≡ behind (part ++ 10 ∷ []) (cut true more)
cut_line part more h other = cut_unbegun (part ++ 10 ∷ more) (at_feed part more h ∙ other) ∙ cut_rest part more h

-- a header line
pub cut_here : (v : Version) (more : List ℕ) → cut true ((header v ++ 10 ∷ []) ++ more) ≡ Some ([], (header v ++ 10 ∷ []) ++ more)
unfolding cut
cut_here One more = refl
cut_here Two more = refl

names_by : (a b : Bool) (part : List ℕ) → (a ≡ true → part ≡ codes "vme 1") → (b ≡ true → part ≡ codes "vme 2") → version_of (take 6 part) ≡ None → (a || b) ≡ true → ⊥
names_by true b part one two h e = let is : version_of (take 6 (codes "vme 1")) ≡ None = subst (λ (l : List ℕ). version_of (take 6 l) ≡ None) (one refl) h in cc
names_by false true part one two h e = let is : version_of (take 6 (codes "vme 2")) ≡ None = subst (λ (l : List ℕ). version_of (take 6 l) ≡ None) (two refl) h in cc
names_by false false part one two h e = cc

pub unnamed : (part : List ℕ) → version_of (take 6 part) ≡ None → names part ≡ false
unnamed part h =
    false_from_ne_true (names part) (names_by (bytes_eq part (codes "vme 1")) (bytes_eq part (codes "vme 2")) part (bytes_eq-Decides part (codes "vme 1")).0
    (bytes_eq-Decides part (codes "vme 2")).0 h)

pub one_line_more : (part : List ℕ) (b : ℕ) → IsOneLine part → b ≢ 10 → IsOneLine (part ++ b ∷ [])
one_line_more [] b h ne = (ne, tt)
one_line_more (a ∷ part) b h ne = (h.0, one_line_more part b h.1 ne)
