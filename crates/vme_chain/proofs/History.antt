-- A chain whose segments are those of a history is read as the definitions read the history.
use Rattle.std.proofs.Common.{◌≡◌, ◌∙◌, ◌<◌, ◌≤◌, refl, sym, ap, subst, ℕ, zero, suc, Bool, true, false, List, [], ◌∷◌, ◌++◌, length, take, get_or, arith}
use Rattle.std.specs.Prelude.{◌&&◌, cond, not, Option, Some, None, map, reverse, filter, find, nat_lt}
use Rattle.std.specs.List.{count_by}
use Rattle.std.proofs.Math.Seq.{get_or-append_seam}
use Rattle.std.proofs.lemmas.Bool.{lt-ltb, ltb-true}
use Rattle.std.proofs.lemmas.List.{append-nil, reverse-append, map-append, length-map, length-append, get_or_append_left, take_all}
use Rattle.std.proofs.lemmas.List.Elements.{filter-append}
use Rattle.std.proofs.lemmas.List.Folds.{list_all-map}
use Rattle.std.proofs.lemmas.List.Sums.{sum_by-append, count_by-le-length}
use Rattle.vme_model.specs.declared.sets.ChainId.{ChainId}
use Rattle.vme_model.specs.declared.signals.Edge.{Edge}
use Rattle.vme_model.specs.Plan.{Plan, active, is_active, up_to}
use Rattle.vme_model.specs.Accepted.{IsAccepted}
use Rattle.vme_model.specs.History.{segment, input as input_after, is_past_end as is_past_end_after}
use Rattle.vme_model.specs.Settling.{is_chain_clear}
use Rattle.vme_model.proofs.Ranges.{in_range}
use Rattle.vme_chain.specs.Segments.{segments_of, input, is_clear, is_past_end}

-- the segments, by what drives them
abbrev segments : (Option ℕ → Bool) → List ℕ → List Bool
segments g xs = g None ∷ map (λ s. g (Some s)) xs

abbrev below : ℕ → List ℕ → ℕ
below s xs = count_by (λ t. nat_lt t s) xs

abbrev one_if : Bool → ℕ
one_if b = cond b 1 0

-- the slots up to n that pass a test
abbrev worked : (ℕ → Bool) → ℕ → List ℕ
worked f n = filter f (up_to n)

abbrev with_slot : Bool → List ℕ → ℕ → List ℕ
with_slot b xs s = cond b (xs ++ s ∷ []) xs

one_more : (b : Bool) (xs : List ℕ) (s : ℕ) → xs ++ cond b (s ∷ []) [] ≡ with_slot b xs s
one_more true xs s = refl
one_more false xs s = append-nil xs

worked_more : (f : ℕ → Bool) (n : ℕ) → worked f (suc n) ≡ with_slot (f (suc n)) (worked f n) (suc n)
worked_more f n = filter-append f (up_to n) (suc n ∷ []) ∙ one_more (f (suc n)) (worked f n) (suc n)

long : (xs : List ℕ) (x : ℕ) → length (xs ++ x ∷ []) ≡ suc (length xs)
long xs x = let split = length-append xs (x ∷ []) in omega (arith, split)

counted_yes : (s : ℕ) (xs : List ℕ) (x : ℕ) → nat_lt x s ≡ true → below s (xs ++ x ∷ []) ≡ suc (below s xs)
counted_yes s xs x under =
    let split = sum_by-append (λ t. one_if (nat_lt t s)) xs (x ∷ []) in
    let one = ap one_if under in
    omega (arith, split, one)

counted_no : (s : ℕ) (xs : List ℕ) (x : ℕ) → nat_lt x s ≡ false → below s (xs ++ x ∷ []) ≡ below s xs
counted_no s xs x beyond =
    let split = sum_by-append (λ t. one_if (nat_lt t s)) xs (x ∷ []) in
    let none = ap one_if beyond in
    omega (arith, split, none)

-- all of them are below
abbrev AreBelow : ℕ → List ℕ → Type 0
AreBelow s xs = below s xs ≡ length xs

below_more : (b : Bool) (s : ℕ) (xs : List ℕ) (x : ℕ) → nat_lt x s ≡ true → AreBelow s xs → AreBelow s (with_slot b xs x)
below_more false s xs x under are = are
below_more true s xs x under are = counted_yes s xs x under ∙ ap (λ n. suc n) are ∙ sym (long xs x)

all_below : (f : ℕ → Bool) (n s : ℕ) → n < s → AreBelow s (worked f n)
all_below f zero s less = refl
all_below f (suc n) s less =
    subst (AreBelow s) (sym (worked_more f n)) (below_more (f (suc n)) s (worked f n) (suc n) (lt-ltb (suc n) s less) (all_below f n s (omega (arith, less))))

-- a slot reads the segment of the greatest slot below it
abbrev Reads : (Option ℕ → Bool) → ℕ → List ℕ → Type 0
Reads g s xs = get_or (segments g xs) (below s xs) false ≡ g (find (λ t. nat_lt t s) (reverse xs))

found : (test : ℕ → Bool) (xs : List ℕ) (x : ℕ) → find test (reverse (xs ++ x ∷ [])) ≡ cond (test x) (Some x) (find test (reverse xs))
found test xs x = ap (find test) (reverse-append xs (x ∷ []))

at_end : (g : Option ℕ → Bool) (xs : List ℕ) (x : ℕ) → get_or (segments g (xs ++ x ∷ [])) (suc (length xs)) false ≡ g (Some x)
at_end g xs x =
    ap (λ bs. get_or bs (length xs) false) (map-append (λ s. g (Some s)) xs (x ∷ []))
    ∙ ap (λ n. get_or (map (λ s. g (Some s)) xs ++ g (Some x) ∷ []) n false) (sym (length-map xs (λ s. g (Some s))))
    ∙ get_or-append_seam (map (λ s. g (Some s)) xs) (g (Some x)) [] false

reads_last : (g : Option ℕ → Bool) (s : ℕ) (xs : List ℕ) (x : ℕ) → nat_lt x s ≡ true → AreBelow s xs → Reads g s (xs ++ x ∷ [])
reads_last g s xs x under are =
    ap (λ n. get_or (segments g (xs ++ x ∷ [])) n false) (counted_yes s xs x under ∙ ap (λ n. suc n) are)
    ∙ at_end g xs x
    ∙ sym (ap g (found (λ t. nat_lt t s) xs x ∙ ap (λ b. cond b (Some x) (find (λ t. nat_lt t s) (reverse xs))) under))

within : (g : Option ℕ → Bool) (s : ℕ) (xs : List ℕ) → below s xs < length (segments g xs)
within g s xs =
    let few = count_by-le-length (λ t. nat_lt t s) xs in
    let same = length-map xs (λ t. g (Some t)) in
    omega (arith, few, same)

reads_earlier : (g : Option ℕ → Bool) (s : ℕ) (xs : List ℕ) (x : ℕ) → nat_lt x s ≡ false → Reads g s xs → Reads g s (xs ++ x ∷ [])
reads_earlier g s xs x beyond reads =
    ap (λ n. get_or (segments g (xs ++ x ∷ [])) n false) (counted_no s xs x beyond)
    ∙ ap (λ bs. get_or (g None ∷ bs) (below s xs) false) (map-append (λ t. g (Some t)) xs (x ∷ []))
    ∙ get_or_append_left (segments g xs) (g (Some x) ∷ []) false (below s xs) (within g s xs)
    ∙ reads
    ∙ sym (ap g (found (λ t. nat_lt t s) xs x ∙ ap (λ b. cond b (Some x) (find (λ t. nat_lt t s) (reverse xs))) beyond))

reads_by : (b : Bool) (g : Option ℕ → Bool) (s : ℕ) (xs : List ℕ) (x : ℕ) → nat_lt x s ≡ b → (nat_lt x s ≡ true → AreBelow s xs) → Reads g s xs → Reads g s (xs ++ x ∷ [])
reads_by true g s xs x is are reads = reads_last g s xs x is (are is)
reads_by false g s xs x is are reads = reads_earlier g s xs x is reads

reads_more : (b : Bool) (g : Option ℕ → Bool) (s : ℕ) (xs : List ℕ) (x : ℕ) → (nat_lt x s ≡ true → AreBelow s xs) → Reads g s xs → Reads g s (with_slot b xs x)
reads_more false g s xs x are reads = reads
reads_more true g s xs x are reads = reads_by (nat_lt x s) g s xs x refl are reads

reads : (g : Option ℕ → Bool) (f : ℕ → Bool) (n s : ℕ) → Reads g s (worked f n)
reads g f zero s = refl
reads g f (suc n) s =
    subst (Reads g s) (sym (worked_more f n))
    (reads_more (f (suc n)) g s (worked f n) (suc n)
    (λ less. all_below f n s (let above = ltb-true (suc n) s less in omega (arith, above))) (reads g f n s))

pub reads_inputs : (p : Plan) (h : List Edge) (c : ChainId) (s : ℕ) → input (segments_of p h c) s ≡ input_after p h c s
reads_inputs p h c s = reads (segment h c) (is_active p.rows c) p.slots s

pub reads_clearness : (p : Plan) (h : List Edge) (c : ChainId) → is_clear (segments_of p h c) ≡ is_chain_clear p h c
reads_clearness p h c = ap (λ b. not (segment h c None) && b) (list_all-map not (λ s. segment h c (Some s)) (active p c))

-- the last segment
abbrev Ends : (Option ℕ → Bool) → List ℕ → Type 0
Ends g xs = get_or (segments g xs) (length xs) false ≡ g (find (λ s. true) (reverse xs))

ends_more : (b : Bool) (g : Option ℕ → Bool) (xs : List ℕ) (x : ℕ) → Ends g xs → Ends g (with_slot b xs x)
ends_more false g xs x ends = ends
ends_more true g xs x ends =
    ap (λ n. get_or (segments g (xs ++ x ∷ [])) n false) (long xs x)
    ∙ at_end g xs x
    ∙ sym (ap g (found (λ s. true) xs x))

ends_at : (g : Option ℕ → Bool) (f : ℕ → Bool) (n : ℕ) → Ends g (worked f n)
ends_at g f zero = refl
ends_at g f (suc n) = subst (Ends g) (sym (worked_more f n)) (ends_more (f (suc n)) g (worked f n) (suc n) (ends_at g f n))

pub reads_the_end : (p : Plan) (h : List Edge) (c : ChainId) → is_past_end (segments_of p h c) ≡ is_past_end_after p h c
reads_the_end p h c = ends_at (segment h c) (is_active p.rows c) p.slots

few_more : (b : Bool) (xs : List ℕ) (x n : ℕ) → length xs ≤ n → length (with_slot b xs x) ≤ suc n
few_more false xs x n few = omega (arith, few)
few_more true xs x n few = let split = long xs x in omega (arith, few, split)

few : (f : ℕ → Bool) (n : ℕ) → length (worked f n) ≤ n
few f zero = omega arith
few f (suc n) =
    let P : List ℕ → Type 0 = λ xs. length xs ≤ suc n in
    subst P (sym (worked_more f n)) (few_more (f (suc n)) (worked f n) (suc n) n (few f n))

pub holds_every_slot : (p : Plan) (c : ChainId) → IsAccepted p → take 21 (active p c) ≡ active p c
holds_every_slot p c ok = take_all 21 (active p c) (let short = few (is_active p.rows c) p.slots in let most = (in_range p ok).most in omega (arith, short, most))
