-- Pages, and the edges in them.
use Rattle.std.proofs.Common.{◌≡◌, ℕ, zero, suc, ◌+◌, ◌-◌, ◌<◌, ◌≤◌, List, [], ◌∷◌, ◌++◌, length, take, drop, set, get_or, Some, refl, sym, ap, ◌∙◌, arith, append_assoc, append-nil, length-append}
use Rattle.std.specs.Prelude.{slice_get}
use Rattle.std.specs.Option.{option_map_or}
use Rattle.std.proofs.lemmas.List.{take_more, take-append-drop}
use Rattle.std.proofs.lemmas.Option.{slice_get-get_or}
use Rattle.vme_model.specs.declared.signals.Edge.{Edge}
use Rattle.vme_lock.specs.Logs.{edges_in, room_of}

pub joined-append : (xs ys : List (List Edge)) → edges_in (xs ++ ys) ≡ edges_in xs ++ edges_in ys
joined-append [] ys = refl
joined-append (x ∷ xs) ys = ap (λ (l : List Edge). x ++ l) (joined-append xs ys) ∙ sym (append_assoc x (edges_in xs) (edges_in ys))

-- one more empty page
pub joined_page : (pages : List (List Edge)) → edges_in (pages ++ [] ∷ []) ≡ edges_in pages
joined_page pages = joined-append pages ([] ∷ []) ∙ append-nil (edges_in pages)

-- one more edge in the last page
pub joined-set : (pages : List (List Edge)) (n : ℕ) (page : List Edge) (e : Edge) → n + 1 ≡ length pages →
    get_or pages n page ≡ page → edges_in (set pages n (page ++ e ∷ [])) ≡ edges_in pages ++ e ∷ []
joined-set [] n page e last is = absurd (omega arith)
joined-set (x ∷ []) zero page e last is =
    append-nil (page ++ e ∷ []) ∙ (ap (λ (l : List Edge). l ++ e ∷ []) (sym is) ∙ ap (λ (l : List Edge). l ++ e ∷ []) (sym (append-nil x)))
joined-set (x ∷ y ∷ pages) zero page e last is = absurd (omega arith)
joined-set (x ∷ pages) (suc n) page e last is =
    ap (λ (l : List Edge). x ++ l) (joined-set pages n page e (omega arith) is) ∙ sym (append_assoc x (edges_in pages) (e ∷ []))

-- the room of an empty page after the others
pub room_page : (pages : List (List Edge)) → room_of (pages ++ [] ∷ []) ≡ 256
room_page pages =
    let len : length (pages ++ [] ∷ []) - 1 ≡ length pages = omega (arith, length-append pages ([] ∷ [])) in
    ap (λ (n : ℕ). option_map_or (λ page. 256 - length page) (slice_get (pages ++ [] ∷ []) n) 0) len ∙ ap (λ x. option_map_or (λ page. 256 - length page) x 0) (at_end pages)
  where
    at_end : (l : List (List Edge)) → slice_get (l ++ [] ∷ []) (length l) ≡ Some []
    at_end [] = refl
    at_end (x ∷ l) = at_end l

-- an edge fits in the last of n pages
pub fits : (pages : List (List Edge)) (n : ℕ) (page : List Edge) → 0 < room_of pages → n ≡ length pages → 0 < n → page ≡ get_or pages (n - 1) page → length page < 256
fits pages n page room count some is =
    let place : length pages - 1 ≡ n - 1 = omega (arith, count) in
    let there = slice_get-get_or pages (n - 1) page (omega (arith, count)) ∙ ap (λ (l : List Edge). Some l) (sym is) in
    let read : slice_get pages (length pages - 1) ≡ Some page = ap (slice_get pages) place ∙ there in
    let here : room_of pages ≡ 256 - length page = ap (λ x. option_map_or (λ page. 256 - length page) x 0) read in
    omega (arith, here)

-- if there is room, there is a page
pub some_page : (pages : List (List Edge)) → 0 < room_of pages → 0 < length pages
some_page [] room = absurd (omega arith)
some_page (x ∷ pages) room = omega arith

-- the next page
pub joined-next : (pages : List (List Edge)) (i : ℕ) (page : List Edge) → i < length pages → page ≡ get_or pages i page → edges_in (take (i + 1) pages) ≡ edges_in (take i pages) ++ page
joined-next pages i page lt is =
    let last = append-nil (get_or pages i page) ∙ sym is in
    ap edges_in (take_more pages i page lt) ∙ (joined-append (take i pages) (get_or pages i page ∷ []) ∙ ap (λ (l : List Edge). edges_in (take i pages) ++ l) last)

pub joined-front : (pages : List (List Edge)) (i : ℕ) (page : List Edge) → i < length pages → page ≡ get_or pages i page → length (edges_in (take i pages)) + length page ≤ length (edges_in pages)
joined-front pages i page lt is =
    let front = ap length (joined-next pages i page lt is) ∙ length-append (edges_in (take i pages)) page in
    let parts = sym (ap edges_in (take-append-drop (i + 1) pages)) ∙ joined-append (take (i + 1) pages) (drop (i + 1) pages) in
    let whole = ap length parts ∙ length-append (edges_in (take (i + 1) pages)) (edges_in (drop (i + 1) pages)) in
    omega (arith, front, whole)
