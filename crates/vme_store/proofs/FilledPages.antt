-- How pages fill.
use Rattle.std.proofs.Common.{◌≡◌, ◌+◌, ◌-◌, ◌*◌, ◌/◌, ◌%◌, ◌<◌, ◌≤◌, ℕ, zero, suc, min, List, [], ◌∷◌, ◌++◌, length, reverse, get_or, set, refl, arith, ap, sym, ◌∙◌, subst}
use Rattle.std.proofs.lemmas.List.{append_assoc, append-nil, length-append, length-reverse, get_or_append_left, get_or-append_right}
use Rattle.vme_model.specs.declared.signals.Edge.{Edge}
use Rattle.vme_store.specs.Pages.{Page, Store, ArePages, stored}

-- the page at k, if the pages hold n of max edges
pub page_room : (max n k : ℕ) (ps : List Page) (d : Page) → ArePages max n ps → k < length ps → (get_or ps k d).room ≡ min (max - k * 65536) 65536
page_room max n k [] d a l = absurd (omega arith)
page_room max n zero (p ∷ ps) d a l = a.0 ∙ ap (λ x. min x 65536) (omega arith)
page_room max n (suc k) (p ∷ ps) d a l = page_room (max - 65536) (n - 65536) k ps d a.2 (omega arith) ∙ ap (λ x. min x 65536) (omega arith)

pub page_length : (max n k : ℕ) (ps : List Page) (d : Page) → ArePages max n ps → k < length ps → length (get_or ps k d).edges ≡ min (n - k * 65536) 65536
page_length max n k [] d a l = absurd (omega arith)
page_length max n zero (p ∷ ps) d a l = a.1 ∙ ap (λ x. min x 65536) (omega arith)
page_length max n (suc k) (p ∷ ps) d a l = page_length (max - 65536) (n - 65536) k ps d a.2 (omega arith) ∙ ap (λ x. min x 65536) (omega arith)

-- there is a page for every edge
pub has_page : (max n k : ℕ) (ps : List Page) → ArePages max n ps → k * 65536 < max → k < length ps
has_page max n k [] a l = absurd (omega arith)
has_page max n zero (p ∷ ps) a l = omega arith
has_page max n (suc k) (p ∷ ps) a l = let i = has_page (max - 65536) (n - 65536) k ps a.2 (omega arith) in omega arith

pub none_stored : (max : ℕ) (ps : List Page) → ArePages max 0 ps → stored ps ≡ []
none_stored max [] a = refl
none_stored max (p ∷ ps) a =
    let i = none_stored (max - 65536) ps a.2 in
    rw i (append-nil p.edges ∙ empty p.edges a.1)
  where
    empty : (es : List Edge) → length es ≡ 0 → es ≡ []
    empty [] e = refl
    empty (x ∷ es) e = absurd (omega arith)

pub stored_length : (max n : ℕ) (ps : List Page) → ArePages max n ps → n ≤ max → length (stored ps) ≡ n
stored_length max n [] a l = omega arith
stored_length max n (p ∷ ps) a l =
    let i = stored_length (max - 65536) (n - 65536) ps a.2 (omega arith) in
    let e = a.1 in
    let f = length-append p.edges (stored ps) in
    omega arith

-- one more edge on the page that is not full yet
abbrev pub longer : Page → Edge → Page
longer p e = record { edges = p.edges ++ e ∷ []; room = p.room }

pub still_pages : (max r k : ℕ) (ps : List Page) (d : Page) (e : Edge) → ArePages max (k * 65536 + r) ps → r < 65536 →
    k * 65536 + r < max → ArePages max (k * 65536 + r + 1) (set ps k (longer (get_or ps k d) e))
still_pages max r k [] d e a l m = absurd (omega arith)
still_pages max r zero (p ∷ ps) d e a l m =
    let f = length-append p.edges (e ∷ []) in
    let g : length p.edges ≡ r = omega (arith, a.1) in
    let i : 0 * 65536 + r - 65536 ≡ 0 * 65536 + r + 1 - 65536 = omega arith in
    (a.0, omega arith, rw i at a.2)
still_pages max r (suc k) (p ∷ ps) d e a l m =
    let i : suc k * 65536 + r - 65536 ≡ k * 65536 + r = omega arith in
    let j : suc k * 65536 + r + 1 - 65536 ≡ k * 65536 + r + 1 = omega arith in
    let b : ArePages (max - 65536) (k * 65536 + r) ps = rw i at a.2 in
    (a.0, omega (arith, a.1), rw j (still_pages (max - 65536) r k ps d e b l (omega arith)))

pub one_more : (max r k : ℕ) (ps : List Page) (d : Page) (e : Edge) → ArePages max (k * 65536 + r) ps → r < 65536 →
    k * 65536 + r < max → stored (set ps k (longer (get_or ps k d) e)) ≡ stored ps ++ e ∷ []
one_more max r k [] d e a l m = absurd (omega arith)
one_more max r zero (p ∷ ps) d e a l m =
    let i : 0 * 65536 + r - 65536 ≡ 0 = omega arith in
    let b : ArePages (max - 65536) 0 ps = rw i at a.2 in
    let n = none_stored (max - 65536) ps b in
    rw n (append-nil (p.edges ++ e ∷ []) ∙ ap (λ x. x ++ e ∷ []) (sym (append-nil p.edges)))
one_more max r (suc k) (p ∷ ps) d e a l m =
    let i : suc k * 65536 + r - 65536 ≡ k * 65536 + r = omega arith in
    let b : ArePages (max - 65536) (k * 65536 + r) ps = rw i at a.2 in
    let j = one_more (max - 65536) r k ps d e b l (omega arith) in
    rw j (sym (append_assoc p.edges (stored ps) (e ∷ [])))

-- the page and the place at which an edge stands
pub stands_at : (max n k r : ℕ) (ps : List Page) (d : Page) (x : Edge) → ArePages max n ps → r < 65536 → k * 65536 + r < n → n ≤ max →
    get_or (stored ps) (k * 65536 + r) x ≡ get_or (get_or ps k d).edges r x
stands_at max n k r [] d x a l m o = absurd (omega arith)
stands_at max n zero r (p ∷ ps) d x a l m o =
    let i : 0 * 65536 + r ≡ r = omega arith in
    rw i (get_or_append_left p.edges (stored ps) x r (omega (arith, a.1)))
stands_at max n (suc k) r (p ∷ ps) d x a l m o =
    let f : length p.edges ≡ 65536 = omega (arith, a.1) in
    let i : suc k * 65536 + r - 65536 ≡ k * 65536 + r = omega arith in
    let j = get_or-append_right p.edges (stored ps) 65536 (suc k * 65536 + r) x f (omega arith) in
    let g = stands_at (max - 65536) (n - 65536) k r ps d x a.2 l (omega arith) (omega arith) in
    j ∙ ap (λ y. get_or (stored ps) y x) i ∙ g

-- one more page after full ones
pub another_page : (r : ℕ) (ps : List Page) → ArePages (length ps * 65536) 0 ps → r ≤ 65536 → ArePages (length ps * 65536 + r) 0 (ps ++ record { edges = []; room = r } ∷ [])
another_page r [] a l = (omega arith, omega arith, omega arith)
another_page r (p ∷ ps) a l =
    let i : suc (length ps) * 65536 - 65536 ≡ length ps * 65536 = omega arith in
    let j : suc (length ps) * 65536 + r - 65536 ≡ length ps * 65536 + r = omega arith in
    let b : ArePages (length ps * 65536) 0 ps = rw i at a.2 in
    (omega (arith, a.0), a.1, rw j (another_page r ps b l))

-- the pages after one more edge is kept at n, on the page d, which is then q
pub pages_after : (max n : ℕ) (ps : List Page) (d q : Page) (e : Edge) → ArePages max n ps → n < max → d ≡ get_or ps (n / 65536) d →
    q ≡ longer d e → ArePages max (n + 1) (set ps (n / 65536) q)
pages_after max n ps d q e a l at is =
    let i : n ≡ n / 65536 * 65536 + n % 65536 = omega arith in
    let b : ArePages max (n / 65536 * 65536 + n % 65536) ps = subst (λ x. ArePages max x ps) i a in
    let j = still_pages max (n % 65536) (n / 65536) ps d e b (omega arith) (omega arith) in
    let k : longer (get_or ps (n / 65536) d) e ≡ q = sym (is ∙ ap (λ (p : Page). longer p e) at) in
    let f : n / 65536 * 65536 + n % 65536 + 1 ≡ n + 1 = omega arith in
    subst (λ x. ArePages max x (set ps (n / 65536) q)) f (subst (λ p. ArePages max (n / 65536 * 65536 + n % 65536 + 1) (set ps (n / 65536) p)) k j)

pub stored_after : (max n : ℕ) (ps : List Page) (d q : Page) (e : Edge) → ArePages max n ps → n < max → d ≡ get_or ps (n / 65536) d →
    q ≡ longer d e → stored (set ps (n / 65536) q) ≡ stored ps ++ e ∷ []
stored_after max n ps d q e a l at is =
    let i : n ≡ n / 65536 * 65536 + n % 65536 = omega arith in
    let b : ArePages max (n / 65536 * 65536 + n % 65536) ps = subst (λ x. ArePages max x ps) i a in
    let j = one_more max (n % 65536) (n / 65536) ps d e b (omega arith) (omega arith) in
    let k : q ≡ longer (get_or ps (n / 65536) d) e = is ∙ ap (λ (p : Page). longer p e) at in
    ap (λ (p : Page). stored (set ps (n / 65536) p)) k ∙ j

-- the page for the next edge has room
pub has_room : (max n : ℕ) (ps : List Page) (d : Page) → ArePages max n ps → n < max → d ≡ get_or ps (n / 65536) d → length d.edges < d.room
has_room max n ps d a l at =
    let h : n / 65536 < length ps = has_page max n (n / 65536) ps a (omega arith) in
    let r = page_room max n (n / 65536) ps d a h in
    let s = page_length max n (n / 65536) ps d a h in
    let i = ap (λ (p : Page). p.room) at in
    let j = ap (λ (p : Page). length p.edges) at in
    omega arith

-- the edge at a place, on the page d
pub is_there : (max n place : ℕ) (ps : List Page) (d : Page) → ArePages max n ps → n ≤ max → place < n → d ≡ get_or ps (place / 65536) d → place % 65536 < length d.edges
is_there max n place ps d a l m at =
    let h : place / 65536 < length ps = has_page max n (place / 65536) ps a (omega arith) in
    let s = page_length max n (place / 65536) ps d a h in
    let j = ap (λ (p : Page). length p.edges) at in
    omega arith

pub stored_at : (max n place : ℕ) (ps : List Page) (d : Page) (x : Edge) → ArePages max n ps → n ≤ max → place < n → d ≡ get_or ps (place / 65536) d →
    get_or (stored ps) place x ≡ get_or d.edges (place % 65536) x
stored_at max n place ps d x a l m at =
    let i : place ≡ place / 65536 * 65536 + place % 65536 = omega arith in
    let j = stands_at max n (place / 65536) (place % 65536) ps d x a (omega arith) (omega arith) l in
    ap (λ y. get_or (stored ps) y x) i ∙ j ∙ ap (λ (p : Page). get_or p.edges (place % 65536) x) (sym at)

-- how a store is seen
pub length_of : (max n : ℕ) (ps : List Page) (s : Store) → ArePages max n ps → n ≤ max → record { history = reverse (stored ps); max = max } ≡ s → length s.history ≡ n
length_of max n ps s a l v =
    sym (ap (λ (t : Store). length t.history) v) ∙ length-reverse (stored ps) ∙ stored_length max n ps a l
