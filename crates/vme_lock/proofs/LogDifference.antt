-- One driver's edges in a history, compared with its log.
use Rattle.std.proofs.Common.{◌≡◌, ◌≢◌, ℕ, ◌+◌, ◌<◌, ◌≤◌, List, [], ◌∷◌, ◌++◌, length, take, drop, get_or, Bool, true, false}
use Rattle.std.proofs.Common.{Some, None, sym, ap, ◌∙◌, arith, length-append, append_assoc, append-nil, length-take-le}
use Rattle.std.specs.Prelude.{cond, filter, slice_get, MatchBool}
use Rattle.std.proofs.Math.Seq.{take-append_seam, get_or-append_seam}
use Rattle.std.proofs.lemmas.List.{take-append-drop, take_all, take_more}
use Rattle.std.proofs.lemmas.List.Elements.{filter-append, filter_more}
use Rattle.std.proofs.lemmas.Option.{same_Some, slice_get_past, slice_get-get_or, slice_get_within, get_or_from_slice_get}
use Rattle.vme_model.specs.declared.signals.Edge.{Edge}
use Rattle.vme_model.specs.declared.signals.Driver.{Driver}
use Rattle.vme_model.specs.declared.signals.Driver.TheVariants.{Controller}
use Rattle.vme_model.specs.declared.signals.Wire.TheVariants.{Bclr}
use Rattle.vme_model.specs.Signals.{is_same_driver}
use Rattle.vme_lock.specs.Logs.{is_same_edge}
use Rattle.vme_lock.specs.Closing.{DiffersAt}
use Rattle.vme_lock.proofs.OneEdge.{one_edge, own_edge, never}

-- a driver's edges in a list
abbrev pub own : Driver → List Edge → List Edge
own d xs = filter (λ e. is_same_driver e.driver d) xs

own-more : (xs : List Edge) (d : Driver) (i : ℕ) (e : Edge) (b : Bool) → slice_get xs i ≡ Some e → is_same_driver e.driver d ≡ b →
    own d (take (i + 1) xs) ≡ own d (take i xs) ++ cond b (e ∷ []) []
own-more xs d i e b at by =
    let is : get_or xs i e ≡ e = get_or_from_slice_get xs i e e at in
    filter_more (λ e. is_same_driver e.driver d) xs i e (slice_get_within xs i e at)
    ∙ (ap (λ (x : Edge). own d (take i xs) ++ cond (is_same_driver x.driver d) (x ∷ []) []) is ∙ ap (λ (v : Bool). own d (take i xs) ++ cond v (e ∷ []) []) by)

-- the log ends after the edges so far, or goes on with another edge
differs : (ys log : List Edge) (at : ℕ) (e : Edge) (rest : List Edge) → ys ≡ take at log ++ e ∷ rest → at ≤ length log → slice_get log at ≢ Some e → DiffersAt ys log at
differs ys log at e rest is within apart =
    let len : length (take at log) ≡ at = length-take-le at log within in
    let long : at < length ys = omega (arith, ap length is, length-append (take at log) (e ∷ rest), len) in
    let front : take at ys ≡ take at log = ap (take at) is ∙ (ap (λ (n : ℕ). take n (take at log ++ e ∷ rest)) (sym len) ∙ take-append_seam (take at log) (e ∷ rest)) in
    let seam = ap (λ (n : ℕ). get_or (take at log ++ e ∷ rest) n e) (sym len) ∙ get_or-append_seam (take at log) e rest e in
    let here : get_or ys at e ≡ e = ap (λ (l : List Edge). get_or l at e) is ∙ seam in
    let read : slice_get ys at ≡ Some e = slice_get-get_or ys at e long ∙ ap (λ (x : Edge). Some x) here in
    record { within = omega (arith, long); within_other = within; same = front; apart = λ same. apart (sym same ∙ read) }

nobody : Edge
nobody = record { driver = Controller; wire = Bclr; fall = false; value = None }

some_not_none : (e : Edge) → ¬ (Some e ≡ None)
some_not_none e is = cc

-- the log goes on after all edges
pub ends : (ys log : List Edge) (at : ℕ) → ys ≡ take at log → at < length log → DiffersAt ys log at
ends ys log at is within =
    let len : length (take at log) ≡ at = length-take-le at log (omega arith) in
    let long : length ys ≡ at = ap length is ∙ len in
    let none : slice_get ys at ≡ None = slice_get_past ys at (omega (arith, long)) in
    record {
      within = omega (arith, long);
      within_other = omega arith;
      same = ap (take at) is ∙ take_all at (take at log) (omega (arith, len));
      apart = λ same. some_not_none _ (sym (slice_get-get_or log at nobody within) ∙ (sym same ∙ none));
    }

-- all edges, from their front
own-whole : (xs : List Edge) (d : Driver) (i : ℕ) (front : List Edge) → own d (take i xs) ≡ front → own d xs ≡ front ++ own d (drop i xs)
own-whole xs d i front is =
    ap (own d) (sym (take-append-drop i xs)) ∙ (filter-append (λ e. is_same_driver e.driver d) (take i xs) (drop i xs) ∙ ap (λ (l : List Edge). l ++ own d (drop i xs)) is)

-- an edge of the driver that stands in the log
pub went_on : (xs log : List Edge) (d : Driver) (i at : ℕ) (e : Edge) → slice_get xs i ≡ Some e → is_same_driver e.driver d ≡ true →
    own d (take i xs) ≡ take at log → slice_get log at ≡ Some e → (own d (take (i + 1) xs) ≡ take (at + 1) log) × (at + 1 ≤ length log)
went_on xs log d i at e is by front read =
    let within : at < length log = slice_get_within log at e read in
    let more : take (at + 1) log ≡ take at log ++ e ∷ [] = take_more log at e within ∙ ap (λ (x : Edge). take at log ++ x ∷ []) (get_or_from_slice_get log at e e read) in
    (own-more xs d i e true is by ∙ (ap (λ (l : List Edge). l ++ e ∷ []) front ∙ sym more), omega (arith, within))

-- an edge of another driver
pub passed : (xs log : List Edge) (d : Driver) (i at : ℕ) (e : Edge) → slice_get xs i ≡ Some e → is_same_driver e.driver d ≡ false →
    own d (take i xs) ≡ take at log → own d (take (i + 1) xs) ≡ take at log
passed xs log d i at e is by front =
    own-more xs d i e false is by ∙ (append-nil _ ∙ front)

-- an edge of the driver that does not stand in the log
pub stopped : (xs log : List Edge) (d : Driver) (i at : ℕ) (e : Edge) → slice_get xs i ≡ Some e → is_same_driver e.driver d ≡ true →
    own d (take i xs) ≡ take at log → at ≤ length log → slice_get log at ≢ Some e → DiffersAt (own d xs) log at
stopped xs log d i at e is by front within apart =
    let more = own-more xs d i e true is by ∙ ap (λ (l : List Edge). l ++ e ∷ []) front in
    let whole = own-whole xs d (i + 1) (take at log ++ e ∷ []) more ∙ append_assoc (take at log) (e ∷ []) (own d (drop (i + 1) xs)) in
    differs (own d xs) log at e (own d (drop (i + 1) xs)) whole within apart

-- whether an edge of the log is this one
pub stands : (log : List Edge) (at : ℕ) (x e : Edge) (b : Bool) → slice_get log at ≡ Some x → b ≡ is_same_edge x e → MatchBool b (slice_get log at ≡ Some e) (slice_get log at ≢ Some e)
stands log at x e true is same = is ∙ ap (λ (y : Edge). Some y) (one_edge x e (sym same))
stands log at x e false is apart = λ same. never (sym (apart ∙ (ap (λ y. is_same_edge y e) (same_Some x e (sym is ∙ same)) ∙ own_edge e)))

-- a log that ends before
pub stands_not : (log : List Edge) (at : ℕ) (e : Edge) (b : Bool) → b ≡ false → length log ≤ at → MatchBool b (slice_get log at ≡ Some e) (slice_get log at ≢ Some e)
stands_not log at e true is past = absurd (cc)
stands_not log at e false is past = λ same. some_not_none e (sym same ∙ slice_get_past log at past)
