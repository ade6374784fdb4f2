-- A list of which all edges are accepted is legal, and the other way round.
use Rattle.std.proofs.Common.{◌≡◌, ◌<◌, ◌≤◌, ◌+◌, ◌++◌, ◌∷◌, [], ℕ, List, Bool, true, false, Ok, Err, is_ok, length, reverse, if◌then◌else◌, refl, sym, ◌∙◌, ap, subst, arith, append-nil, append_assoc, ne_eqb}
use Rattle.std.specs.Prelude.{◌==◌, not}
use Rattle.std.proofs.lemmas.Bool.Decides.{nat_tests}
use Rattle.std.proofs.lemmas.List.{length-reverse}
use mathlib.Core.List.{reverse-cons, reverse-reverse}
use Rattle.vme_model.specs.declared.refusals.Refused.TheVariants.{NoSuchDriver, AlreadyThere, Rule, NotSettled, TraceFull}
use Rattle.vme_model.specs.declared.signals.Edge.{Edge}
use Rattle.vme_model.specs.declared.signals.Version.{Version}
use Rattle.vme_model.specs.Plan.{Plan}
use Rattle.vme_model.specs.Guards.{holds}
use Rattle.vme_model.specs.Readings.{readings}
use Rattle.vme_model.specs.Rules.{rule}
use Rattle.vme_model.specs.Settling.{settling}
use Rattle.vme_model.specs.Verdict.{State, IsLegal, Judgement, check, driver_guard, state_guard, room_guard, settled, verdict, verdict_but_full, made, after, kept}
use Rattle.vme_shrink_search.specs.Stories.{accepted}
use Rattle.vme_shrink_search.proofs.Lists.{lasting, accepted_lasting, kept_plan, kept_version, kept_max}

-- ---- what an accepted edge has passed

five : (a c d f r : Bool) (m n : ℕ)
    → check a NoSuchDriver (check c AlreadyThere (check d (Rule m) (check f (NotSettled n)
    (check r TraceFull (Ok tt))))) ≡ Ok tt
    → (check a NoSuchDriver (check c AlreadyThere (check d (Rule m) (check f (NotSettled n)
    (Ok tt)))) ≡ Ok tt) × (r ≡ true)
five true true true true true m n h = (refl, refl)
five true true true true false m n h = absurd (cc)
five true true true false r m n h = absurd (cc)
five true true false f r m n h = absurd (cc)
five true false d f r m n h = absurd (cc)
five false c d f r m n h = absurd (cc)

full_only : (a c d f r : Bool) (m n : ℕ)
    → check a NoSuchDriver (check c AlreadyThere (check d (Rule m) (check f (NotSettled n)
    (check r TraceFull (Ok tt))))) ≡ Err TraceFull → r ≡ false
full_only true true true true true m n h = absurd (cc)
full_only true true true true false m n h = refl
full_only true true true false r m n h = absurd (cc)
full_only true true false f r m n h = absurd (cc)
full_only true false d f r m n h = absurd (cc)
full_only false c d f r m n h = absurd (cc)

has_room : (n m : ℕ) → not (n == m) ≡ true → n ≤ m → n < m
has_room n m h le = grind (arith, nat_tests)

is_at_end : (n m : ℕ) → not (n == m) ≡ false → n ≡ m
is_at_end n m h = grind (arith, nat_tests)

is_ok_only : (j : Judgement) → is_ok j ≡ true → j ≡ Ok tt
is_ok_only (Ok u) h = refl
is_ok_only (Err r) h = absurd (cc)

module _ (b : State) (e : Edge) where
  passed : is_ok (verdict b e) ≡ true
      → (verdict_but_full b.version b.plan b.history e ≡ Ok tt)
      × (holds (room_guard b) ≡ true)
  passed h =
      five (holds (driver_guard b.plan e))
      (holds (state_guard ((readings b.plan b.history e.driver).own e.wire) e.fall))
      (rule b.version (readings b.plan b.history e.driver) e.wire e.fall e.value).1
      (settled b.version b.plan b.history e) (holds (room_guard b))
      (rule b.version (readings b.plan b.history e.driver) e.wire e.fall e.value).0
      (settling b.version b.plan b.history e.wire e.fall).0 (is_ok_only (verdict b e) h)

  -- E5 comes at the end of the trace alone
  pub full_at_end : verdict b e ≡ Err TraceFull → length b.history ≡ b.max
  full_at_end h =
      is_at_end (length b.history) b.max
      (full_only (holds (driver_guard b.plan e))
      (holds (state_guard ((readings b.plan b.history e.driver).own e.wire) e.fall))
      (rule b.version (readings b.plan b.history e.driver) e.wire e.fall e.value).1
      (settled b.version b.plan b.history e) (holds (room_guard b))
      (rule b.version (readings b.plan b.history e.driver) e.wire e.fall e.value).0
      (settling b.version b.plan b.history e.wire e.fall).0 h)

-- ---- accepted edges are legal, and fit

legal_by : (b : State) (e : Edge) → IsLegal b.version b.plan b.history
    → (t : Bool) → is_ok (verdict b e) ≡ t
    → IsLegal b.version b.plan (if t then made b e else b).history
legal_by b e legal true is = ((passed b e is).0, legal)
legal_by b e legal false is = legal

same_legal : (b c : State) (h : List Edge) → c.version ≡ b.version → c.plan ≡ b.plan
    → IsLegal c.version c.plan h → IsLegal b.version b.plan h
same_legal b c h v p legal =
    subst (λ (q : Plan). IsLegal b.version q h) p
    (subst (λ (w : Version). IsLegal w c.plan h) v legal)

pub kept_legal : (b : State) (es : List Edge) → IsLegal b.version b.plan b.history
    → IsLegal b.version b.plan (kept b es).history
kept_legal b [] legal = legal
kept_legal b (e ∷ es) legal =
    let now : IsLegal b.version b.plan (after b e).history =
    legal_by b e legal (is_ok (verdict b e)) refl in
    let v : (after b e).version ≡ b.version = kept_version b (e ∷ []) in
    let p : (after b e).plan ≡ b.plan = kept_plan b (e ∷ []) in
    same_legal b (after b e) (kept (after b e) es).history v p
    (kept_legal (after b e) es (same_legal (after b e) b (after b e).history (sym v) (sym p) now))

fits_by : (b : State) (e : Edge) → length b.history ≤ b.max
    → (t : Bool) → is_ok (verdict b e) ≡ t
    → length (if t then made b e else b).history ≤ (if t then made b e else b).max
fits_by b e fits true is =
    let lt = has_room (length b.history) b.max (passed b e is).1 fits in omega (arith, lt)
fits_by b e fits false is = fits

kept_fits_own : (b : State) (es : List Edge) → length b.history ≤ b.max
    → length (kept b es).history ≤ (kept b es).max
kept_fits_own b [] fits = fits
kept_fits_own b (e ∷ es) fits =
    kept_fits_own (after b e) es (fits_by b e fits (is_ok (verdict b e)) refl)

pub kept_fits : (b : State) (es : List Edge) → length b.history ≤ b.max
    → length (kept b es).history ≤ b.max
kept_fits b es fits =
    subst (λ n. length (kept b es).history ≤ n) (kept_max b es) (kept_fits_own b es fits)

none_fits : (b : State) → b.history ≡ [] → length b.history ≤ b.max
none_fits b none = let n = ap length none in omega (arith, n)

none_legal : (b : State) → b.history ≡ [] → IsLegal b.version b.plan b.history
none_legal b none = subst (IsLegal b.version b.plan) (sym none) tt

pub list_fits : (b : State) (g : List Edge) → b.history ≡ [] → accepted b g ≡ g
    → length g ≤ b.max
list_fits b g none whole =
    let fits = kept_fits b g (none_fits b none) in
    let same : length g ≡ length (kept b g).history =
    ap length (sym whole) ∙ length-reverse (kept b g).history in omega (arith, fits, same)

pub list_legal : (b : State) (g : List Edge) → b.history ≡ [] → accepted b g ≡ g
    → IsLegal b.version b.plan (reverse g)
list_legal b g none whole =
    subst (IsLegal b.version b.plan)
    (sym (reverse-reverse (kept b g).history) ∙ ap reverse whole)
    (kept_legal b g (none_legal b none))

-- ---- legal lists are accepted

legal_behind : (version : Version) (p : Plan) (es h : List Edge)
    → IsLegal version p (es ++ h) → IsLegal version p h
legal_behind version p [] h legal = legal
legal_behind version p (e ∷ es) h legal = legal_behind version p es h legal.1

accepted_next : (b : State) (e : Edge) → IsLegal b.version b.plan (e ∷ b.history)
    → length b.history < b.max → verdict b e ≡ Ok tt
accepted_next b e legal room =
    let free : (length b.history == b.max) ≡ false =
    ne_eqb (length b.history) b.max (λ full. omega arith) in rw free legal.0

whole_by : (b : State) (e : Edge) (g : List Edge) → lasting (made b e) g ≡ g
    → (t : Bool) → t ≡ true
    → (if t then e ∷ lasting (made b e) g else lasting b g) ≡ e ∷ g
whole_by b e g rest true is = ap (λ l. e ∷ l) rest
whole_by b e g rest false is = absurd (cc)

legal_lasts : (b : State) (g : List Edge) → IsLegal b.version b.plan (reverse g ++ b.history)
    → length g + length b.history ≤ b.max → lasting b g ≡ g
legal_lasts b [] legal fits = refl
legal_lasts b (e ∷ g) legal fits =
    let now : IsLegal b.version b.plan (reverse g ++ (e ∷ b.history)) =
    subst (IsLegal b.version b.plan)
    (ap (λ l. l ++ b.history) (reverse-cons e g) ∙ append_assoc (reverse g) (e ∷ []) b.history)
    legal in
    let ok = accepted_next b e (legal_behind b.version b.plan (reverse g) (e ∷ b.history) now)
    (omega (arith, fits)) in
    whole_by b e g (legal_lasts (made b e) g now (omega (arith, fits))) (is_ok (verdict b e))
    (ap is_ok ok)

pub legal_accepted : (b : State) (g : List Edge) → b.history ≡ []
    → IsLegal b.version b.plan (reverse g) → length g ≤ b.max → accepted b g ≡ g
legal_accepted b g none legal fits =
    let n = ap length none in
    accepted_lasting b g none
    ∙ legal_lasts b g
    (subst (IsLegal b.version b.plan)
    (sym (append-nil (reverse g)) ∙ ap (λ h. reverse g ++ h) (sym none)) legal)
    (omega (arith, fits, n))
