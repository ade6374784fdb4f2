-- A trace that is followed edge by edge.
use Rattle.std.proofs.Common.{◌≡◌, ℕ, ◌+◌, ◌<◌, List, [], ◌∷◌, ◌++◌, length, Bool, true, false, Option, Some, None, Result, Ok, Err, is_ok, get_or, take, drop, if◌then◌else◌, refl, sym, ◌∙◌, ap, subst, arith, take-append-drop}
use Rattle.std.proofs.Math.ListN.{length-append}
use Rattle.std.proofs.lemmas.List.{take_more, drop_more, length-take-le}
use Rattle.vme_model.specs.declared.deliveries.Delivery.{Delivery}
use Rattle.vme_model.specs.declared.refusals.Refused.{Refused}
use Rattle.vme_model.specs.declared.signals.Cycle.{Cycle}
use Rattle.vme_model.specs.declared.signals.Edge.{Edge}
use Rattle.vme_model.specs.declared.signals.Wire.{Wire}
use Rattle.vme_model.specs.declared.signals.Wire.TheVariants.{Dtack}
use Rattle.vme_model.specs.Plan.{Plan}
use Rattle.vme_model.specs.History.{shown}
use Rattle.vme_model.specs.Verdict.{State, Judgement, verdict, made, after, kept}
use Rattle.vme_model.specs.Deliveries.{answer, with_delivery}
use Rattle.vme_model.specs.Numbered.{Numbered, edges_in, numbered_with, numbered_on}
use Rattle.vme_explain.specs.declared.marks.Marks.{Marks}
use Rattle.vme_explain.specs.Marked.{IsMarksOf}
use Rattle.vme_engines.specs.declared.following.Following.{Following}
use Rattle.vme_engines.specs.Checking.{or_refusal, first_refusal}
use Rattle.vme_explain.specs.Traced.{OfTrace}
use Rattle.vme_engines.specs.Followed.{Follows, ComesTo}
use Rattle.vme_engines.proofs.WrittenLines.{kept_append}
use Rattle.vme_engines.proofs.CheckPieces.{refusal_behind}

-- ---- what stays, and what the numbered edges are

plan_by : (t : Bool) (b : State) (e : Edge) → (if t then made b e else b).plan ≡ b.plan
plan_by true b e = refl
plan_by false b e = refl

pub kept_plan : (b : State) (es : List Edge) → (kept b es).plan ≡ b.plan
kept_plan b [] = refl
kept_plan b (e ∷ es) = kept_plan (after b e) es ∙ plan_by (is_ok (verdict b e)) b e

edges_by : (t : Bool) (b : State) (n : ℕ) (e : Edge) (k : Numbered) → edges_in k ≡ b.history → edges_in (if t then (n, e) ∷ k else k) ≡ (if t then made b e else b).history
edges_by true b n e k is = ap (λ h. e ∷ h) is
edges_by false b n e k is = is

pub edges_on : (b : State) (n : ℕ) (k : Numbered) (es : List Edge) → edges_in k ≡ b.history → edges_in (numbered_on b n k es) ≡ (kept b es).history
edges_on b n k [] is = is
edges_on b n k (e ∷ es) is = edges_on (after b e) (n + 1) (numbered_with b (n + 1) e k) es (edges_by (is_ok (verdict b e)) b (n + 1) e k is)

pub numbered_append : (b : State) (n : ℕ) (k : Numbered) (es fs : List Edge) → numbered_on b n k (es ++ fs) ≡ numbered_on (kept b es) (n + length es) (numbered_on b n k es) fs
numbered_append b n k [] fs = ap (λ m. numbered_on b m k fs) (omega arith)
numbered_append b n k (e ∷ es) fs =
    numbered_append (after b e) (n + 1) (numbered_with b (n + 1) e k) es fs
    ∙ ap (λ m. numbered_on (kept (after b e) es) m (numbered_on (after b e) (n + 1) (numbered_with b (n + 1) e k) es) fs) (omega arith)

-- ---- edges behind others

module _ (first mid : Following) (es : List Edge) (one : Follows first es mid) where
  mid_plan : mid.bus.plan ≡ first.bus.plan
  mid_plan = ap (λ s. s.plan) one.bus ∙ kept_plan first.bus es

  -- what holds of the numbered edges behind these
  pub of_trace_behind : (P : Numbered → Type 0) → OfTrace mid.bus mid.marks P → OfTrace first.bus first.marks (λ k. P (numbered_on first.bus first.judged k es))
  of_trace_behind P h =
      λ k is of.
      h (numbered_on first.bus first.judged k es)
      (edges_on first.bus first.judged k es is ∙ ap (λ s. s.history) (sym one.bus))
      (subst (λ (p : Plan). IsMarksOf p (numbered_on first.bus first.judged k es) mid.marks) (sym mid_plan) (one.marks k is of))

  pub kept_behind : (fs : List Edge) → kept first.bus (es ++ fs) ≡ kept mid.bus fs
  kept_behind fs = kept_append first.bus es fs ∙ ap (λ s. kept s fs) (sym one.bus)

  pub numbered_behind : (k : Numbered) (fs : List Edge) → numbered_on first.bus first.judged k (es ++ fs) ≡ numbered_on mid.bus mid.judged (numbered_on first.bus first.judged k es) fs
  numbered_behind k fs =
      numbered_append first.bus first.judged k es fs
      ∙ ap (λ s. numbered_on s (first.judged + length es) (numbered_on first.bus first.judged k es) fs) (sym one.bus)
      ∙ ap (λ n. numbered_on mid.bus n (numbered_on first.bus first.judged k es) fs) (sym one.judged)

  pub count_behind : (fs : List Edge) → first.judged + length (es ++ fs) ≡ mid.judged + length fs
  count_behind fs = let is = length-append es fs in let here = one.judged in omega (arith, is, here)

  pub follows_more : (fs : List Edge) (now : Following) → Follows mid fs now → Follows first (es ++ fs) now
  follows_more fs now two = record {
    bus = two.bus ∙ sym (kept_behind fs);
    judged = two.judged ∙ sym (count_behind fs);
    marks = λ k is of.
        subst (λ (p : Plan). IsMarksOf p (numbered_on first.bus first.judged k (es ++ fs)) now.marks) mid_plan
        (subst (λ (m : Numbered). IsMarksOf mid.bus.plan m now.marks) (sym (numbered_behind k fs))
        (of_trace_behind (λ m. IsMarksOf mid.bus.plan (numbered_on mid.bus mid.judged m fs) now.marks) two.marks k is of));
  }

-- ---- one edge

pub ok_with : (j : Judgement) (d : Option Delivery) → is_ok (with_delivery j d) ≡ is_ok j
ok_with (Ok u) d = refl
ok_with (Err r) d = refl

with_by : (t : Bool) (n : ℕ) (e : Edge) (k : Numbered) → t ≡ true → (if t then (n, e) ∷ k else k) ≡ (n, e) ∷ k
with_by t n e k is = rw is refl

made_by : (t : Bool) (b : State) (e : Edge) → t ≡ true → (if t then made b e else b) ≡ made b e
made_by t b e is = rw is refl

-- an edge of DTACK* leaves what is shown
shown_stays : (p : Plan) (h : List Edge) (e : Edge) → e.wire ≡ Dtack → shown p (e ∷ h) ≡ shown p h
shown_stays p h e is = subst (λ (w : Wire). shown p ((record e { wire = w }) ∷ h) ≡ shown p h) (sym is) refl

-- an accepted edge was noted, once it was made
pub noted : (b now : State) (n : ℕ) (e : Edge) (old new : Marks) (v : Option Cycle) → is_ok (verdict b e) ≡ true → now ≡ after b e → (e.wire ≡ Dtack → v ≡ shown now.plan now.history)
    → ((p : Plan) (k : Numbered) → IsMarksOf p k old → (e.wire ≡ Dtack → v ≡ shown p (edges_in k)) → IsMarksOf p ((n, e) ∷ k) new)
    → OfTrace b old (λ k. IsMarksOf b.plan (numbered_with b n e k) new)
noted b now n e old new v accepted is shows h =
    let behind : now ≡ made b e = is ∙ made_by (is_ok (verdict b e)) b e accepted in
    λ k edges of.
    subst (λ (m : Numbered). IsMarksOf b.plan m new) (sym (with_by (is_ok (verdict b e)) n e k accepted))
    (h b.plan k of (λ dtack. shows dtack ∙ ap (λ s. shown s.plan s.history) behind ∙ shown_stays b.plan b.history e dtack ∙ ap (shown b.plan) (sym edges)))

pub follows_one : (first now : Following) (e : Edge) → now.bus ≡ after first.bus e → now.judged ≡ first.judged + 1
    → OfTrace first.bus first.marks (λ k. IsMarksOf first.bus.plan (numbered_with first.bus (first.judged + 1) e k) now.marks) → Follows first (e ∷ []) now
follows_one first now e is count marks = record { bus = is; judged = omega (arith, count); marks = marks }

after_refused : (t : Bool) (b : State) (e : Edge) → t ≡ false → (if t then made b e else b) ≡ b
after_refused t b e is = rw is refl

numbered_refused : (t : Bool) (n : ℕ) (e : Edge) (k : Numbered) → t ≡ false → (if t then (n, e) ∷ k else k) ≡ k
numbered_refused t n e k is = rw is refl

-- a refused edge leaves what was followed
pub follows_refused : (first mid now : Following) (es : List Edge) (e : Edge) → Follows first es mid → is_ok (verdict mid.bus e) ≡ false
    → now.bus ≡ after mid.bus e → now.judged ≡ mid.judged
    → OfTrace mid.bus mid.marks (λ k. IsMarksOf mid.bus.plan (numbered_with mid.bus (mid.judged + 1) e k) now.marks) → Follows first es now
follows_refused first mid now es e one refused is count marks = record {
  bus = is ∙ after_refused (is_ok (verdict mid.bus e)) mid.bus e refused ∙ one.bus;
  judged = count ∙ one.judged;
  marks = λ k edges of.
      subst (λ (p : Plan). IsMarksOf p (numbered_on first.bus first.judged k es) now.marks) (mid_plan first mid es one)
      (of_trace_behind first mid es one (λ m. IsMarksOf mid.bus.plan m now.marks)
      (λ m e2 of2. subst (λ (l : Numbered). IsMarksOf mid.bus.plan l now.marks) (numbered_refused (is_ok (verdict mid.bus e)) (mid.judged + 1) e m refused) (marks m e2 of2)) k edges of);
}

-- ---- in the loops over edges

pub followed_more : (first mid now : Following) (es : List Edge) (i : ℕ) (d : Edge) → i < length es → Follows first (take i es) mid
    → now.bus ≡ after mid.bus (get_or es i d) → now.judged ≡ mid.judged + 1
    → OfTrace mid.bus mid.marks (λ k. IsMarksOf mid.bus.plan (numbered_with mid.bus (mid.judged + 1) (get_or es i d) k) now.marks)
    → Follows first (take (i + 1) es) now
followed_more first mid now es i d h one is count marks =
    subst (λ (l : List Edge). Follows first l now) (sym (take_more es i d h))
    (follows_more first mid (take i es) one (get_or es i d ∷ []) now (follows_one mid now (get_or es i d) is count marks))

ok_none : (n : ℕ) (j : Judgement) → is_ok j ≡ true → or_refusal n j None ≡ None
ok_none n (Ok u) h = refl
ok_none n (Err r) h = absurd cc

-- none is refused, with the next one
pub none_more : (first mid : Following) (es : List Edge) (i : ℕ) (d : Edge) → i < length es → Follows first (take i es) mid
    → first_refusal (first.judged + 1) first.bus (take i es) ≡ None → is_ok (verdict mid.bus (get_or es i d)) ≡ true
    → first_refusal (first.judged + 1) first.bus (take (i + 1) es) ≡ None
none_more first mid es i d h one none accepted =
    ap (first_refusal (first.judged + 1) first.bus) (take_more es i d h)
    ∙ refusal_behind (first.judged + 1) first.bus (take i es) (get_or es i d ∷ []) none
    ∙ ap (λ s. first_refusal ((first.judged + 1) + length (take i es)) s (get_or es i d ∷ [])) (sym one.bus)
    ∙ ok_none ((first.judged + 1) + length (take i es)) (verdict mid.bus (get_or es i d)) accepted

split_at : (es : List Edge) (i : ℕ) (d : Edge) → i < length es → es ≡ take i es ++ (get_or es i d ∷ drop (i + 1) es)
split_at es i d h = sym (take-append-drop i es) ∙ ap (λ l. take i es ++ l) (drop_more es i d h)

-- the first that is refused
pub comes_to_refused : (first mid now : Following) (es : List Edge) (i : ℕ) (d : Edge) (r : Result (Option Delivery) Refused) → i < length es → Follows first (take i es) mid
    → first_refusal (first.judged + 1) first.bus (take i es) ≡ None → is_ok (verdict mid.bus (get_or es i d)) ≡ false → r ≡ answer mid.bus (get_or es i d)
    → now.bus ≡ after mid.bus (get_or es i d) → now.judged ≡ mid.judged
    → OfTrace mid.bus mid.marks (λ k. IsMarksOf mid.bus.plan (numbered_with mid.bus (mid.judged + 1) (get_or es i d) k) now.marks)
    → ComesTo None first es (record { edge = get_or es i d; answer = r }) now
comes_to_refused first mid now es i d r h one none refused answered is count marks = record {
  front = take i es;
  rest = drop (i + 1) es;
  split = split_at es i d h;
  asked = (none, ap (λ s. is_ok (verdict s (get_or es i d))) (sym one.bus) ∙ refused);
  follows = follows_refused first mid now (take i es) (get_or es i d) one refused is count marks;
  answered = answered ∙ ap (λ s. answer s (get_or es i d)) (sym (is ∙ after_refused (is_ok (verdict mid.bus (get_or es i d))) mid.bus (get_or es i d) refused));
}

-- the n-th of the trace
pub comes_to_number : (n : ℕ) (first now : Following) (es : List Edge) (i : ℕ) (e : Edge) (r : Result (Option Delivery) Refused) → i < length es → e ≡ get_or es i e → n ≡ (first.judged + i) + 1 → Follows first (take i es) now
    → r ≡ answer now.bus e → ComesTo (Some n) first es (record { edge = e; answer = r }) now
comes_to_number n first now es i e r h at is one answered = record {
  front = take i es;
  rest = drop (i + 1) es;
  split = split_at es i e h ∙ ap (λ x. take i es ++ (x ∷ drop (i + 1) es)) (sym at);
  asked = is ∙ ap (λ m. (first.judged + m) + 1) (sym (length-take-le i es (omega arith)));
  follows = one;
  answered = answered;
}
