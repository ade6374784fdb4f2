-- What is kept of a list of edges: its plan, its version, and its numbered edges.
use Rattle.std.proofs.Common.{◌≡◌, ◌∙◌, ◌<◌, ◌+◌, ◌++◌, ◌∷◌, [], ℕ, Bool, true, false, List, append_assoc, ap, arith, get_or, if◌then◌else◌, is_ok, length, refl, sym, take}
use Rattle.std.proofs.lemmas.List.{take_more}
use Rattle.vme_model.specs.declared.signals.Edge.{Edge}
use Rattle.vme_model.specs.Numbered.{Numbered, edges_in, numbered_on, numbered_with}
use Rattle.vme_model.specs.Verdict.{State, after, kept, made, verdict}

-- ---- what stays

plan_by : (t : Bool) (b : State) (e : Edge) → (if t then made b e else b).plan ≡ b.plan
plan_by true b e = refl
plan_by false b e = refl

pub kept_plan : (b : State) (es : List Edge) → (kept b es).plan ≡ b.plan
kept_plan b [] = refl
kept_plan b (e ∷ es) = kept_plan (after b e) es ∙ plan_by (is_ok (verdict b e)) b e

version_by : (t : Bool) (b : State) (e : Edge) → (if t then made b e else b).version ≡ b.version
version_by true b e = refl
version_by false b e = refl

pub kept_version : (b : State) (es : List Edge) → (kept b es).version ≡ b.version
kept_version b [] = refl
kept_version b (e ∷ es) =
    kept_version (after b e) es ∙ version_by (is_ok (verdict b e)) b e

-- ---- the numbered edges

edges_by : (t : Bool) (b : State) (n : ℕ) (e : Edge) (k : Numbered) → edges_in k ≡ b.history
    → edges_in (if t then (n, e) ∷ k else k) ≡ (if t then made b e else b).history
edges_by true b n e k is = ap (λ h. e ∷ h) is
edges_by false b n e k is = is

pub edges_on : (b : State) (n : ℕ) (k : Numbered) (es : List Edge) → edges_in k ≡ b.history
    → edges_in (numbered_on b n k es) ≡ (kept b es).history
edges_on b n k [] is = is
edges_on b n k (e ∷ es) is =
    edges_on (after b e) (n + 1) (numbered_with b (n + 1) e k) es
    (edges_by (is_ok (verdict b e)) b (n + 1) e k is)

pub numbered_append : (b : State) (n : ℕ) (k : Numbered) (es fs : List Edge)
    → numbered_on b n k (es ++ fs)
    ≡ numbered_on (kept b es) (n + length es) (numbered_on b n k es) fs
numbered_append b n k [] fs = ap (λ m. numbered_on b m k fs) (omega arith)
numbered_append b n k (e ∷ es) fs =
    numbered_append (after b e) (n + 1) (numbered_with b (n + 1) e k) es fs
    ∙ ap (λ m. numbered_on (kept (after b e) es) m
    (numbered_on (after b e) (n + 1) (numbered_with b (n + 1) e k) es) fs) (omega arith)

-- ---- in a loop over edges

pub next_list : (before es : List Edge) (i : ℕ) (d : Edge) → i < length es
    → (before ++ take i es) ++ (get_or es i d ∷ []) ≡ before ++ take (i + 1) es
next_list before es i d h =
    append_assoc before (take i es) (get_or es i d ∷ []) ∙ ap (λ l. before ++ l)
    (sym (take_more es i d h))
