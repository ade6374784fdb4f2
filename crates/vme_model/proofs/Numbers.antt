-- The numbered edges are the accepted ones, each at its number, and what holds has the edge since
-- which it holds.
use Rattle.std.proofs.Common.{◌≡◌, ◌∙◌, ℕ, suc, ◌+◌, Bool, true, false, List, [], ◌∷◌, Option, Some, None, refl, sym, ap, subst, arith}
use Rattle.std.specs.Prelude.{◌&&◌, ◌||◌, if◌then◌else◌, is_ok, is_some, slice_get}
use Rattle.std.specs.List.{All}
use Rattle.std.specs.Option.{option_or}
use Rattle.std.proofs.lemmas.List.Elements.{All-cons, All-nil}
use Rattle.vme_model.specs.declared.boards.IrqKind.{IrqKind}
use Rattle.vme_model.specs.declared.signals.Driver.{Driver}
use Rattle.vme_model.specs.declared.signals.Wire.{Wire}
use Rattle.vme_model.specs.declared.signals.Wire.TheVariants.{AddressStrobe, DataStrobe, Irq, Dtack}
use Rattle.vme_model.specs.declared.signals.Edge.{Edge}
use Rattle.vme_model.specs.Signals.{is_edge_of, is_fall_of}
use Rattle.vme_model.specs.Plan.{Plan}
use Rattle.vme_model.specs.History.{drive, shown, serves, served_since_request, has_strobed}
use Rattle.vme_model.specs.Verdict.{State, verdict, made, after, kept}
use Rattle.vme_model.specs.Numbered.{Numbered, edges_in, numbered_with, numbered_on, numbered, since, served_since, strobed_at, IsNth}

one_more : (t : Bool) (b : State) (n : ℕ) (e : Edge) (k : Numbered) → edges_in k ≡ b.history → edges_in (if t then (n, e) ∷ k else k) ≡ (if t then made b e else b).history
one_more true b n e k h = ap (λ l. e ∷ l) h
one_more false b n e k h = h

kept_on : (es : List Edge) (b : State) (n : ℕ) (k : Numbered) → edges_in k ≡ b.history → edges_in (numbered_on b n k es) ≡ (kept b es).history
kept_on [] b n k h = h
kept_on (e ∷ es) b n k h = kept_on es (after b e) (n + 1) (numbered_with b (n + 1) e k) (one_more (is_ok (verdict b e)) b (n + 1) e k h)

pub numbered_are_kept : (b : State) (es : List Edge) → b.history ≡ [] → edges_in (numbered b es) ≡ (kept b es).history
numbered_are_kept b es h = kept_on es b 0 [] (sym h)

all_with : (t : Bool) (P : ℕ × Edge → Type 0) (m : ℕ × Edge) (k : Numbered) → P m → All P k → All P (if t then m ∷ k else k)
all_with true P m k h a = All-cons P m k h a
all_with false P m k h a = a

all_on : (es : List Edge) (P : ℕ × Edge → Type 0) (b : State) (n : ℕ) (k : Numbered) → All P k → ((j : ℕ) (e : Edge) → slice_get es j ≡ Some e → P (n + j + 1, e)) → All P (numbered_on b n k es)
all_on [] P b n k a f = a
all_on (e ∷ es) P b n k a f =
    all_on es P (after b e) (n + 1) (numbered_with b (n + 1) e k)
    (all_with (is_ok (verdict b e)) P (n + 1, e) k
    (let same : n + 0 + 1 ≡ n + 1 = omega arith in subst (λ m. P (m, e)) same (f 0 e refl)) a)
    (λ j d h. let same : n + suc j + 1 ≡ n + 1 + j + 1 = omega arith in subst (λ m. P (m, d)) same (f (suc j) d h))

pub all_at_their_number : (b : State) (es : List Edge) → All (λ m. IsNth es m.0 m.1) (numbered b es)
all_at_their_number b es =
    all_on es (λ m. IsNth es m.0 m.1) b 0 [] (All-nil (λ m. IsNth es m.0 m.1))
    (λ j e h. record { place = j; number = omega arith; is = h })

has_since_more : (t : Bool) (o : Option ℕ) (n : ℕ) (fall low : Bool) → (low ≡ true → is_some o ≡ true) → (if t then fall else low) ≡ true → is_some (if t then Some n else o) ≡ true
has_since_more true o n fall low f h = refl
has_since_more false o n fall low f h = f h

pub low_has_since : (k : Numbered) (d : Driver) (w : Wire) → drive (edges_in k) d w ≡ true → is_some (since k d w) ≡ true
low_has_since [] d w h = cc
low_has_since ((n, e) ∷ k) d w h = has_since_more (is_edge_of d w e) (since k d w) n e.fall (drive (edges_in k) d w) (low_has_since k d w) h

or_some : (o : Option ℕ) (n : ℕ) → is_some (option_or o (Some n)) ≡ true
or_some None n = refl
or_some (Some m) n = refl

or_none : (o : Option ℕ) → is_some (option_or o None) ≡ is_some o
or_none None = refl
or_none (Some m) = refl

served_more : (t u : Bool) (o : Option ℕ) (n : ℕ) (r : Bool) → is_some o ≡ r → is_some (if t then None else option_or o (if u then Some n else None)) ≡ (if t then false else u || r)
served_more true u o n r h = refl
served_more false true o n r h = or_some o n
served_more false false o n r h = or_none o ∙ h

pub served_has_since : (p : Plan) (k : Numbered) (d : Driver) (kind : IrqKind) → is_some (served_since p k d kind) ≡ served_since_request p (edges_in k) d kind
served_has_since p [] d kind = refl
served_has_since p ((n, e) ∷ k) d kind =
    served_more (is_fall_of d Irq e) (is_fall_of d Dtack e && serves kind (shown p (edges_in k))) (served_since p k d kind) n (served_since_request p (edges_in k) d kind) (served_has_since p k d kind)

strobed_more : (t u : Bool) (o : Option ℕ) (n : ℕ) (r : Bool) → is_some o ≡ r → is_some (if t then None else (if u then Some n else o)) ≡ (if t then false else u || r)
strobed_more true u o n r h = refl
strobed_more false true o n r h = refl
strobed_more false false o n r h = h

pub strobed_has_number : (k : Numbered) (d : Driver) → is_some (strobed_at k d) ≡ has_strobed (edges_in k) d
strobed_has_number [] d = refl
strobed_has_number ((n, e) ∷ k) d =
    strobed_more (is_fall_of d AddressStrobe e) (is_fall_of d DataStrobe e) (strobed_at k d) n (has_strobed (edges_in k) d) (strobed_has_number k d)
