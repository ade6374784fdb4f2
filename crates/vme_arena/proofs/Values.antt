-- The machine values of the crate's structs: what a struct's fields own determines them, and they
-- are made of nothing.
use Rattle.std.proofs.Common.{◌≡◌, ℕ, ◌^◌, ◌<◌, List, [], ◌∷◌, ◌++◌, refl, ◌∙◌, w64}
use seplogic.Ra.Ura.{Ura}
use mir.Syntax.{Ty, ty_ptr, ty_struct, tcons, tnil}
use mir.Val.{Val, vint, vstruct, vcons, vnil, of_list}
use base.Logic.{ent, emp}
use base.Fml.{Fml}
use types.Logic.{Logic, sem}
use denote.RattleType.{RattleType}
use denote.Builtin.{usize}
use denote.RawPtr.{Ptr, RawPtr, ptr_val}
use denote.Shadow.{shadow, makes_shadow}
use denote.Struct.Struct.{Struct}

-- a struct of which only the fields matter
abbrev fields_of : List RattleType → RattleType
fields_of Rs = Struct (record { name = []; args = []; types = []; fields = Rs })

-- a piece: one pointer
abbrev pub piece_val : Ptr → Val
piece_val p = vstruct (vcons (ptr_val p) vnil)

abbrev pub piece_own : Ptr → List Val → Fml
piece_own p = (fields_of (RawPtr ∷ [])).own_val (p, tt)

pub piece_told : (p : Ptr) (vs : List Val) → shadow (piece_own p vs) → vs ≡ piece_val p ∷ []
piece_told p vs s = s.1.0 ∙ (λ i. vstruct (of_list (s.1.1.0 i ++ [])) ∷ [])

pub piece_made : {M : Type 1} {𝓤 : Ura M} (𝓛 : Logic 𝓤) (p : Ptr) → ent 𝓤 (emp 𝓤) (sem 𝓛 (piece_own p (piece_val p ∷ [])))
piece_made 𝓛 p = makes_shadow 𝓛 (piece_own p (piece_val p ∷ [])) (λ _. (tt, (tt, tt))) ((ptr_val p ∷ [], tt), (refl, (refl, tt)))

-- all granules: two pointers
abbrev pub granules_val : Ptr → Ptr → Val
granules_val p t = vstruct (vcons (ptr_val p) (vcons (ptr_val t) vnil))

abbrev pub granules_own : Ptr → Ptr → List Val → Fml
granules_own p t = (fields_of (RawPtr ∷ RawPtr ∷ [])).own_val (p, (t, tt))

abbrev pub granules_type : Ty
granules_type = ty_struct [] (tcons ty_ptr (tcons ty_ptr tnil))

pub granules_told : (p t : Ptr) (vs : List Val) → shadow (granules_own p t vs) → vs ≡ granules_val p t ∷ []
granules_told p t vs s = s.1.0 ∙ (λ i. vstruct (of_list (s.1.1.0 i ++ (s.1.1.1.0 i ++ []))) ∷ [])

pub granules_made : {M : Type 1} {𝓤 : Ura M} (𝓛 : Logic 𝓤) (p t : Ptr) → ent 𝓤 (emp 𝓤) (sem 𝓛 (granules_own p t (granules_val p t ∷ [])))
granules_made 𝓛 p t = makes_shadow 𝓛 (granules_own p t (granules_val p t ∷ [])) (λ _. (tt, (tt, (tt, tt)))) ((ptr_val p ∷ [], (ptr_val t ∷ [], tt)), (refl, (refl, (refl, tt))))

-- a loan: two pointers and a marker
abbrev pub loan_val : Ptr → Ptr → Val
loan_val p t = vstruct (vcons (ptr_val p) (vcons (ptr_val t) (vcons (vstruct vnil) vnil)))

abbrev pub loan_own : Ptr → Ptr → List Val → Fml
loan_own p t = (fields_of (RawPtr ∷ RawPtr ∷ fields_of [] ∷ [])).own_val (p, (t, (tt, tt)))

pub loan_told : (p t : Ptr) (vs : List Val) → shadow (loan_own p t vs) → vs ≡ loan_val p t ∷ []
loan_told p t vs s = s.1.0 ∙ (λ i. vstruct (of_list (s.1.1.0 i ++ (s.1.1.1.0 i ++ (s.1.1.1.1.0.1.0 i ++ [])))) ∷ [])

pub loan_made : {M : Type 1} {𝓤 : Ura M} (𝓛 : Logic 𝓤) (p t : Ptr) → ent 𝓤 (emp 𝓤) (sem 𝓛 (loan_own p t (loan_val p t ∷ [])))
loan_made 𝓛 p t = makes_shadow 𝓛 (loan_own p t (loan_val p t ∷ [])) (λ _. (tt, (tt, (tt, ((λ _. (tt, tt)), tt)))))
    ((ptr_val p ∷ [], (ptr_val t ∷ [], (vstruct vnil ∷ [], tt))), (refl, (refl, (refl, ((tt, (refl, tt)), tt)))))

-- memory: a pointer and a size
abbrev pub memory_val : Ptr → ℕ → Val
memory_val p n = vstruct (vcons (ptr_val p) (vcons (vint w64 n) vnil))

abbrev pub memory_own : Ptr → ℕ → List Val → Fml
memory_own p n = (fields_of (RawPtr ∷ usize ∷ [])).own_val (p, (n, tt))

pub memory_told : (p : Ptr) (n : ℕ) (vs : List Val) → shadow (memory_own p n vs) → (vs ≡ memory_val p n ∷ []) × (n < 2 ^ 64)
memory_told p n vs s = (s.1.0 ∙ (λ i. vstruct (of_list (s.1.1.0 i ++ (s.1.1.1.0.0 i ++ []))) ∷ []), s.1.1.1.0.1)

pub memory_made : {M : Type 1} {𝓤 : Ura M} (𝓛 : Logic 𝓤) (p : Ptr) (n : ℕ) → n < 2 ^ 64 → ent 𝓤 (emp 𝓤) (sem 𝓛 (memory_own p n (memory_val p n ∷ [])))
memory_made 𝓛 p n f = makes_shadow 𝓛 (memory_own p n (memory_val p n ∷ [])) (λ _. (tt, (tt, ((tt, tt), tt)))) ((ptr_val p ∷ [], (vint w64 n ∷ [], tt)), (refl, (refl, ((refl, f), tt))))

-- a deed: a marker
abbrev pub deed_val : Val
deed_val = vstruct (vcons (vstruct vnil) vnil)

abbrev pub deed_own : List Val → Fml
deed_own = (fields_of (fields_of [] ∷ [])).own_val (tt, tt)

pub deed_told : (vs : List Val) → shadow (deed_own vs) → vs ≡ deed_val ∷ []
deed_told vs s = s.1.0 ∙ (λ i. vstruct (of_list (s.1.1.0.1.0 i ++ [])) ∷ [])

pub deed_made : {M : Type 1} {𝓤 : Ura M} (𝓛 : Logic 𝓤) → ent 𝓤 (emp 𝓤) (sem 𝓛 (deed_own (deed_val ∷ [])))
deed_made 𝓛 = makes_shadow 𝓛 (deed_own (deed_val ∷ [])) (λ _. (tt, ((λ _. (tt, tt)), tt))) ((vstruct vnil ∷ [], tt), (refl, ((tt, (refl, tt)), tt)))

-- a block: a pointer and a marker
abbrev pub block_val : Ptr → Val
block_val p = vstruct (vcons (ptr_val p) (vcons (vstruct vnil) vnil))

abbrev pub block_own : Ptr → List Val → Fml
block_own p = (fields_of (RawPtr ∷ fields_of [] ∷ [])).own_val (p, (tt, tt))

pub block_told : (p : Ptr) (vs : List Val) → shadow (block_own p vs) → vs ≡ block_val p ∷ []
block_told p vs s = s.1.0 ∙ (λ i. vstruct (of_list (s.1.1.0 i ++ (s.1.1.1.0.1.0 i ++ []))) ∷ [])

pub block_made : {M : Type 1} {𝓤 : Ura M} (𝓛 : Logic 𝓤) (p : Ptr) → ent 𝓤 (emp 𝓤) (sem 𝓛 (block_own p (block_val p ∷ [])))
block_made 𝓛 p = makes_shadow 𝓛 (block_own p (block_val p ∷ [])) (λ _. (tt, (tt, ((λ _. (tt, tt)), tt)))) ((ptr_val p ∷ [], (vstruct vnil ∷ [], tt)), (refl, (refl, ((tt, (refl, tt)), tt))))
