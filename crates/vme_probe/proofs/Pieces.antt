-- A piece, byte by byte: `probes`.
use Rattle.std.proofs.Common.{◌≡◌, ◌∙◌, ◌<◌, ◌+◌, ◌++◌, ◌∷◌, [], ℕ, zero, suc, List, refl, sym, ap, append_assoc, arith, add-one, drop, get_or, length, take}

cut_piece : (piece : List ℕ) (i : ℕ) → i < length piece → piece ≡ (take i piece ++ get_or piece i 0 ∷ []) ++ drop (i + 1) piece
cut_piece [] i lt = absurd (omega arith)
cut_piece (b ∷ piece) zero lt = refl
cut_piece (b ∷ piece) (suc i) lt = rw (add-one (suc i)) (ap (λ (l : List ℕ). b ∷ l) (cut_piece piece i (omega arith) ∙ rw (add-one i) refl))

pub more_taken : (piece : List ℕ) (i : ℕ) → i < length piece → take i piece ++ get_or piece i 0 ∷ [] ≡ take (i + 1) piece
more_taken [] i lt = absurd (omega arith)
more_taken (b ∷ piece) zero lt = refl
more_taken (b ∷ piece) (suc i) lt = rw (add-one (suc i)) (ap (λ (l : List ℕ). b ∷ l) (more_taken piece i (omega arith) ∙ rw (add-one i) refl))

pub whole_piece : (bytes piece : List ℕ) (i : ℕ) → i < length piece → ((bytes ++ take i piece) ++ get_or piece i 0 ∷ []) ++ drop (i + 1) piece ≡ bytes ++ piece
whole_piece bytes piece i lt =
    ap (λ (l : List ℕ). l ++ drop (i + 1) piece) (append_assoc bytes (take i piece) (get_or piece i 0 ∷ []))
    ∙ append_assoc bytes (take i piece ++ get_or piece i 0 ∷ []) (drop (i + 1) piece)
    ∙ ap (λ (l : List ℕ). bytes ++ l) (sym (cut_piece piece i lt))

pub next_piece : (bytes piece : List ℕ) (i : ℕ) → i < length piece → (bytes ++ take i piece) ++ get_or piece i 0 ∷ [] ≡ bytes ++ take (i + 1) piece
next_piece bytes piece i lt = append_assoc bytes (take i piece) (get_or piece i 0 ∷ []) ∙ ap (λ (l : List ℕ). bytes ++ l) (more_taken piece i lt)
