-- Texts that are UTF-8, and others.
use Rattle.std.proofs.Common.{◌≡◌, ℕ, List, None, refl, inl, inr}
use Rattle.std.specs.Str.{IsUtf8, is_utf8}
use Rattle.std.proofs.lemmas.Bool.{cases_Bool}
use Rattle.std.proofs.lemmas.Str.{IsUtf8-from_is_utf8, is_utf8-from_IsUtf8}
use Rattle.toml.specs.Parse.{parse_document}
use Rattle.vme_scenario.specs.Values.{document}

pub document-utf8 : (bs : List ℕ) → IsUtf8 bs → document bs ≡ parse_document bs
document-utf8 bs h = rw (is_utf8-from_IsUtf8 bs h) refl

pub document-other : (bs : List ℕ) → (IsUtf8 bs → ⊥) → document bs ≡ None
document-other bs h =
    elim (cases_Bool (is_utf8 bs)) [
      | inl is ↦ absurd (h (IsUtf8-from_is_utf8 bs is))
      | inr not ↦ rw not refl
    ]
