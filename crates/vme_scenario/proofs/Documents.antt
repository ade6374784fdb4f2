-- Texts that are UTF-8, and those that are not.
use Rattle.std.proofs.Common.{◌≡◌, ℕ, true, List, None, refl, inl, inr}
use Rattle.std.specs.Str.{IsUtf8, is_utf8}
use Rattle.std.proofs.lemmas.Bool.{cases_Bool}
use Rattle.std.proofs.lemmas.Str.{IsUtf8-from_is_utf8, is_utf8-from_IsUtf8}
use Rattle.toml.specs.Parse.{parse_document}
use Rattle.vme_scenario.specs.Depth.{is_shallow}
use Rattle.vme_scenario.specs.Values.{document}

pub document-utf8 : (bs : List ℕ) → is_shallow bs ≡ true → IsUtf8 bs → document bs ≡ parse_document bs
document-utf8 bs shallow h = rw (shallow, is_utf8-from_IsUtf8 bs h) refl

pub document-other : (bs : List ℕ) → is_shallow bs ≡ true → (IsUtf8 bs → ⊥) → document bs ≡ None
document-other bs shallow h =
    elim (cases_Bool (is_utf8 bs)) [
      | inl is ↦ absurd (h (IsUtf8-from_is_utf8 bs is))
      | inr not ↦ rw (shallow, not) refl
    ]
