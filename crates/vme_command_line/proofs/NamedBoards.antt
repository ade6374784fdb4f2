-- A text that names no driver whose edges alone count.
use Rattle.std.proofs.Common.{◌≡◌, ◌≢◌, ◌∙◌, ◌≤◌, ℕ, codes, sym, subst}
use Rattle.clap.specs.Words.{Text}
use Rattle.vme_model.specs.declared.Driver.TheVariants.{Controller, Slot}
use Rattle.vme_command_line.specs.Aims.{IsNameOf, NamesNobody}
use Rattle.vme_command_line.specs.Numbers.{IsSeed}

pub no_number : (text : Text) → text ≢ codes "c" → ((n : ℕ) → ¬ (IsSeed text n)) → NamesNobody text
no_number text other none Controller is = other is
no_number text other none (Slot s) is = none s is.2

pub no_slot : (text : Text) (n : ℕ) → text ≢ codes "c" → IsSeed text n → (1 ≤ n → n ≤ 21 → ⊥) → NamesNobody text
no_slot text n other seed out Controller is = other is
no_slot text n other seed out (Slot s) is =
    let same : s ≡ n = sym is.2.1 ∙ seed.1 in
    out (subst (λ k. 1 ≤ k) same is.0) (subst (λ k. k ≤ 21) same is.1)
