use Rattle.std.proofs.Common.{◌≡◌, ◌∙◌, ◌<◌, ℕ, zero, suc, true, false, List, [], ◌∷◌, refl, sym, ap, arith}
use Rattle.std.specs.Prelude.{◌&&◌, nat_lt, slice_index_or}
use Rattle.std.proofs.lemmas.Bool.Decides.{nat_tests}
use Rattle.vme_bus.specs.declared.sets.SlotSet.{SlotSet}
use Rattle.vme_bus.specs.Sets.{has}
use Rattle.vme_bus.proofs.Outputs.{slots_are}
use Rattle.vme_standings.specs.Phases.{no_slots}
use Rattle.vme_standings.proofs.phases.GrantPhases.all.Goals as goal

-- so many rows that are alike
abbrev rows : {A : Type 0} → ℕ → A → List A
rows zero a = []
rows (suc n) a = a ∷ rows n a

row_is : {A : Type 0} (a d : A) (n k : ℕ) → k < n → slice_index_or (rows n a) k d ≡ a
row_is a d zero k l = absurd (omega arith)
row_is a d (suc n) zero l = refl
row_is a d (suc n) (suc k) l = row_is a d n k (omega arith)

-- the set of all slots
abbrev slots : SlotSet
slots = record { bits = 4194303 }

few : (c n : ℕ) → c < n → nat_lt c n ≡ true
few c n l = grind (arith, nat_tests)

place : (n k t : ℕ) → k < n → has (slice_index_or (rows n slots) k no_slots) t ≡ (nat_lt k n && nat_lt t 22)
place n k t l = ap (λ r. has r t) (row_is slots no_slots n k l) ∙ slots_are t ∙ ap (λ b. b && nat_lt t 22) (sym (few k n l))

pub returns : goal.returns
returns c = record {
  idle = λ n l. row_is true false 4 n l ∙ sym (few n 4 l);
  granting = λ n t l m. place 4 n t l;
  held = λ b t l m. place 22 b t l;
  expired = λ n t l m. place 4 n t l;
}
