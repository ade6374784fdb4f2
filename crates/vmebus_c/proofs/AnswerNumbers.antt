-- The numbers of an answer name it.
use Rattle.std.proofs.Common.{◌≡◌, ◌∙◌, refl, ap, ℕ, ◌+◌, ◌*◌, ◌/◌, ◌%◌, ◌<◌, ◌≤◌, Bool, true, false, [], arith}
use Rattle.std.proofs.lemmas.Bool.{ne_eqb}
use Rattle.std.proofs.lemmas.Bool.Decides.{nat_tests}
use Rattle.std.specs.Prelude.{Option, Some, None, Result, Ok, Err, if◌then◌else◌, ◌==◌, ◌&&◌, nat_le}
use Rattle.std.specs.Option.{option_map_or}
use Rattle.vme_model.specs.declared.deliveries.Delivery.{Delivery}
use Rattle.vme_model.specs.declared.refusals.Refused.{Refused}
use Rattle.vme_model.specs.declared.refusals.Refused.TheVariants.{NoSuchDriver, AlreadyThere, Rule, NotSettled, TraceFull}
use Rattle.vme_model.specs.Report.{verdict_text}
use Rattle.vme_model.proofs.Bools.{and_left, and_right}
use Rattle.vmebus_c.specs.Laws.{HasNumber}
use Rattle.vmebus_c.specs.Numbers.{answer_number, delivered_number, delivery_number}
use Rattle.vmebus_c.specs.Verdicts.{answer_of_numbers, delivered_of_number, delivery_of_number, is_rule, verdict_of_numbers}

abbrev Answer : Type 0
Answer = Result (Option Delivery) Refused

-- ---- a delivery is that of its number

module _ (d : Delivery) (level : d.level < 128) (handler : d.handler < 256) (answered : d.answered_by < 256) (status : d.status < 256) where
  abbrev word : ℕ
  word = (((128 + d.level % 128) * 256 + d.handler) * 256 + d.answered_by) * 256 + d.status

  its_level : word / 16777216 % 128 ≡ d.level
  its_level = omega (arith, level, handler, answered, status)

  its_handler : word / 65536 % 256 ≡ d.handler
  its_handler = omega (arith, handler, answered, status)

  its_answerer : word / 256 % 256 ≡ d.answered_by
  its_answerer = omega (arith, answered, status)

  its_status : word % 256 ≡ d.status
  its_status = omega (arith, status)

  named : delivery_of_number word ≡ d
  named = λ i. record { handler = its_handler i; level = its_level i; answered_by = its_answerer i; status = its_status i }

  not_nothing : (word == 0) ≡ false
  not_nothing = ne_eqb word 0 (λ e. omega (arith, e))

  delivered_named : delivered_of_number word ≡ Some d
  delivered_named = ap (λ (b : Bool). if b then None else Some (delivery_of_number word)) not_nothing ∙ ap (λ (x : Delivery). Some x) named

-- ---- a rule is that of its number

from_one : (last k : ℕ) → is_rule last k ≡ true → 1 ≤ k
from_one last k h = let least = and_left (nat_le 1 k) (nat_le k last) h in grind (arith, nat_tests)

to_last : (last k : ℕ) → is_rule last k ≡ true → k ≤ last
to_last last k h = let most = and_right (nat_le 1 k) (nat_le k last) h in grind (arith, nat_tests)

module _ (k : ℕ) where
  rule_named : is_rule 26 k ≡ true → answer_of_numbers (768 + k) 0 ≡ Some (Err (Rule k))
  rule_named h =
      let from = from_one 26 k h in
      let most = to_last 26 k h in
      let low : (768 + k) % 256 ≡ k = omega (arith, most) in
      let high : (768 + k) / 256 ≡ 3 = omega (arith, most) in
      grind (arith, nat_tests)

  settling_named : is_rule 4 k ≡ true → answer_of_numbers (1024 + k) 0 ≡ Some (Err (NotSettled k))
  settling_named h =
      let from = from_one 4 k h in
      let most = to_last 4 k h in
      let low : (1024 + k) % 256 ≡ k = omega (arith, most) in
      let high : (1024 + k) / 256 ≡ 4 = omega (arith, most) in
      grind (arith, nat_tests)

-- ---- any answer is that of its numbers

spelled_by : (o : Option Answer) (a : Answer) → o ≡ Some a → option_map_or verdict_text o [] ≡ verdict_text a
spelled_by o a e = ap (λ (x : Option Answer). option_map_or verdict_text x []) e

pub numbers_spell : (a : Answer) → HasNumber a → verdict_of_numbers (answer_number a) (delivered_number a) ≡ verdict_text a
numbers_spell (Ok None) h = refl
numbers_spell (Ok (Some d)) h =
    spelled_by _ _ (ap (λ (x : Option Delivery). Some (Ok x)) (delivered_named d h.0 h.1 h.2 h.3))
numbers_spell (Err NoSuchDriver) h = refl
numbers_spell (Err AlreadyThere) h = refl
numbers_spell (Err (Rule k)) h = spelled_by _ _ (rule_named k h)
numbers_spell (Err (NotSettled k)) h = spelled_by _ _ (settling_named k h)
numbers_spell (Err TraceFull) h = absurd h
