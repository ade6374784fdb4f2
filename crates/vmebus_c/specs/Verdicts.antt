-- The answer to an edge that the numbers of a step stand for, and its text.
use Rattle.std.specs.Prelude.{◌≡◌, ◌<◌, ◌==◌, ◌&&◌, ◌/◌, ◌%◌, ◌^◌, ℕ, Bool, Option, Some, None, List, [], Result, Ok, Err, nat_le, if◌then◌else◌}
use Rattle.std.specs.Option.{option_map_or}
use Rattle.vme_model.specs.declared.deliveries.Delivery.{Delivery}
use Rattle.vme_model.specs.declared.refusals.Refused.{Refused}
use Rattle.vme_model.specs.declared.refusals.Refused.TheVariants.{NoSuchDriver, AlreadyThere, Rule, NotSettled}
use Rattle.vme_model.specs.Report.{verdict_text}

-- the number of a rule: G1 to G26 have the numbers 1 to 26, and S1 to S4 the numbers 1 to 4
abbrev pub is_rule : ℕ → ℕ → Bool
is_rule last n = nat_le 1 n && nat_le n last

-- the last of G1 to G26
abbrev pub last_rule : ℕ
last_rule = 26

-- the last of S1 to S4
abbrev pub last_settling : ℕ
last_settling = 4

-- the delivery of a number, from the top: the level in seven bits, the handler, the slot that
-- answers, and the status, a byte each
abbrev pub delivery_of_number : ℕ → Delivery
delivery_of_number n = record {
  handler = n / 2 ^ 16 % 256;
  level = n / 2 ^ 24 % 128;
  answered_by = n / 2 ^ 8 % 256;
  status = n % 256;
}

-- what is delivered; 0 is nothing
abbrev pub delivered_of_number : ℕ → Option Delivery
delivered_of_number n = if n == 0 then None else Some (delivery_of_number n)

-- the answer that a step returned, with what it delivered; none if no step returns the number
abbrev pub answer_of_numbers : ℕ → ℕ → Option (Result (Option Delivery) Refused)
answer_of_numbers answer delivered =
    if answer == 0 then Some (Ok (delivered_of_number delivered))
    else (if answer == 256 then Some (Err NoSuchDriver)
    else (if answer == 512 then Some (Err AlreadyThere)
    else (if answer / 256 == 3 && is_rule last_rule (answer % 256) then
    Some (Err (Rule (answer % 256)))
    else (if answer / 256 == 4 && is_rule last_settling (answer % 256) then
    Some (Err (NotSettled (answer % 256)))
    else None))))

-- its text, as `replay` has it; empty if no step returns the number
abbrev pub verdict_of_numbers : ℕ → ℕ → List ℕ
verdict_of_numbers answer delivered =
    option_map_or verdict_text (answer_of_numbers answer delivered) []
