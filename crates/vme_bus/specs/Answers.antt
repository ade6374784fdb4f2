-- The answers to edges, and an answer as numbers.
use Rattle.std.specs.Prelude.{◌-◌, ◌==◌, if◌then◌else◌, ℕ, Bool, true, false, Option, Some, None, Result, Ok, Err, List, [], ◌∷◌, nat_lt}
use Rattle.vme_model.specs.declared.deliveries.Delivery.{Delivery}
use Rattle.vme_model.specs.declared.refusals.Refused.{Refused}
use Rattle.vme_model.specs.declared.refusals.Refused.TheVariants.{NoSuchDriver, AlreadyThere, Rule, NotSettled, TraceFull}
use Rattle.vme_model.specs.declared.signals.Edge.{Edge}
use Rattle.vme_model.specs.Deliveries.{answer}
use Rattle.vme_model.specs.Verdict.{State, after}
use Rattle.vme_bus.specs.declared.answers.AnswerRecord.{AnswerRecord}

-- what is answered to edges, each judged on what was kept before it
abbrev pub answers : State → List Edge → List (Result (Option Delivery) Refused)
answers b [] = []
answers b (e ∷ es) = answer b e ∷ answers (after b e) es

-- the refusal of a number that is no accepted edge's
abbrev pub refusal_in : ℕ → Refused
refusal_in n =
    if n == 1 then NoSuchDriver
    else (if n == 2 then AlreadyThere
    else (if n == 3 then TraceFull
    else (if nat_lt n 32 then NotSettled (n - 16) else Rule (n - 32))))

-- the answer of a number, with what is delivered, if anything is
abbrev pub answer_in : ℕ → Delivery → Result (Option Delivery) Refused
answer_in n d =
    if n == 0 then Ok None else (if n == 64 then Ok (Some d) else Err (refusal_in n))

-- the answer that a record stands for
abbrev pub answer_of : AnswerRecord → Result (Option Delivery) Refused
answer_of r = answer_in r.number r.delivery

-- the edge is accepted and delivers nothing
abbrev pub is_plain : Result (Option Delivery) Refused → Bool
is_plain (Ok None) = true
is_plain (Ok (Some d)) = false
is_plain (Err refused) = false

-- a refusal has a number of its own
abbrev pub is_short : Refused → Bool
is_short (NotSettled n) = nat_lt n 16
is_short (Rule n) = nat_lt n 32
is_short _ = true
