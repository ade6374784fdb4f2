use Rattle.std.proofs.Common.{◌∙◌, sym, ap, ℕ, false}
use Rattle.std.specs.Prelude.{◌==◌, Option}
use Rattle.std.specs.Option.{option_map_or}
use Rattle.vme_model.specs.History.{request_line, last_level}
use Rattle.vme_model.proofs.Picks.{one_pick}
use Rattle.vme_bus.proofs.states.BusState.is_picked.Goals as goal

pub returns-in-Some : goal.returns-in-Some
returns-in-Some c low version p h is =
    sym (ap (λ (o : Option ℕ). option_map_or (λ m. m == c.args.level) o false) (sym (c.picked.ensures version p h is) ∙ c.in-Some.is))
    ∙ sym (one_pick p.arbiter (request_line p h) (last_level h) c.args.level low)

pub returns-in-None : goal.returns-in-None
returns-in-None c low version p h is =
    sym (ap (λ (o : Option ℕ). option_map_or (λ m. m == c.args.level) o false) (sym (c.picked.ensures version p h is) ∙ c.in-None.is))
    ∙ sym (one_pick p.arbiter (request_line p h) (last_level h) c.args.level low)
