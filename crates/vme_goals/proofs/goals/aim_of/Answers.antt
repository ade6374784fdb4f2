use Rattle.std.proofs.Common.{◌∙◌, ap, sym}
use Rattle.std.specs.Prelude.{option_map}
use Rattle.vme_goals.specs.declared.goals.Aim.TheVariants as aim_variant
use Rattle.vme_goals.specs.Events.{all_events}
use Rattle.vme_goals.specs.Goals.{all_misses}
use Rattle.vme_goals.proofs.Named.{event_named, miss_named}
use Rattle.vme_goals.proofs.goals.aim_of.Goals as goal

pub returns-in_err-miss_of-in-None : goal.returns-in_err-miss_of-in-None
unfolding all_events all_misses
returns-in_err-miss_of-in-None c =
    c.from_residual.ensures
    ∙ sym (miss_named c.args.words.now c.args.version (sym c.event_of.ensures ∙ c.in-None.is) ∙ ap (option_map (λ m. aim_variant.Miss m)) (sym c.miss_of.ensures ∙ c.in_err-miss_of-in-None.was))

pub returns-in-Some : goal.returns-in-Some
unfolding all_events
returns-in-Some c = sym (event_named c.args.words.now c.args.version c.in-Some.event (sym c.event_of.ensures ∙ c.in-Some.is))

pub returns-in_ok-miss_of-in-None : goal.returns-in_ok-miss_of-in-None
unfolding all_events all_misses
returns-in_ok-miss_of-in-None c =
    sym (miss_named c.args.words.now c.args.version (sym c.event_of.ensures ∙ c.in-None.is) ∙ ap (option_map (λ m. aim_variant.Miss m)) (sym c.miss_of.ensures ∙ c.in_ok-miss_of-in-None.was))
