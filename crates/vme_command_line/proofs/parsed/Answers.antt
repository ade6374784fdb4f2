use Rattle.std.proofs.Common.{◌≡◌, true, map, refl, subst}
use Rattle.std.proofs.lemmas.Result.{IfOk-weaker}
use Rattle.clap.specs.Words.{App, FailsBy, HasMatchesOf, fault_of, is_simple_and_free}
use Rattle.vme_command_line.proofs.parsed.Goals as goal

pub returns-clause-fault : goal.returns-clause-fault
returns-clause-fault c =
    subst (λ (a : App). is_simple_and_free a ≡ true → FailsBy (fault_of a (map (λ word. word.now) c.args.words.now)) c.try_get_matches_from.result)
    c.in_ok-commands.ensures c.try_get_matches_from.ensures.kinds refl

pub returns-clause-found : goal.returns-clause-found
returns-clause-found c = IfOk-weaker c.try_get_matches_from.result _ _
    (λ m has. (subst (λ (a : App). HasMatchesOf a (map (λ word. word.now) c.args.words.now) m) c.in_ok-commands.ensures has refl).1)
    c.try_get_matches_from.ensures.matches
