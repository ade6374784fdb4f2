use Rattle.std.proofs.Common.{map}
use Rattle.std.proofs.lemmas.Result.{IfOk-weaker}
use Rattle.vme_command_line.proofs.ReadAlone.{alone_ok}
use Rattle.vme_command_line.proofs.single.read_alone.Goals as goal

pub returns : goal.returns
returns c = IfOk-weaker c.try_get_matches_from.result _ _
    (λ m reads name named. reads name (rw c.in_ok-command.was at named))
    (alone_ok c.in_ok-command.field-0 c.no_binary_name.result (map (λ word. word.now) c.args.words.now) c.try_get_matches_from.result
    c.no_binary_name.ensures c.try_get_matches_from.ensures.matches c.try_get_matches_from.ensures.kinds)
