use Rattle.std.proofs.Common.{◌∙◌, ◌++◌, ap}
use Rattle.vme_reading.proofs.WrittenLines.{text_put}
use Rattle.vme_replay.proofs.forms.write_full_line.Goals as goal

pub returns-clause-ok : goal.returns-clause-ok
returns-clause-ok g c =
    text_put _ _ _ _ _ _ c.in_ok-make_room.ensures.ok
    (c.push.ensures ∙ ap (λ l. c.make_room.new.text ++ l) (c.as_slice.ensures.value ∙ c.verdict_line.ensures c.args.bus.now c.step-answer.ensures.answer))
