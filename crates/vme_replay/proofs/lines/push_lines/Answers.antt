use Rattle.std.proofs.Common.{◌≡◌, ◌∙◌, ap, sym, ◌++◌, length, map, true}
use Rattle.std.proofs.lemmas.List.{length-map}
use Rattle.std.specs.List.{list_all}
use Rattle.vme_bus.specs.Answers.{answer_of, is_plain}
use Rattle.vme_replay.specs.Recorded.{plain_lines}
use Rattle.vme_replay.proofs.RecordedLines.{plain_are}
use Rattle.vme_replay.proofs.lines.push_lines.Goals as goal

pub returns-then-are_plain : goal.returns-then-are_plain
returns-then-are_plain c =
    let answers = map answer_of c.args.records.now in
    let all : list_all is_plain answers ≡ true = sym c.are_plain.ensures ∙ c.if-are_plain.true in
    let ten : length answers ≡ 10 = length-map c.args.records.now answer_of ∙ c.if-records-eq10.true in
    c.push_plain.ensures
    ∙ ap (λ k. c.args.text.now ++ plain_lines c.args.count.now k) (sym ten)
    ∙ ap (λ l. c.args.text.now ++ l) (sym (plain_are c.args.count.now answers all))
