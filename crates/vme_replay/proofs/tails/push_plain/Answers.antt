use Rattle.std.proofs.Common.{◌≡◌, ◌∙◌, ap, ◌+◌, ◌-◌, ◌*◌, ◌/◌, ◌≤◌, ◌++◌, [], take, get_or, arith, Ok, None}
use Rattle.std.specs.Fmt.{decimal}
use Rattle.vme_model.specs.declared.deliveries.Delivery.{Delivery}
use Rattle.vme_model.specs.Report.{verdict_line}
use Rattle.vme_replay.specs.declared.tails.TheConstants.{ENDS, SIZES}
use Rattle.vme_replay.proofs.RecordedLines.{plain_more}
use Rattle.vme_replay.proofs.VerdictEnds.{size_fits, line_in_table}
use Rattle.vme_replay.proofs.tails.push_plain.Goals as goal

-- what is delivered where nothing is does not matter
nothing : Delivery
nothing = record { handler = 0; level = 0; answered_by = 0; status = 0 }

pub lines-preserved : goal.lines-preserved
lines-preserved c =
    let digit = c.lines.digit in
    let start = c.lines.text in
    let number = 10 * (c.args.count.now / 10) + (digit - 48) in
    let n = c.args.count.now + (digit - 48) in
    let same : number ≡ n = omega (arith, c.requires.tens) in
    let fits : get_or SIZES 0 0 ≤ 8 = size_fits 0 (omega arith) in
    let line : c.push_line.new.text ≡ start ++ verdict_line n (Ok None) =
    c.push_line.ensures.text
    ∙ ap (λ k. start ++ (decimal number ++ take k (get_or ENDS 0 []))) c.from.ensures
    ∙ ap (λ l. start ++ l) (line_in_table number 0 nothing (omega arith))
    ∙ ap (λ k. start ++ verdict_line k (Ok None)) same in
    record {
      least = omega (arith, c.lines.invariant.least);
      most = omega (arith, c.lines-test.true);
      room = omega (arith, c.push_line.ensures.short, c.from.ensures, fits, c.lines.invariant.room, c.lines.invariant.least);
      text =
          plain_more n (c.args.count.now + (digit + 1 - 48)) (58 - digit) (58 - (digit + 1)) start c.push_line.new.text _ (omega (arith, c.lines-test.true)) (omega (arith, c.lines.invariant.least))
          c.lines.invariant.text line;
    }
