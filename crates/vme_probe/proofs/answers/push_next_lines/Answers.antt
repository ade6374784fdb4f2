use Rattle.std.proofs.Common.{◌++◌, ◌∷◌, []}
use Rattle.vme_captures.specs.declared.signals.Line.TheVariants as line
use Rattle.vme_probe.specs.Ends.{next_interrupts, next_of, next_requests, next_strobes}
use Rattle.vme_probe.proofs.Coming.{adds_both}
use Rattle.vme_probe.proofs.answers.push_next_lines.Goals as goal

pub returns-clause-adds : goal.returns-clause-adds
returns-clause-adds c =
    let st = c.args.standings.now in
    let both = adds_both c.args.plan.now c.args.probed.now st in
    let one = next_requests st ++ next_interrupts st in
    let two = one ++ next_of st line.Bbsy ∷ [] in
    let three = two ++ next_strobes st in
    let four = three ++ next_of st line.DataStrobe ∷ [] in
    let five = four ++ next_of st line.Dtack ∷ [] in
    let six = five ++ next_of st line.Berr ∷ [] in
    both six (next_of st line.Bclr ∷ []) _ _ _
    (both five (next_of st line.Berr ∷ []) _ _ _
    (both four (next_of st line.Dtack ∷ []) _ _ _
    (both three (next_of st line.DataStrobe ∷ []) _ _ _
    (both two (next_strobes st) _ _ _
    (both one (next_of st line.Bbsy ∷ []) _ _ _
    (both (next_requests st) (next_interrupts st) _ _ _ c.push_next_requests.ensures.adds c.push_next_interrupts.ensures.adds)
    c.push_next.ensures.adds) c.push_next_strobes.ensures.adds) c.push_next-2.ensures.adds) c.push_next-3.ensures.adds) c.push_next-4.ensures.adds) c.push_next-5.ensures.adds
