use Rattle.std.proofs.Common.{◌++◌}
use Rattle.vme_model.specs.declared.sets.ChainId.TheVariants.{Bg0, Bg1, Bg2, Bg3, Iack}
use Rattle.vme_probe.specs.Ends.{next_lines, next_pins}
use Rattle.vme_probe.proofs.Coming.{adds_both}
use Rattle.vme_probe.proofs.answers.push_coming.Goals as goal

pub returns : goal.returns
returns c =
    let st = c.args.standings.now in
    let probes = c.args.probes.now in
    let both = adds_both c.args.plan.now c.args.probed.now st in
    let one = next_lines st ++ next_pins probes Bg0 in
    let two = one ++ next_pins probes Bg1 in
    let three = two ++ next_pins probes Bg2 in
    let four = three ++ next_pins probes Bg3 in
    both four (next_pins probes Iack) _ _ _
    (both three (next_pins probes Bg3) _ _ _
    (both two (next_pins probes Bg2) _ _ _
    (both one (next_pins probes Bg1) _ _ _
    (both (next_lines st) (next_pins probes Bg0) _ _ _ c.push_next_lines.ensures.adds c.push_next_pins.ensures.adds)
    c.push_next_pins-2.ensures.adds) c.push_next_pins-3.ensures.adds) c.push_next_pins-4.ensures.adds) c.push_next_pins-5.ensures.adds
