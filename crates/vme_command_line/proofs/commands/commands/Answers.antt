use Rattle.std.proofs.Common.{true, refl, codes}
use Rattle.std.proofs.lemmas.Result.{IfOk-weaker}
use Rattle.clap.specs.Words.{App, new_app, with_subcommand}
use Rattle.clap.specs.Simple.{on_top}
use Rattle.vme_command_line.specs.Commands.{check, cycles, drive, explain, order, probe, races, replay, rule, run, same, show, shrink, state, summary}
use Rattle.vme_command_line.proofs.commands.commands.Goals as goal

abbrev bare : App
bare = on_top (λ s. record s { no_binary_name = true; has_version = true }) (new_app (codes "vmebus"))

abbrev judging : App
judging = with_subcommand (with_subcommand bare replay) check

abbrev ruling : App
ruling = with_subcommand (with_subcommand (with_subcommand judging explain) shrink) rule

abbrev showing : App
showing = with_subcommand (with_subcommand ruling state) show

abbrev counting : App
counting = with_subcommand (with_subcommand showing cycles) summary

abbrev comparing : App
comparing = with_subcommand (with_subcommand counting races) same

abbrev ordering : App
ordering = with_subcommand comparing order

abbrev probing : App
probing = with_subcommand ordering probe

pub returns : goal.returns
returns c =
    let one = IfOk-weaker c.offering-program.result _ _ (λ made adds. adds bare replay c.program.ensures c.replay.ensures refl) c.offering-program.ensures in
    let two = IfOk-weaker c.offering-program-2.result _ _ (λ made adds. adds (with_subcommand bare replay) check one c.check.ensures refl) c.offering-program-2.ensures in
    let three = IfOk-weaker c.offering-program-3.result _ _ (λ made adds. adds judging explain two c.explain.ensures refl) c.offering-program-3.ensures in
    let four = IfOk-weaker c.offering-program-4.result _ _ (λ made adds. adds (with_subcommand judging explain) shrink three c.shrink.ensures refl) c.offering-program-4.ensures in
    let five = IfOk-weaker c.offering-program-5.result _ _ (λ made adds. adds (with_subcommand (with_subcommand judging explain) shrink) rule four c.rule.ensures refl) c.offering-program-5.ensures in
    let six = IfOk-weaker c.offering-program-6.result _ _ (λ made adds. adds ruling state five c.state.ensures refl) c.offering-program-6.ensures in
    let seven = IfOk-weaker c.offering-program-7.result _ _ (λ made adds. adds (with_subcommand ruling state) show six c.show.ensures refl) c.offering-program-7.ensures in
    let eight = IfOk-weaker c.offering-program-8.result _ _ (λ made adds. adds showing cycles seven c.cycles.ensures refl) c.offering-program-8.ensures in
    let nine = IfOk-weaker c.offering-program-9.result _ _ (λ made adds. adds (with_subcommand showing cycles) summary eight c.summary.ensures refl) c.offering-program-9.ensures in
    let ten = IfOk-weaker c.offering-program-10.result _ _ (λ made adds. adds counting races nine c.races.ensures refl) c.offering-program-10.ensures in
    let eleven = IfOk-weaker c.offering-program-11.result _ _ (λ made adds. adds (with_subcommand counting races) same ten c.same.ensures refl) c.offering-program-11.ensures in
    let twelve = IfOk-weaker c.offering-program-12.result _ _ (λ made adds. adds comparing order eleven c.order.ensures refl) c.offering-program-12.ensures in
    let thirteen = IfOk-weaker c.offering-program-13.result _ _ (λ made adds. adds ordering probe twelve c.probe.ensures refl) c.offering-program-13.ensures in
    let fourteen = IfOk-weaker c.offering-program-14.result _ _ (λ made adds. adds probing drive thirteen c.drive.ensures refl) c.offering-program-14.ensures in
    IfOk-weaker c.offering.result _ _ (λ made adds. adds (with_subcommand probing drive) run fourteen c.run.ensures refl) c.offering.ensures
