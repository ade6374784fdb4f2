use Rattle.std.proofs.Common.{◌≡◌, ◌∙◌, None, ap, codes, option_map, refl, subst, sym}
use Rattle.clap.specs.Words.{first_of, found_of, rows_of}
use Rattle.vme_command_line.specs.Asked.{AsksFor, IsFlag}
use Rattle.vme_command_line.specs.declared.Job.TheVariants.{Draw}
use Rattle.vme_command_line.proofs.NoJobs.{if_untold}
use Rattle.vme_command_line.proofs.drive_of.Goals as goal

pub returns-in-Some-None-default-clause-asked : goal.returns-in-Some-None-default-clause-asked
returns-in-Some-None-default-clause-asked c = λ file.
    let rows = rows_of (found_of c.args.operands.now) in
    let seeds : first_of (codes "seeds") rows ≡ None =
    sym c.text_of.ensures ∙ ap (λ o. option_map (λ t. t.now) o) c.in-Some-None-default.is-1 in
    if_untold c.is_flagged-progress.result c.untold.result (Draw c.args.scenario c.in_ok-edges.edges c.in-Some-None-default.seed c.in_ok-until.until c.in_ok-version.version) (AsksFor (codes "drive") rows) c.untold.ensures.untold c.untold.ensures.told
    (λ off. (
      refl,
      file,
      (c.in_ok-edges.ensures.spelled, c.in_ok-version.ensures.spelled),
      c.in_ok-seed.ensures.spelled ∙ c.in-Some-None-default.is-0,
      seeds,
      c.in_ok-until.ensures.aim,
      subst (λ b. IsFlag (codes "progress") rows b) off c.is_flagged-progress.ensures,
    ))
