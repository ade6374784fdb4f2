use Rattle.std.proofs.Common.{rules}
use Rattle.vme_program.proofs.Fronts.{whole_front}
use Rattle.vme_program.proofs.files.scenario_text.Goals as goal

pub returns-in-Ok-2-clause-whole : goal.returns-in-Ok-2-clause-whole
returns-in-Ok-2-clause-whole g c =
    whole_front (λ p. g.R.Read.remaining p.0) (record { 0 = c.args.input }) c.take-input.result 1048577 c.new-text.result.items
    c.read_to_end.new.buf.items (search rules) (search rules) (search rules) c.in-Ok-2.ensures.bytes (search rules)
