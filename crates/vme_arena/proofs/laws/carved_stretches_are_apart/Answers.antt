use Rattle.vme_arena.proofs.CarvedStretches.{carved_within, carved_apart}
use Rattle.vme_arena.proofs.laws.carved_stretches_are_apart.Goals as goal

pub returns-clause-within : goal.returns-clause-within
returns-clause-within c = carved_within

pub returns-clause-apart : goal.returns-clause-apart
returns-clause-apart c = carved_apart
