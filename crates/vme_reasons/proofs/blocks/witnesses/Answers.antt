use Rattle.vme_reasons.proofs.blocks.witnesses.Goals as goal

pub unreachable-requires : goal.unreachable-requires
unreachable-requires c = ?
