use Rattle.std.proofs.Common.{◌∙◌, sym, subst}
use Rattle.std.specs.List.{All}
use Rattle.vme_summary.specs.Tallied.{IsTopic}
use Rattle.vme_summary.proofs.Words.{all_topics}
use Rattle.vme_summary.proofs.summaries.write_sums.Goals as goal

pub write_sums_of-requires : goal.write_sums_of-requires
write_sums_of-requires g c = subst (All IsTopic) (sym (c.as_slice.ensures.value ∙ c.topics-topics.ensures)) all_topics

pub returns-clause-ok : goal.returns-clause-ok
returns-clause-ok g c = rw (c.as_slice.ensures.value, c.topics-topics.ensures) at c.write_sums_of.ensures.ok

pub returns-clause-front : goal.returns-clause-front
returns-clause-front g c = rw (c.as_slice.ensures.value, c.topics-topics.ensures) at c.write_sums_of.ensures.front
