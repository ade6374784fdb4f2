use Rattle.vmebus_c.proofs.EdgeWords.{word_names}
use Rattle.vmebus_c.proofs.laws.words_name_edges.Goals as goal

pub returns : goal.returns
returns c = word_names
