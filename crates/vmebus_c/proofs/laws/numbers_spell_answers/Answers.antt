use Rattle.vmebus_c.proofs.AnswerNumbers.{numbers_spell}
use Rattle.vmebus_c.proofs.laws.numbers_spell_answers.Goals as goal

pub returns : goal.returns
returns c = numbers_spell
