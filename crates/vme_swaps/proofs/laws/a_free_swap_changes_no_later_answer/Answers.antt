use Rattle.vme_swaps.proofs.Answered.{free_answers, free_stands}
use Rattle.vme_swaps.proofs.Behind.{legal_behind}
use Rattle.vme_swaps.proofs.laws.a_free_swap_changes_no_later_answer.Goals as goal

pub returns-clause-answers : goal.returns-clause-answers
returns-clause-answers c = free_answers

pub returns-clause-stand : goal.returns-clause-stand
returns-clause-stand c = free_stands

pub returns-clause-legal : goal.returns-clause-legal
returns-clause-legal c = legal_behind
