use Rattle.vme_shrink_search.proofs.laws.what_is_found_is_found_again.Goals as goal

pub returns : goal.returns
returns c = λ b h e g k found again. again.still found.tight
