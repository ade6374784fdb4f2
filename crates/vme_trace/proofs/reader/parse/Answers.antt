use Rattle.std.proofs.Common.{sym, ◌∙◌, ap, [], Err, is_some}
use Rattle.std.proofs.lemmas.Result.{err_from_is_err_and}
use Rattle.vme_trace.proofs.FedReader.{parsed_fault, parsed_edges, parsed_front, read_edges, read_front, answered, answered_none, named_version, named_fault, on_any}
use Rattle.vme_trace.proofs.reader.parse.Goals as goal

pub returns-in_err-feed-clause-fault : goal.returns-in_err-feed-clause-fault
returns-in_err-feed-clause-fault g c =
    let p = err_from_is_err_and c.from_residual.result c.from_residual.ensures.1 in
    rw (p.1, p.2) (parsed_fault _ _ _ _ _ (c.in_err-feed.ensures.reads [] [] c.new-reader.ensures))

pub returns-in_err-feed-clause-edges : goal.returns-in_err-feed-clause-edges
returns-in_err-feed-clause-edges g c =
    let p = err_from_is_err_and c.from_residual.result c.from_residual.ensures.1 in
    rw (p.1, p.2) (λ other. parsed_edges _ _ _ _ _ (c.in_err-feed.ensures.reads [] [] c.new-reader.ensures) (λ e. other (ap (λ x. Err x) e)))

pub returns-in_err-feed-clause-front : goal.returns-in_err-feed-clause-front
returns-in_err-feed-clause-front g c = parsed_front _ _ _ _ _ (c.in_err-feed.ensures.reads [] [] c.new-reader.ensures)

pub returns-in_err-finish-clause-fault : goal.returns-in_err-finish-clause-fault
returns-in_err-finish-clause-fault g c =
    let p = err_from_is_err_and c.from_residual-in_err-finish.result c.from_residual-in_err-finish.ensures.1 in
    let fed = c.in_ok-feed.ensures.reads [] [] c.new-reader.ensures in
    rw (p.1, p.2) (λ _. answered _ _ (sym c.in_err-finish.was ∙ c.finish.ensures.ends _ _ fed.2))

pub returns-in_err-finish-clause-edges : goal.returns-in_err-finish-clause-edges
returns-in_err-finish-clause-edges g c = λ _. read_edges _ _ _ _ (c.in_ok-feed.ensures.reads [] [] c.new-reader.ensures)

pub returns-in_err-finish-clause-front : goal.returns-in_err-finish-clause-front
returns-in_err-finish-clause-front g c = read_front _ _ _ _ (c.in_ok-feed.ensures.reads [] [] c.new-reader.ensures)

pub returns-clause-version : goal.returns-clause-version
returns-clause-version g c =
    let fed = c.in_ok-feed.ensures.reads [] [] c.new-reader.ensures in
    named_version _ _ _ _ (fed.2.version ∙ sym c.finish.ensures.version ∙ sym c.version.ensures) c.ok_or.ensures.value

pub returns-clause-whole : goal.returns-clause-whole
returns-clause-whole g c =
    let fed = c.in_ok-feed.ensures.reads [] [] c.new-reader.ensures in
    on_any _ _ (answered_none _ (sym c.in_ok-finish.was ∙ c.finish.ensures.ends _ _ fed.2))

pub returns-clause-fault : goal.returns-clause-fault
returns-clause-fault g c = named_fault _ _ _ _ (ap is_some c.version.ensures ∙ c.in_ok-finish.ensures.named) c.ok_or.ensures.value

pub returns-clause-edges : goal.returns-clause-edges
returns-clause-edges g c = λ _. read_edges _ _ _ _ (c.in_ok-feed.ensures.reads [] [] c.new-reader.ensures)

pub returns-clause-front : goal.returns-clause-front
returns-clause-front g c = read_front _ _ _ _ (c.in_ok-feed.ensures.reads [] [] c.new-reader.ensures)
