use Rattle.std.proofs.Common.{◌∙◌, ap, sym}
use Rattle.vme_scenario.specs.Format.{read_as}
use Rattle.vme_scenario.proofs.Documents.{document-utf8, document-other}
use Rattle.vme_scenario.proofs.scenario.document.Goals as goal

pub returns-in_default-clause-fault : goal.returns-in_default-clause-fault
returns-in_default-clause-fault c = ap read_as (document-other _ (sym (c.if-not-is_shallow.ensures)) c.in_default.ensures.cases.0)

pub returns-in-Ok-table_from_str-clause-ok : goal.returns-in-Ok-table_from_str-clause-ok
returns-in-Ok-table_from_str-clause-ok c =
    document-utf8 _ (sym (c.if-not-is_shallow.ensures)) c.in-Ok.ensures.cases.1 ∙ rw c.in-Ok.ensures.cases.0 at c.in-Ok-table_from_str.ensures.ok
