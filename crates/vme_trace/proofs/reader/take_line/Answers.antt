use Rattle.std.proofs.Common.{rules, arith, sym, ◌∙◌, ◌≡◌, refl, ◌++◌, [], ◌∷◌}
use Rattle.vme_trace.proofs.ReaderSteps.{too_long_at, header_read, header_refused, edge_read, edge_refused, edge_lost}
use Rattle.vme_trace.proofs.reader.take_line.Goals as goal
use Rattle.vme_trace.proofs.reader.take_line.Goals.{in-None+in-Some-header_of, in-Some+in-Some-edge_of+else-is_err}

pub returns-then-line-gt64-clause-fault : goal.returns-then-line-gt64-clause-fault
returns-then-line-gt64-clause-fault g c = too_long_at _ _ [] c.args.line.now (10 ∷ []) _ _ c.requires (grind arith) refl

pub returns-in_default-clause-fault : goal.returns-in_default-clause-fault
returns-in_default-clause-fault g c = header_refused _ c.args.line.now c.requires (grind arith) _ _ c.in-None.is (sym c.header_of.ensures ∙ c.in_default.is)

pub returns-in_default-edge_of-clause-fault : goal.returns-in_default-edge_of-clause-fault
returns-in_default-edge_of-clause-fault g c =
    edge_refused _ c.args.line.now c.requires (grind arith) _ _ _ c.in-Some.is (sym c.edge_of.ensures ∙ c.in_default-edge_of.is)

pub returns-then-is_err-clause-fault : goal.returns-then-is_err-clause-fault
returns-then-is_err-clause-fault g c =
    let same : c.push.new.self.items ≡ c.args.edges.now.items = search rules in
    rw same (edge_lost _ c.args.line.now c.requires (grind arith) _ _ _ c.in-Some.is _ (sym c.edge_of.ensures ∙ c.in-Some-edge_of.is))

pub returns-clause-ok : goal.returns-clause-ok
returns-clause-ok g c =
    elim c.match-version.branch [
      | in-None+in-Some-header_of w ↦
          rw (w.version-is, w.edges-is, c.next_number.ensures)
          (header_read _ c.args.line.now c.requires (grind arith) _ _ _ w.in-None.is (sym w.header_of.ensures ∙ w.in-Some-header_of.is))
      | in-Some+in-Some-edge_of+else-is_err w ↦
          let items : w.push.new.self.items ≡ c.args.edges.now.items ++ w.in-Some-edge_of.edge ∷ [] = search rules in
          rw (w.version-is, w.edges-is, c.next_number.ensures, items)
          (edge_read _ c.args.line.now c.requires (grind arith) _ _ _ w.in-Some.is _ (sym w.edge_of.ensures ∙ w.in-Some-edge_of.is))
    ]
