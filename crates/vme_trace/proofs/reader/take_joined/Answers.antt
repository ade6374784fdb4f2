use Rattle.std.proofs.Common.{rules, arith, ◌≡◌, ◌++◌, ◌∷◌, [], length-append, refl}
use Rattle.vme_trace.proofs.Lines.{IsOneLine-append}
use Rattle.vme_trace.proofs.ReaderSteps.{too_long_at, from_part, from_part_fault, on_ok_map, if_err_map}
use Rattle.vme_trace.proofs.reader.take_joined.Goals as goal

pub returns-then-is_err-clause-fault : goal.returns-then-is_err-clause-fault
returns-then-is_err-clause-fault g c =
    too_long_at _ _ c.args.part.now.items c.args.tail.now (10 ∷ []) _ _ (IsOneLine-append _ _ c.requires.part.one_line c.requires.tail) (rw length-append (grind arith)) refl

pub take_line-result-requires : goal.take_line-result-requires
take_line-result-requires g c =
    let same : c.as_slice.result.now ≡ c.args.part.now.items ++ c.args.tail.now = search rules in
    rw same (IsOneLine-append _ _ c.requires.part.one_line c.requires.tail)

pub returns-clause-ok : goal.returns-clause-ok
returns-clause-ok g c =
    let same : c.as_slice.result.now ≡ c.args.part.now.items ++ c.args.tail.now = search rules in
    rw c.clear.ensures (on_ok_map _ _ _ (from_part _ _ _ _ _ _ _ _ _ same) c.take_line-result.ensures.ok)

pub returns-clause-fault : goal.returns-clause-fault
returns-clause-fault g c =
    let same : c.as_slice.result.now ≡ c.args.part.now.items ++ c.args.tail.now = search rules in
    if_err_map _ _ _ (λ f. from_part_fault _ _ _ _ _ _ _ _ f same) c.take_line-result.ensures.fault
