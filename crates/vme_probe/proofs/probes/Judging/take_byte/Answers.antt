use Rattle.std.proofs.Common.{◌≡◌, ◌∙◌, ◌++◌, ◌∷◌, [], ℕ, List, Option, Some, Result, Ok, Err, refl, sym, subst}
use Rattle.std.specs.Prelude.{OnOk}
use Rattle.std.proofs.lemmas.Result.{err_from_is_err_and}
use Rattle.vme_captures.specs.declared.reader.Reader.{Reader}
use Rattle.vme_captures.specs.declared.signals.Entry.{Entry}
use Rattle.vme_captures.specs.Feeding.{HasRead, Took}
use Rattle.vme_model.specs.declared.signals.Version.{Version}
use Rattle.vme_model.specs.Plan.{Plan}
use Rattle.vme_reading.specs.declared.Status.{Status}
use Rattle.vme_probe.specs.declared.probes.Judging.{Judging}
use Rattle.vme_probe.specs.declared.probes.ProbeFault.{ProbeFault}
use Rattle.vme_probe.specs.Reads.{Taken, skew_of, waiting_in}
use Rattle.vme_probe.specs.Steps.{EntryTaken, Stands}
use Rattle.vme_probe.proofs.Said.{entry_formed_there, entry_read}
use Rattle.vme_probe.proofs.Reading.{byte_fails, byte_none, entry_fails, entry_taken, stands_before}
use Rattle.vme_probe.proofs.probes.Judging.take_byte.Goals as goal

pub returns-in_err-take-clause-taken : goal.returns-in_err-take-clause-taken
returns-in_err-take-clause-taken g c = λ skew bytes from h.
    let e = err_from_is_err_and c.from_residual.result c.from_residual.ensures.1 in
    rw (e.1, e.2)
    (byte_fails c.args.plan.now skew c.args.self.now c.args.self.now bytes c.args.byte from (g.W.Write.contents c.args.out.now) h c.in_err-take.field-0.0 (c.in_err-take.ensures bytes h.said h.read))

pub take_entry-requires : goal.take_entry-requires
take_entry-requires g c =
    entry_formed_there c.args.plan.now c.take.new.self (c.requires.0 ++ c.args.byte ∷ []) c.in-Some.entry c.requires.1
    (subst (λ (o : Option Entry). Took c.args.plan.now (c.requires.0 ++ c.args.byte ∷ []) c.requires.1 c.take.new.self (Ok o)) c.in-Some.is
    (c.in_ok-take.ensures c.requires.0 c.requires.1 c.requires.2))

pub returns-in-None-clause-reads : goal.returns-in-None-clause-reads
returns-in-None-clause-reads g c = (
  c.requires.0 ++ c.args.byte ∷ [],
  c.requires.1,
  subst (λ (o : Option Entry). Took c.args.plan.now (c.requires.0 ++ c.args.byte ∷ []) c.requires.1 c.take.new.self (Ok o)) c.in-None.is (c.in_ok-take.ensures c.requires.0 c.requires.1 c.requires.2),
)

pub returns-in-None-clause-taken : goal.returns-in-None-clause-taken
returns-in-None-clause-taken g c = λ skew bytes from h.
    let now : Judging = record c.args.self.now { reader = c.take.new.self } in
    byte_none c.args.plan.now skew c.args.self.now now bytes c.args.byte from (g.W.Write.contents c.args.out.now) h refl refl
    (subst (λ (o : Option Entry). Took c.args.plan.now (bytes ++ c.args.byte ∷ []) h.said c.take.new.self (Ok o)) c.in-None.is (c.in_ok-take.ensures bytes h.said h.read))

-- an answer of the whole
taken : (p : Plan) (skew : Option ℕ) (now : Judging) (bytes : List ℕ) (said : List Entry) (e : Entry) (v : Version) → HasRead p now.reader bytes (e ∷ said) → now.reader.version ≡ Some v
    → skew_of now.sampling ≡ skew → (from to : Option (List ℕ)) (r : Result (Option Status) ProbeFault)
    → EntryTaken p skew v said e now.known (waiting_in now.sampling) from to r → Taken p skew bytes from to now r
taken p skew now bytes said e v read named same from to (Ok o) h = entry_taken p skew now bytes said e v read named same from to o h
taken p skew now bytes said e v read named same from to (Err f) h = entry_fails p skew now bytes said e v read named same from to f h

always : {A E : Type 0} (P : Type 0) (r : Result A E) → P → OnOk r P
always P (Ok x) h = h
always P (Err e) h = tt

pub returns-in-Some-clause-reads : goal.returns-in-Some-clause-reads
returns-in-Some-clause-reads g c =
    let all = c.requires.0 ++ c.args.byte ∷ [] in
    let read =
    subst (λ (o : Option Entry). Took c.args.plan.now all c.requires.1 c.take.new.self (Ok o)) c.in-Some.is (c.in_ok-take.ensures c.requires.0 c.requires.1 c.requires.2) in
    always _ c.take_entry.result (
      all,
      c.in-Some.entry ∷ c.requires.1,
      subst (λ (r : Reader). HasRead c.args.plan.now r all (c.in-Some.entry ∷ c.requires.1)) (sym c.take_entry.ensures.reader) read,
    )

pub returns-in-Some-clause-taken : goal.returns-in-Some-clause-taken
returns-in-Some-clause-taken g c = λ skew bytes from h.
    let all = bytes ++ c.args.byte ∷ [] in
    let read =
    subst (λ (o : Option Entry). Took c.args.plan.now all h.said c.take.new.self (Ok o)) c.in-Some.is (c.in_ok-take.ensures bytes h.said h.read) in
    let v = entry_read c.args.plan.now c.take.new.self all c.in-Some.entry h.said read in
    let stands =
    stands_before c.args.plan.now skew c.args.self.now c.args.self.now bytes c.args.byte from (g.W.Write.contents c.args.out.now) h c.take.new.self c.in-Some.entry v.0 read v.1 in
    let same = c.take_entry.ensures.reader in
    taken c.args.plan.now skew c.take_entry.new.self all h.said c.in-Some.entry v.0
    (subst (λ (r : Reader). HasRead c.args.plan.now r all (c.in-Some.entry ∷ h.said)) (sym same) read)
    (subst (λ (r : Reader). r.version ≡ Some v.0) (sym same) v.1)
    (c.take_entry.ensures.skew ∙ h.skew_is)
    from (g.W.Write.contents c.take_entry.new.out) c.take_entry.result
    (subst (λ (x : Option ℕ). EntryTaken c.args.plan.now x v.0 h.said c.in-Some.entry c.take_entry.new.self.known (waiting_in c.take_entry.new.self.sampling) from
    (g.W.Write.contents c.take_entry.new.out) c.take_entry.result) h.skew_is
    (c.take_entry.ensures.taken v.0 all h.said from v.1 read
    (subst (λ (x : Option ℕ). Stands c.args.plan.now x v.0 h.said c.args.self.now.known (waiting_in c.args.self.now.sampling) from (g.W.Write.contents c.args.out.now)) (sym h.skew_is) stands)))
