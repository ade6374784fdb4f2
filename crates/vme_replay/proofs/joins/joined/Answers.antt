use Rattle.std.proofs.Common.{[], Option, Ok, Err, take, ap, ◌∙◌, append-nil, subst}
use Rattle.std.proofs.KnownBytes.{Consumes-kept, Consumes-trans}
use Rattle.std.specs.Io.KnownBytes.{Consumes}
use Rattle.vme_trace.specs.declared.Fault.TheVariants.{Header, Read}
use Rattle.vme_reading.specs.declared.EngineFault.TheVariants as fault
use Rattle.vme_replay.specs.declared.joins.Found.{Found}
use Rattle.vme_replay.proofs.Fronts.{no_trace, joins_none, joins_found, front_more, found_at, none_at}
use Rattle.vme_replay.proofs.joins.joined.Goals as goal

pub returns-in-Err : goal.returns-in-Err
returns-in-Err g c =
    let at = c.reads.invariant.front in
    rw c.reads.invariant.out (joins_none _ _ _ at.bytes c.reads.front (Err fault.CannotRead) (Consumes-kept _ _ _ at.bytes at.taken c.in-Err.ensures.err) (no_trace c.reads.front at.bytes at.front))

pub returns-then-count-eq0 : goal.returns-then-count-eq0
returns-then-count-eq0 g c =
    let at = c.reads.invariant.front in
    let none = rw c.if-count-eq0.true at c.in-Ok.ensures.ok.1 in
    let all = subst (Consumes (g.R.Read.remaining c.args.input.now) (g.R.Read.remaining c.read_piece.new.input)) (append-nil at.bytes) (Consumes-trans _ _ _ at.bytes [] at.taken none) in
    rw c.reads.invariant.out (joins_none _ _ _ at.bytes c.reads.front (Err (fault.Trace Header)) all (no_trace c.reads.front at.bytes at.front, c.in-Ok.ensures.ok.2 c.if-count-eq0.true))

pub returns-in-Err-find : goal.returns-in-Err-find
returns-in-Err-find g c =
    let at = c.reads.invariant.front in
    rw c.reads.invariant.out (joins_none _ _ _ _ c.reads.front (Err fault.NoMemory) (Consumes-trans _ _ _ at.bytes _ at.taken c.in-Ok.ensures.ok.1) tt)

pub returns : goal.returns
returns g c =
    let at = c.reads.invariant.front in
    rw c.reads.invariant.out (joins_none _ _ _ at.bytes c.reads.front (Err (fault.Trace Read)) at.taken (no_trace c.reads.front at.bytes at.front))

pub behind-rest-requires : goal.behind-rest-requires
behind-rest-requires g c =
    (found_at c.reads.invariant.front.bytes (take c.in-Ok.count c.read_piece.new.buffer) c.find.new.self c.find.result c.in-Ok-Some.found
    (c.find.ensures c.reads.invariant.front.bytes c.reads.invariant.front.front) (c.in-Ok-Some.is ∙ ap (λ (o : Option Found). Ok o) c.in-Ok-Some.field-0-is)).0

pub returns-in-Ok-Some : goal.returns-in-Ok-Some
returns-in-Ok-Some g c =
    let at = c.reads.invariant.front in
    let piece = take c.in-Ok.count c.read_piece.new.buffer in
    let found = found_at at.bytes piece _ _ _ (c.find.ensures at.bytes at.front) (c.in-Ok-Some.is ∙ ap (λ (o : Option Found). Ok o) c.in-Ok-Some.field-0-is) in
    joins_found _ _ _ _ _ at.bytes piece c.in-Ok-Some.found.taken c.find.new.self c.in-Ok-Some.found.version c.replay_behind.result at.taken c.in-Ok.ensures.ok.1 found.1 _
    (rw (c.behind-rest.ensures.rest, c.reads.invariant.out) at c.replay_behind.ensures)

pub reads-preserved : goal.reads-preserved
reads-preserved g c =
    let at = c.reads.invariant.front in
    let piece = take c.in-Ok.count c.read_piece.new.buffer in
    record {
      front = front_more _ _ _ c.reads.front c.find.new.self piece at c.in-Ok.ensures.ok.1
          (none_at at.bytes piece c.find.new.self c.find.result (c.find.ensures at.bytes at.front) (c.in-Ok-None.is ∙ ap (λ (o : Option Found). Ok o) c.in-Ok-None.field-0-is));
      out = c.reads.invariant.out;
    }
