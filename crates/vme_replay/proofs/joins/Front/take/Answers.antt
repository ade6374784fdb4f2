use Rattle.std.proofs.Common.{sym, ap, ◌∙◌}
use Rattle.vme_model.specs.Text.{version_of}
use Rattle.vme_replay.proofs.Fronts.{took_byte, took_feed}
use Rattle.vme_replay.proofs.joins.Front.take.Goals as goal

pub returns-then-byte-ne10 : goal.returns-then-byte-ne10
returns-then-byte-ne10 c =
    λ bytes h. took_byte c.args.self.now c.follow.new.self bytes c.args.byte h c.if-byte-ne10.true
    (λ part is. c.follow.ensures.line part (rw c.hold.ensures.line is)) (rw c.follow.ensures.held (c.in_ok-hold.ensures.held bytes h.held))

pub returns : goal.returns
returns c =
    λ bytes h. let other = sym (c.header_of.ensures ∙ ap version_of c.deref.ensures.0) ∙ c.in-None.is in
    rw c.if-byte-ne10.false (took_feed c.args.self.now _ bytes h other c.clear.ensures (rw c.if-byte-ne10.false at (c.in_ok-hold-2.ensures.held bytes h.held)))
