use Rattle.std.specs.Io.KnownBytes.{Appends}
use Rattle.vme_trace.specs.Writing.{AppendsFront}
use Rattle.vme_explain.proofs.Written.{at_err, at_ok, on_err}
use Rattle.vme_show.specs.Columns.{topics_text}
use Rattle.vme_show.proofs.Whole.{has_words, head_front, topics_front, whole, wires_front}
use Rattle.vme_show.proofs.windows.Window.draw.Goals as goal

pub returns-in_err-write_head-clause-front : goal.returns-in_err-write_head-clause-front
returns-in_err-write_head-clause-front g c = on_err c.from_residual.result _ (λ b es is.
    head_front c.args.color b es c.args.self.now is c.requires.some _ _ c.in_err-write_head.ensures.front)

pub returns-in_err-write_wires-clause-front : goal.returns-in_err-write_wires-clause-front
returns-in_err-write_wires-clause-front g c = on_err c.from_residual-in_err-write_wires.result _ (λ b es is.
    wires_front c.args.color b es c.args.self.now is c.requires.some _ _ _ c.in_ok-write_head.ensures.ok (c.in_err-write_wires.ensures.front (has_words b c.args.self.now.first es c.args.self.now is)))

pub returns-clause-ok : goal.returns-clause-ok
returns-clause-ok g c =
    at_ok c.write_topics.result (Appends (g.W.Write.contents c.write_wires.new.out) (g.W.Write.contents c.write_topics.new.out) (topics_text c.args.color c.args.self.now)) _
    (λ w b es is. whole c.args.color b es c.args.self.now is c.requires.some _ _ _ _ c.in_ok-write_head.ensures.ok
    (c.in_ok-write_wires.ensures.ok (has_words b c.args.self.now.first es c.args.self.now is)) w)
    c.write_topics.ensures.ok

pub returns-clause-front : goal.returns-clause-front
returns-clause-front g c =
    at_err c.write_topics.result (AppendsFront (g.W.Write.contents c.write_wires.new.out) (g.W.Write.contents c.write_topics.new.out) (topics_text c.args.color c.args.self.now)) _
    (λ w b es is. topics_front c.args.color b es c.args.self.now is c.requires.some _ _ _ _ c.in_ok-write_head.ensures.ok
    (c.in_ok-write_wires.ensures.ok (has_words b c.args.self.now.first es c.args.self.now is)) w)
    c.write_topics.ensures.front
