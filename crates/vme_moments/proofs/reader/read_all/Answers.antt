use Rattle.vme_moments.proofs.InputRead.{read_often}
use Rattle.vme_moments.proofs.reader.read_all.Goals as goal

pub returns-else-branch : goal.returns-else-branch
returns-else-branch g c =
    read_often (g.R.Read.remaining c.args.input.now) (g.R.Read.remaining c.feed_all.new.input)
    c.feed_all.new.reader c.in_ok-feed_all.field-0 c.in_ok-feed_all.ensures c.if-branch.false
