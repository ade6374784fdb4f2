use Rattle.std.proofs.Common.{[], ◌∙◌, None, false}
use Rattle.vme_reading.specs.Streams.{streams}
use Rattle.vme_reading.proofs.PairReads.{unbegun_meets, meets, side_begun}
use Rattle.vme_reading.proofs.pairs.begin_both.Goals as goal

pub returns-in-Err-begin-clause-fault : goal.returns-in-Err-begin-clause-fault
returns-in-Err-begin-clause-fault g c =
    c.reported_fault.ensures _ _ _ (streams (g.B.Read.remaining c.args.second.now) (g.B.Read.remaining c.begin-2.new.trace) None None)
    c.in-Ok.ensures.begun
    (unbegun_meets _ _ _ c.in-Err-begin.ensures.unbegun)

pub returns-in-Err-hand_first-clause-fault : goal.returns-in-Err-hand_first-clause-fault
returns-in-Err-hand_first-clause-fault g c =
    meets _ _ _ _ c.begin.new.self c.in-Ok.ensures.begun c.in-Err-hand_first.fault c.in-Err-hand_first.ensures.fault

pub returns-in-Ok-hand_second-clause-begun : goal.returns-in-Ok-hand_second-clause-begun
returns-in-Ok-hand_second-clause-begun g c =
    record {
      v = c.in-Ok.version;
      w = c.in-Ok-begin.named;
      es = c.begin.new.self.edges.items;
      fs = c.begin-2.new.self.edges.items;
      first_side =
          side_begun _ _ _ c.begin.new.self _ _ c.in-Ok.ensures.begun c.in_default.ensures.unfaulted c.begin-judge.ensures.first_count
          (c.in-Ok-hand_second.ensures.first_count ∙ c.in_default.ensures.first_count);
      second_side =
          side_begun _ _ _ c.begin-2.new.self _ _ c.in-Ok-begin.ensures.begun c.in-Ok-hand_second.ensures.unfaulted (c.in_default.ensures.second_count ∙ c.begin-judge.ensures.second_count)
          c.in-Ok-hand_second.ensures.second_count;
      stands_so = c.in-Ok-hand_second.ensures.takes c.args.task.now c.args.plan _ _ _ _ [] (c.in_default.ensures.takes c.args.task.now c.args.plan _ _ [] [] false c.begin-judge.ensures.stands);
    }

pub returns-in-Err-hand_second-clause-fault : goal.returns-in-Err-hand_second-clause-fault
returns-in-Err-hand_second-clause-fault g c =
    c.reported_fault-in-Err-hand_second.ensures _ _ _ (streams (g.B.Read.remaining c.args.second.now) (g.B.Read.remaining c.begin-2.new.trace) None None)
    c.in-Ok.ensures.begun
    (meets _ _ _ _ c.begin-2.new.self c.in-Ok-begin.ensures.begun c.in-Err-hand_second.fault c.in-Err-hand_second.ensures.fault)
