use Rattle.std.proofs.Common.{◌≤◌, ◌^◌, ◌++◌, Bool, None, Result, arith, not, subst, true}
use Rattle.vme_trace.specs.declared.Fault.{Fault}
use Rattle.vme_reading.specs.Streams.{streams}
use Rattle.vme_reading.specs.Sides.{goes_on}
use Rattle.vme_reading.proofs.PairReads.{formed_new, first_goes, second_goes, both_ended, is_whole, meets, side_few, side_more, side_stays}
use Rattle.vme_reading.proofs.pairs.read_both.Goals as goal

pub hand_first-requires-clause-count : goal.hand_first-requires-clause-count
hand_first-requires-clause-count g c =
    let u = c.reads.invariant in
    let goes = first_goes _ _ _ _ c.turn_of.ensures _ _ c.goes_on.ensures c.goes_on-in-reads.ensures u.first_side.unfaulted u.second_side.unfaulted c.in-Some.turn c.in-Some.is c.in-First.is in
    let few : g.J.Pair.first_count c.reads.judge ≤ 2 ^ 41 = side_few _ _ u.v u.es _ c.reads.one u.first_side goes in
    omega (arith, few, c.read_piece.new.self.edges.small, c.read_piece.new.self.edges.ok.0, c.read_piece.new.self.edges.ok.1)

pub hand_first-requires-clause-well_formed : goal.hand_first-requires-clause-well_formed
hand_first-requires-clause-well_formed g c =
    let u = c.reads.invariant in formed_new _ _ u.v u.es _ c.read_piece.new.self (c.read_piece.ensures.comes _ u.v u.es u.first_side.came)

pub returns-in-Err : goal.returns-in-Err
returns-in-Err g c =
    let u = c.reads.invariant in meets _ _ u.v _ c.read_piece.new.self (c.read_piece.ensures.comes _ u.v u.es u.first_side.came) c.in-Err.fault c.in-Err.ensures.fault

pub reads-preserved-in_default-hand_first : goal.reads-preserved-in_default-hand_first
reads-preserved-in_default-hand_first g c =
    let u = c.reads.invariant in
    let goes = first_goes _ _ _ _ c.turn_of.ensures _ _ c.goes_on.ensures c.goes_on-in-reads.ensures u.first_side.unfaulted u.second_side.unfaulted c.in-Some.turn c.in-Some.is c.in-First.is in
    record {
      v = u.v;
      w = u.w;
      es = u.es ++ c.read_piece.new.self.edges.items;
      fs = u.fs;
      first_side =
          side_more _ _ u.v u.es _ c.reads.one u.first_side _ c.read_piece.new.self _ (c.read_piece.ensures.comes _ u.v u.es u.first_side.came)
          c.in_default-hand_first.ensures.unfaulted c.in_default-hand_first.ensures.first_count;
      second_side = side_stays _ _ u.w u.fs _ c.reads.other u.second_side _ c.in_default-hand_first.ensures.second_count;
      stands_so =
          c.in_default-hand_first.ensures.takes c.args.task.now c.args.plan u.v u.w u.es u.fs (not (goes_on c.reads.other.more))
          (subst (λ (a : Result Bool Fault). g.J.Pair.stands c.args.task.now c.args.plan u.v u.w u.es (not (goes_on a)) u.fs (not (goes_on c.reads.other.more)) c.reads.judge) goes u.stands_so);
    }

pub hand_second-requires-clause-count : goal.hand_second-requires-clause-count
hand_second-requires-clause-count g c =
    let u = c.reads.invariant in
    let goes = second_goes _ _ _ _ c.turn_of.ensures _ _ c.goes_on.ensures c.goes_on-in-reads.ensures u.first_side.unfaulted u.second_side.unfaulted c.in-Some.turn c.in-Some.is c.in-Second.is in
    let few : g.J.Pair.second_count c.reads.judge ≤ 2 ^ 41 = side_few _ _ u.w u.fs _ c.reads.other u.second_side goes in
    omega (arith, few, c.read_piece-in-Second.new.self.edges.small, c.read_piece-in-Second.new.self.edges.ok.0, c.read_piece-in-Second.new.self.edges.ok.1)

pub hand_second-requires-clause-well_formed : goal.hand_second-requires-clause-well_formed
hand_second-requires-clause-well_formed g c =
    let u = c.reads.invariant in formed_new _ _ u.w u.fs _ c.read_piece-in-Second.new.self (c.read_piece-in-Second.ensures.comes _ u.w u.fs u.second_side.came)

pub returns-in-Err-hand_second : goal.returns-in-Err-hand_second
returns-in-Err-hand_second g c =
    let u = c.reads.invariant in
    c.reported_fault.ensures _ u.v u.es (streams (g.B.Read.remaining c.args.second.now) (g.B.Read.remaining c.read_piece-in-Second.new.trace) None None) u.first_side.came
    (meets _ _ u.w _ c.read_piece-in-Second.new.self (c.read_piece-in-Second.ensures.comes _ u.w u.fs u.second_side.came) c.in-Err-hand_second.fault c.in-Err-hand_second.ensures.fault)

pub reads-preserved : goal.reads-preserved
reads-preserved g c =
    let u = c.reads.invariant in
    let goes = second_goes _ _ _ _ c.turn_of.ensures _ _ c.goes_on.ensures c.goes_on-in-reads.ensures u.first_side.unfaulted u.second_side.unfaulted c.in-Some.turn c.in-Some.is c.in-Second.is in
    record {
      v = u.v;
      w = u.w;
      es = u.es;
      fs = u.fs ++ c.read_piece-in-Second.new.self.edges.items;
      first_side = side_stays _ _ u.v u.es _ c.reads.one u.first_side _ c.in_default-hand_second.ensures.first_count;
      second_side =
          side_more _ _ u.w u.fs _ c.reads.other u.second_side _ c.read_piece-in-Second.new.self _ (c.read_piece-in-Second.ensures.comes _ u.w u.fs u.second_side.came)
          c.in_default-hand_second.ensures.unfaulted c.in_default-hand_second.ensures.second_count;
      stands_so =
          c.in_default-hand_second.ensures.takes c.args.task.now c.args.plan u.v u.w u.es (not (goes_on c.reads.one.more)) u.fs
          (subst (λ (a : Result Bool Fault). g.J.Pair.stands c.args.task.now c.args.plan u.v u.w u.es (not (goes_on c.reads.one.more)) u.fs (not (goes_on a)) c.reads.judge) goes u.stands_so);
    }

pub returns : goal.returns
returns g c =
    let u = c.reads.invariant in
    let ended = both_ended _ _ _ _ c.turn_of.ensures _ _ c.goes_on.ensures c.goes_on-in-reads.ensures u.first_side.unfaulted u.second_side.unfaulted c.in_default.is in (
      u.v,
      u.w,
      u.es,
      u.fs,
      is_whole _ _ u.v u.es c.reads.one u.first_side.came ended.0,
      is_whole _ _ u.w u.fs c.reads.other u.second_side.came ended.1,
      subst (λ (b : Result Bool Fault). g.J.Pair.stands c.args.task.now c.args.plan u.v u.w u.es true u.fs (not (goes_on b)) c.reads.judge) ended.1
          (subst (λ (a : Result Bool Fault). g.J.Pair.stands c.args.task.now c.args.plan u.v u.w u.es (not (goes_on a)) u.fs (not (goes_on c.reads.other.more)) c.reads.judge) ended.0 u.stands_so),
    )
