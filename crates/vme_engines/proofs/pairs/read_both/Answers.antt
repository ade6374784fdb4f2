use Rattle.std.proofs.Common.{◌≡◌, ◌+◌, ◌≤◌, ◌^◌, ◌++◌, ◌∙◌, Bool, None, Ok, Result, arith, length, length-append, subst}
use Rattle.vme_trace.specs.declared.Fault.{Fault}
use Rattle.vme_engines.specs.Streams.{streams}
use Rattle.vme_engines.specs.Sides.{has_ended}
use Rattle.vme_engines.proofs.PairReads.{few, formed_new, first_goes, second_goes, both_ended, is_whole, meets}
use Rattle.vme_engines.proofs.pairs.read_both.Goals as goal

pub hand_first-requires-clause-count : goal.hand_first-requires-clause-count
hand_first-requires-clause-count g c =
    let u = c.reads.invariant in
    let goes = first_goes _ _ _ _ c.turn_of.ensures _ _ c.goes_on.ensures c.goes_on-in-reads.ensures u.first_whole u.second_whole c.in-Some.turn c.in-Some.is c.in-First.is in
    let short : length u.es ≤ 2 ^ 41 = few _ _ u.v u.es c.reads.one u.first_came goes in
    let counted = u.first_counted in
    omega (arith, short, counted, c.read_piece.new.self.edges.small, c.read_piece.new.self.edges.ok.0, c.read_piece.new.self.edges.ok.1)

pub hand_first-requires-clause-well_formed : goal.hand_first-requires-clause-well_formed
hand_first-requires-clause-well_formed g c =
    let u = c.reads.invariant in formed_new _ _ u.v u.es _ c.read_piece.new.self (c.read_piece.ensures.comes _ u.v u.es u.first_came)

pub returns-in-Err : goal.returns-in-Err
returns-in-Err g c =
    let u = c.reads.invariant in meets _ _ u.v _ c.read_piece.new.self (c.read_piece.ensures.comes _ u.v u.es u.first_came) c.in-Err.fault c.in-Err.ensures.fault

pub reads-preserved-in_default-hand_first : goal.reads-preserved-in_default-hand_first
reads-preserved-in_default-hand_first g c =
    let u = c.reads.invariant in
    let new = c.read_piece.new.self.edges.items in
    let goes = first_goes _ _ _ _ c.turn_of.ensures _ _ c.goes_on.ensures c.goes_on-in-reads.ensures u.first_whole u.second_whole c.in-Some.turn c.in-Some.is c.in-First.is in
    let counted = u.first_counted in
    let more = c.in_default-hand_first.ensures.first_count in
    let longer = length-append u.es new in
    record {
      v = u.v;
      w = u.w;
      es = u.es ++ new;
      fs = u.fs;
      first_came = c.read_piece.ensures.comes _ u.v u.es u.first_came;
      second_came = u.second_came;
      first_whole = c.in_default-hand_first.ensures.whole;
      second_whole = u.second_whole;
      first_counted = omega (arith, counted, more, longer);
      second_counted = c.in_default-hand_first.ensures.second_count ∙ u.second_counted;
      stands_so =
          c.in_default-hand_first.ensures.takes c.args.task.now c.args.plan u.v u.w u.es u.fs
          (subst (λ (a : Result Bool Fault). g.J.Pair.stands c.args.task.now c.args.plan u.v u.w u.es (has_ended a) u.fs c.reads.judge) goes u.stands_so);
    }

pub hand_second-requires-clause-count : goal.hand_second-requires-clause-count
hand_second-requires-clause-count g c =
    let u = c.reads.invariant in
    let goes = second_goes _ _ _ _ c.turn_of.ensures _ _ c.goes_on.ensures c.goes_on-in-reads.ensures u.first_whole u.second_whole c.in-Some.turn c.in-Some.is c.in-Second.is in
    let short : length u.fs ≤ 2 ^ 41 = few _ _ u.w u.fs c.reads.other u.second_came goes in
    let counted = u.second_counted in
    omega (arith, short, counted, c.read_piece-in-Second.new.self.edges.small, c.read_piece-in-Second.new.self.edges.ok.0, c.read_piece-in-Second.new.self.edges.ok.1)

pub hand_second-requires-clause-well_formed : goal.hand_second-requires-clause-well_formed
hand_second-requires-clause-well_formed g c =
    let u = c.reads.invariant in formed_new _ _ u.w u.fs _ c.read_piece-in-Second.new.self (c.read_piece-in-Second.ensures.comes _ u.w u.fs u.second_came)

pub returns-in-Err-hand_second : goal.returns-in-Err-hand_second
returns-in-Err-hand_second g c =
    let u = c.reads.invariant in
    c.fault_behind.ensures _ u.v u.es (streams (g.B.Read.remaining c.args.second.now) (g.B.Read.remaining c.read_piece-in-Second.new.trace) None None) u.first_came
    (meets _ _ u.w _ c.read_piece-in-Second.new.self (c.read_piece-in-Second.ensures.comes _ u.w u.fs u.second_came) c.in-Err-hand_second.fault c.in-Err-hand_second.ensures.fault)

pub reads-preserved : goal.reads-preserved
reads-preserved g c =
    let u = c.reads.invariant in
    let new = c.read_piece-in-Second.new.self.edges.items in
    let counted = u.second_counted in
    let more = c.in_default-hand_second.ensures.second_count in
    let longer = length-append u.fs new in
    record {
      v = u.v;
      w = u.w;
      es = u.es;
      fs = u.fs ++ new;
      first_came = u.first_came;
      second_came = c.read_piece-in-Second.ensures.comes _ u.w u.fs u.second_came;
      first_whole = u.first_whole;
      second_whole = c.in_default-hand_second.ensures.whole;
      first_counted = c.in_default-hand_second.ensures.first_count ∙ u.first_counted;
      second_counted = omega (arith, counted, more, longer);
      stands_so = c.in_default-hand_second.ensures.takes c.args.task.now c.args.plan u.v u.w u.es _ u.fs u.stands_so;
    }

pub returns : goal.returns
returns g c =
    let u = c.reads.invariant in
    let ended = both_ended _ _ _ _ c.turn_of.ensures _ _ c.goes_on.ensures c.goes_on-in-reads.ensures u.first_whole u.second_whole c.in_default.is in (
      u.v,
      u.w,
      u.es,
      u.fs,
      is_whole _ _ u.v u.es c.reads.one u.first_came ended.0,
      is_whole _ _ u.w u.fs c.reads.other u.second_came ended.1,
      subst (λ (a : Result Bool Fault). g.J.Pair.stands c.args.task.now c.args.plan u.v u.w u.es (has_ended a) u.fs c.reads.judge) ended.0 u.stands_so,
    )
