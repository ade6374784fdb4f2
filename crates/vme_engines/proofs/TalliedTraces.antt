-- What the edges of one trace of several come to, piece by piece.
use Rattle.std.proofs.Common.{◌≡◌, ℕ, List, [], ◌++◌, Bool, true, false, Option, Some, None, Result, Ok, Err, sym, ap, subst, arith, append_assoc}
use Rattle.std.proofs.Math.ListN.{length-append}
use Rattle.vme_model.specs.declared.signals.Version.{Version}
use Rattle.vme_model.specs.declared.signals.Edge.{Edge}
use Rattle.vme_model.specs.Plan.{Plan}
use Rattle.vme_model.specs.Text.{read_of}
use Rattle.vme_trace.specs.declared.Fault.{Fault}
use Rattle.vme_summary.specs.declared.tallies.Tally.{Tally}
use Rattle.vme_summary.specs.Tally.{answered}
use Rattle.vme_summary.specs.Tallied.{IsTallyOf}
use Rattle.vme_engines.specs.declared.summaries.Summing.{Summing}
use Rattle.vme_engines.specs.Streams.{Streams, streams}
use Rattle.vme_engines.specs.Outcomes.{bench}
use Rattle.vme_engines.specs.Steps.{Begins}
use Rattle.vme_engines.specs.Pieces.{Came, answered as told_by}
use Rattle.vme_engines.specs.Summing.{IsWaiting}
use Rattle.vme_engines.specs.Summed.{IsSumOf}
use Rattle.vme_engines.specs.Added.{Tallies, TalliesPiece}
use Rattle.vme_engines.specs.Totals.{IsWhole}
use Rattle.vme_engines.proofs.ReadOn.{came_begins}
use Rattle.vme_engines.proofs.Waits.{stops_waiting}
use Rattle.vme_engines.proofs.Sums.{sum_is}

-- two pieces, one after the other
pub tallies_more : (first mid now : Summing) (es fs : List Edge) (more : Result Bool Fault) (r : Result (Option Tally) Fault) → TalliesPiece first es (Ok true) mid (Ok None) → TalliesPiece mid fs more now r → TalliesPiece first (es ++ fs) more now r
tallies_more first mid now es fs more (Ok None) one two = (
  two.0,
  (let count = length-append es fs in let a = one.1 in let b = two.1 in omega (arith, count, a, b)),
  λ b before is. sum_is b ((before ++ es) ++ fs) (before ++ (es ++ fs)) now (append_assoc before es fs) (two.2 b (before ++ es) (one.2 b before is)),
)
tallies_more first mid now es fs more (Ok (Some tally)) one two = (
  two.0,
  λ b before is. subst (λ (l : List Edge). IsTallyOf (answered b l) tally) (append_assoc before es fs) (two.1 b (before ++ es) (one.2 b before is)),
)
tallies_more first mid now es fs more (Err f) one two = two

-- ---- the whole trace

module _ (p : Plan) (v : Version) (all : List ℕ) (s : Streams) (es : List Edge) (begins : Begins (read_of all) v es) (first : Summing) (fresh : IsSumOf (bench p v) [] first) where
  is_whole : (read_of all).edges ≡ es → (read_of all).fault ≡ None → IsWhole p (read_of all) (answered (bench p v) es)
  is_whole edges whole = record { version = v; named = begins.version; whole = whole; answers = ap (λ l. answered (bench p v) l) (sym edges) }

  tallies_so : (more : Result Bool Fault) (now : Summing) (r : Result Tally Fault) → Came v [] all s.from s.to es more → TalliesPiece first es more now (told_by r) → Tallies p all s r
  tallies_so more now (Ok tally) came h =
      let end : Came v [] all s.from s.to es (Ok false) = subst (Came v [] all s.from s.to es) h.0 came in
      (answered (bench p v) es, is_whole end.1 end.2, end.3, h.1 (bench p v) [] fresh)
  tallies_so more now (Err f) came h =
      let end : Came v [] all s.from s.to es (Err f) = subst (Came v [] all s.from s.to es) h came in
      stops_waiting IsWaiting v all s es begins tt f end.1

pub tallies_all : (p : Plan) (v : Version) (all : List ℕ) (from to : Option (List ℕ)) (first now : Summing) (es : List Edge) (more : Result Bool Fault) (r : Result Tally Fault) → IsSumOf (bench p v) [] first → Came v [] all from to es more
    → TalliesPiece first es more now (told_by r) → Tallies p all (streams from to None None) r
tallies_all p v all from to first now es more r fresh came h =
    tallies_so p v all (streams from to None None) es (came_begins v [] all from to es more came) first fresh more now r came h
