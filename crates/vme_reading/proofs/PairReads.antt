-- Two traces that are read side by side: `Input::read_piece` and `read_out`, src/pairs.rt.
use Rattle.std.proofs.Common.{◌≡◌, ◌⊎◌, inl, inr, ℕ, ◌+◌, ◌^◌, ◌≤◌, length, List, [], ◌++◌, Bool, true, false, Option, Some, None, unwrap_or, Result, Ok, Err, refl, sym, ◌∙◌, ap, subst, arith, length-append}
use Rattle.vme_model.specs.declared.signals.Version.{Version}
use Rattle.vme_model.specs.declared.signals.Edge.{Edge}
use Rattle.vme_model.specs.Locality.{AreWellFormed}
use Rattle.vme_trace.specs.declared.Fault.{Fault}
use Rattle.vme_trace.specs.declared.Fault.TheVariants.{Read, Memory}
use Rattle.vme_trace.specs.Reading as trace
use Rattle.vme_trace.specs.Pieces.{PumpedUpTo}
use Rattle.vme_reading.specs.Streams.{streams}
use Rattle.vme_reading.specs.Steps.{Comes}
use Rattle.vme_reading.specs.Pairs.{IsReadWhole, MeetsFault}
use Rattle.vme_reading.specs.Begun.{HasCome, HasBegun, IsUnbegun}
use Rattle.vme_reading.specs.Sides.{IsSide, goes_on, next_turn}
use Rattle.vme_reading.specs.declared.traces.Input.{Input}
use Rattle.vme_reading.specs.declared.pairs.Turn.{Turn}
use Rattle.vme_reading.specs.declared.pairs.Turn.TheVariants.{First, Second}
use Rattle.vme_reading.proofs.CanGoOn.{can_go_on}
use Rattle.vme_reading.proofs.TraceReads.{IsReading, reading_of, begins_more, came, stays_known, read_out, counted_few}
use Rattle.vme_reading.proofs.ReadOn.{came_is, came_begins}
use Rattle.vme_reading.proofs.FirstReads.{counted_first}
use Rattle.vme_reading.proofs.FormedEdges.{formed_both, formed_first}
use Rattle.vme_reading.proofs.Waits.{waits_now}
use Rattle.vme_reading.specs.Unread.{stops_unread}

-- ---- a piece

module _ (from at : Option (List ℕ)) (v : Version) (es : List Edge) (input : Input) (h : HasCome from at v es input) (goes : input.more ≡ Ok true) where
  reading : IsReading [] from at input.reader input.reads es
  reading = reading_of [] from at input.reader input.reads es (subst (λ (a : Result Bool Fault). Comes from at [] input.reads input.reader es a) goes h.came)

  -- no read is left
  pub unread_came : (left : ℕ) → Comes from at [] left input.reader es (Err Read)
  unread_came left =
      let later = reading.later in
      let read = reading.read in (
        later,
        reading.taken,
        inl (
          refl,
          record {
            version = sym read.version;
            edges = read.edges;
            goes_on = can_go_on input.reader later es read;
            begins = λ w e. begins_more w input.reader later es read e (unwrap_or at []);
          },
        ),
      )

  module _ (to : Option (List ℕ)) (left : ℕ) (one_less : input.reads ≡ left + 1) where
    pub one_read : IsReading [] from at input.reader (left + 1) es
    one_read = subst (λ (n : ℕ). IsReading [] from at input.reader n es) one_less reading

    module _ (next : trace.ReaderState) (new : List Edge) (answer : Result Bool Fault) (pumped : PumpedUpTo 69632 at to one_read.later es [] new next answer) where
      pub piece_known : next.version ≡ Some v
      piece_known = stays_known [] from at to input.reader next left es new one_read v h.known answer pumped

      pub piece_came : Comes from to [] left next (es ++ new) answer
      piece_came = came [] from at to input.reader next left es new one_read answer pumped

-- ---- the end

pub has_stopped : (more : Result Bool Fault) (m : Bool) → more ≡ Ok m → goes_on more ≡ false → more ≡ Ok false
has_stopped more true is h = absurd cc
has_stopped more false is h = is

module _ (from to : Option (List ℕ)) (v : Version) (es : List Edge) (input : Input) (h : HasCome from to v es input) where
  pub is_whole : input.more ≡ Ok false → IsReadWhole (streams from to None None) v es
  is_whole is =
      let end = subst (λ (a : Result Bool Fault). Comes from to [] input.reads input.reader es a) is h.came in
      record {
        trace = end.0;
        input = read_out from to end.0 end.1 end.2;
        read_out = end.2;
        named = sym end.3 ∙ h.known;
        edges = end.4;
        whole = end.5;
      }

  -- a fault that the read reported, or that there was no room for its edges
  pub meets : (f : Fault) → (input.more ≡ Err f) ⊎ (f ≡ Memory) → MeetsFault (streams from to None None) f
  meets f which =
      let all = came_is v from to [] input.reads input.reader es h.known input.more h.came in
      let begins = came_begins v all.0 from to es input.more all.2 in (
        all.0,
        all.1,
        elim which [
          | inl is ↦ waits_now (λ w fs. Unit {0}) v all.0 (streams from to None None) es input.more all.2 tt f is
          | inr is ↦ rw is (es, begins.others, begins.edges, tt)
        ],
      )

pub unbegun_meets : (from to : Option (List ℕ)) (f : Fault) → IsUnbegun from to f → MeetsFault (streams from to None None) f
unbegun_meets from to f h = (h.0, h.1, stops_unread (λ w fs. Unit {0}) tt h.0 (streams from to None None) f h.2)

-- ---- one side

pub formed_new : (from to : Option (List ℕ)) (v : Version) (es new : List Edge) (input : Input) → HasCome from to v (es ++ new) input → AreWellFormed new
formed_new from to v es new input h = (formed_both es new (formed_first from to [] input.reads input.reader (es ++ new) input.more h.came)).1

pub side_begun : (from at : Option (List ℕ)) (v : Version) (input : Input) (none count : ℕ) → HasBegun from at v input → input.more ≡ Ok (goes_on input.more) → none ≡ 0 → count
    ≡ none + length input.edges.items
    → IsSide from at v input.edges.items count input
side_begun from at v input none count h unfaulted is more = record { came = h; unfaulted = unfaulted; counted = omega (arith, is, more) }

module _ (from at : Option (List ℕ)) (v : Version) (es : List Edge) (count : ℕ) (input : Input) (h : IsSide from at v es count input) where
  pub side_few : input.more ≡ Ok true → count ≤ 2 ^ 41
  side_few is = subst (λ (n : ℕ). n ≤ 2 ^ 41) (sym h.counted) (counted_few input.reader input.reads (length es) (counted_first from at [] input.reader es input.more input.reads h.came.came is))

  -- one more piece
  pub side_more : (to : Option (List ℕ)) (now : Input) (more : ℕ) → HasCome from to v (es ++ now.edges.items) now → now.more ≡ Ok (goes_on now.more) → more ≡ count + length now.edges.items
      → IsSide from to v (es ++ now.edges.items) more now
  side_more to now more came unfaulted grown = record { came = came; unfaulted = unfaulted; counted = grown ∙ ap (λ n. n + length now.edges.items) h.counted ∙ sym (length-append es now.edges.items) }

  -- the judge took edges of the other side
  pub side_stays : (same : ℕ) → same ≡ count → IsSide from at v es same input
  side_stays same is = record { came = h.came; unfaulted = h.unfaulted; counted = is ∙ h.counted }

-- ---- whose turn it is

first_turn : (wanted first second : Bool) → next_turn wanted first second ≡ Some First → first ≡ true
first_turn true true second is = refl
first_turn false true false is = refl
first_turn false true true is = refl
first_turn wanted false true is = absurd cc
first_turn wanted false false is = absurd cc

second_turn : (wanted first second : Bool) → next_turn wanted first second ≡ Some Second → second ≡ true
second_turn true true second is = absurd cc
second_turn false true false is = absurd cc
second_turn false true true is = refl
second_turn wanted false true is = refl
second_turn wanted false false is = absurd cc

no_turn : (wanted first second : Bool) → next_turn wanted first second ≡ None → (first ≡ false) × (second ≡ false)
no_turn true true second is = absurd cc
no_turn false true false is = absurd cc
no_turn false true true is = absurd cc
no_turn wanted false true is = absurd cc
no_turn wanted false false is = (refl, refl)

module _ (wanted first second : Bool) (next : Option Turn) (is : next ≡ next_turn wanted first second) (more others : Result Bool Fault)
    (first_is : first ≡ goes_on more) (second_is : second ≡ goes_on others) (first_whole : more ≡ Ok (goes_on more)) (second_whole : others ≡ Ok (goes_on others)) where
  pub first_goes : (turn : Turn) → next ≡ Some turn → turn ≡ First → more ≡ Ok true
  first_goes turn some here = first_whole ∙ ap Ok (sym first_is ∙ first_turn wanted first second (sym is ∙ some ∙ ap Some here))

  pub second_goes : (turn : Turn) → next ≡ Some turn → turn ≡ Second → others ≡ Ok true
  second_goes turn some here = second_whole ∙ ap Ok (sym second_is ∙ second_turn wanted first second (sym is ∙ some ∙ ap Some here))

  pub both_ended : next ≡ None → (more ≡ Ok false) × (others ≡ Ok false)
  both_ended none =
      let ended = no_turn wanted first second (sym is ∙ none) in
      (first_whole ∙ ap Ok (sym first_is ∙ ended.0), second_whole ∙ ap Ok (sym second_is ∙ ended.1))
