-- What is answered to moments, once they were read and an order of them was sought.
use Rattle.std.proofs.Common.{◌≡◌, ◌≤◌, [], ℕ, List, Option, Some, None, Ok, Err, length, reverse, refl, sym, subst, unwrap_or}
use Rattle.std.specs.Io.KnownBytes.{IsAtEnd}
use Rattle.vme_model.specs.declared.signals.Version.{Version}
use Rattle.vme_model.specs.Plan.{Plan}
use Rattle.vme_scenario.specs.Format.{scenario}
use Rattle.vme_trace.specs.declared.Fault.{Fault}
use Rattle.vme_trace.specs.declared.Fault.TheVariants as trace
use Rattle.vme_moments.specs.declared.Seen.{Seen}
use Rattle.vme_moments.specs.declared.reader.Moments.{Moments}
use Rattle.vme_moments.specs.declared.slacks.Slacks.{Slacks}
use Rattle.vme_moments.specs.Orders.{AreNext, IsLongest}
use Rattle.vme_moments.specs.declared.MomentsFault.{MomentsFault}
use Rattle.vme_moments.specs.declared.MomentsFault.TheVariants.{Trace, Earlier, Momentless, TooMany}
use Rattle.vme_moments.specs.Reading as moments
use Rattle.vme_order_search.specs.TooMany.{HasTooMany}
use Rattle.vme_order_search.specs.declared.OrderFault.{OrderFault}
use Rattle.vme_order_search.specs.declared.OrderFault.TheVariants.{TooManyOrders, NoMemory}
use Rattle.vme_reading.specs.declared.Status.{Status}
use Rattle.vme_reading.specs.declared.EngineFault.TheVariants as engine
use Rattle.vme_reading.specs.Outcomes.{scenario_limit}
use Rattle.vme_reading.specs.Streams.{IsInput, ReadNothing, Streams, Wrote, WroteFront, WroteNothing}
use Rattle.vme_order.specs.declared.Form.{Form}
use Rattle.vme_order.specs.declared.OrderingFault.TheVariants as fault
use Rattle.vme_order.specs.Faults.{search_fault}
use Rattle.vme_order.specs.Ordering.{Answer, Finds, IsFirstEmpty, IsFound, LentText, NamesBoards, OrdersInput, found_text, status_of}

-- ---- the input

pub same_input : (from : Option (List ℕ)) (bytes : List ℕ) → moments.IsInput from bytes
    → IsInput from bytes
same_input None bytes h = tt
same_input (Some all) bytes h = h

-- an input of which nothing was read
pub input_left : (from : Option (List ℕ)) → IsInput from (unwrap_or from [])
input_left None = tt
input_left (Some all) = refl

-- ---- moments that were not read

-- a fault was met, or a read failed
pub not_read : (form : Form) (x : Slacks) (p : Plan) (s : Streams) (f : MomentsFault)
    → NamesBoards x p → moments.ReadsMoments s.from s.to (Err f) → WroteNothing s
    → OrdersInput form x s p (Err (fault.Moments f))
not_read form x p s (Trace trace.Read) named read nothing =
    (unwrap_or s.from [], input_left s.from, (named, read.0, read.1, read.2, nothing))
not_read form x p s (Trace trace.Header) named read nothing =
    (read.0, same_input s.from read.0 read.1, (named, read.2, nothing))
not_read form x p s (Trace (trace.Line n)) named read nothing =
    (read.0, same_input s.from read.0 read.1, (named, read.2, nothing))
not_read form x p s (Trace (trace.TooLong n)) named read nothing =
    (read.0, same_input s.from read.0 read.1, (named, read.2, nothing))
not_read form x p s (Trace trace.CutOff) named read nothing =
    (read.0, same_input s.from read.0 read.1, (named, read.2, nothing))
not_read form x p s (Trace trace.Memory) named read nothing =
    (read.0, same_input s.from read.0 read.1, (named, read.2, nothing))
not_read form x p s (Trace trace.Failed) named read nothing =
    (read.0, same_input s.from read.0 read.1, (named, read.2, nothing))
not_read form x p s (Trace trace.Write) named read nothing =
    (read.0, same_input s.from read.0 read.1, (named, read.2, nothing))
not_read form x p s (Earlier n) named read nothing =
    (read.0, same_input s.from read.0 read.1, (named, read.2, nothing))
not_read form x p s (Momentless n) named read nothing =
    (read.0, same_input s.from read.0 read.1, (named, read.2, nothing))
not_read form x p s TooMany named read nothing =
    (read.0, same_input s.from read.0 read.1, (named, read.2, nothing))

-- ---- moments that were read

pub found_in : (v : Version) (p : Plan) (x : Slacks) (ms all : List Seen) (order next : List ℕ)
    → all ≡ ms → IsLongest v p x all (reverse order) → AreNext x all (reverse order) next
    → IsFound v p x ms order next
found_in v p x ms all order next is longest behind =
    subst (λ (ss : List Seen). IsFound v p x ss order next) is
    (record { longest = longest; behind = behind })

module _ (form : Form) (x : Slacks) (p : Plan) (named : NamesBoards x p) (s : Streams)
    (bytes : List ℕ) (input : moments.IsInput s.from bytes) where
  module _ (m : Moments) (said : moments.Say bytes m) where
    -- nothing was found
    pub unfound : (f : OrderFault)
        → (f ≡ TooManyOrders → HasTooMany m.version p x m.seen.items) → WroteNothing s
        → OrdersInput form x s p (Err (search_fault f))
    unfound TooManyOrders many nothing = (
      bytes,
      same_input s.from bytes input,
      (
        named,
        record {
          version = m.version;
          named = said.version;
          whole = said.whole;
          many = subst (λ (ss : List Seen). HasTooMany m.version p x ss) (sym said.seen) (many refl);
        },
        nothing,
      ),
    )
    unfound NoMemory many nothing =
        (bytes, same_input s.from bytes input, (named, said.whole, nothing))

    module _ (order next : List ℕ) (found : IsFound m.version p x m.seen.items order next) where
      finds : Finds x p bytes
      finds = record {
        version = m.version;
        named = said.version;
        whole = said.whole;
        order = order;
        next = next;
        found =
            subst (λ (ss : List Seen). IsFound m.version p x ss order next) (sym said.seen) found;
      }

      -- it could not be written
      pub cut_off : (f : Fault) → f ≡ trace.Write
          → WroteFront s (found_text form m.version p m.seen.items order next)
          → OrdersInput form x s p (Err (fault.Engine (engine.Trace f)))
      unfolding finds
      cut_off f is w =
          subst (λ (g : Fault). OrdersInput form x s p (Err (fault.Engine (engine.Trace g)))) (sym is) (
            bytes,
            same_input s.from bytes input,
            (
              named,
              finds,
              subst (λ (ss : List Seen). WroteFront s (found_text form m.version p ss order next))
                  (sym said.seen) w,
            ),
          )

      -- it was written
      pub written : (status : Status) → IsAtEnd s.to
          → Wrote s (found_text form m.version p m.seen.items order next)
          → status ≡ status_of m.seen.items order → OrdersInput form x s p (Ok status)
      unfolding finds
      written status end w is = (
        bytes,
        same_input s.from bytes input,
        (
          named,
          finds,
          end,
          subst (λ (ss : List Seen). Wrote s (found_text form m.version p ss order next))
              (sym said.seen) w,
          subst (λ (ss : List Seen). status ≡ status_of ss order) (sym said.seen) is,
        ),
      )

-- ---- the scenario

module _ (text : List ℕ) (nothing : Type 0) (form : Form) (x : Slacks) (s : Streams) where
  module _ (p : Plan) (short : length text ≤ scenario_limit) (is : scenario text ≡ Ok p) where
    -- a slot that is named has no board
    pub unnamed : (slot : ℕ) → IsFirstEmpty x p slot → ReadNothing s → WroteNothing s
        → LentText text nothing (OrdersInput form x s) (Err (fault.NoBoard slot))
    unnamed slot first read wrote =
        (p, short, is, (unwrap_or s.from [], input_left s.from, (first, read, wrote)))

    pub lent : (answer : Answer) → OrdersInput form x s p answer
        → LentText text nothing (OrdersInput form x s) answer
    lent (Ok status) h = (p, short, is, h)
    lent (Err (fault.Moments f)) h = (p, short, is, h)
    lent (Err (fault.NoBoard slot)) h = (p, short, is, h)
    lent (Err fault.TooManyOrders) h = (p, short, is, h)
    lent (Err (fault.Engine (engine.Scenario e))) h = absurd h.2
    lent (Err (fault.Engine (engine.Trace f))) h = (p, short, is, h)
    lent (Err (fault.Engine engine.CannotRead)) h = (p, short, is, h)
    lent (Err (fault.Engine engine.TooLong)) h = absurd h.2
    lent (Err (fault.Engine engine.NoMemory)) h = (p, short, is, h)
    lent (Err (fault.Engine (engine.Beyond n))) h = (p, short, is, h)
