-- A reader of moments and its input.
use Rattle.std.proofs.Common.{◌≡◌, inl, inr, ◌<◌, ◌≤◌, ◌+◌, ◌++◌, ◌∷◌, [], ℕ, Bool, true, false, List, Option, Some, None, Result, Ok, Err, unwrap_or, option_map, length, refl, sym, ◌∙◌, ap, subst, arith, append_assoc, append-nil, length-append}
use Rattle.std.specs.Io.KnownBytes.{Consumes, IsAtEnd, Keeps}
use Rattle.std.proofs.KnownBytes.{Consumes-kept, Consumes-nil, Consumes-trans, Keeps-refl}
use Rattle.vme_model.specs.declared.signals.Version.{Version}
use Rattle.vme_model.specs.Text.{cut_off, no_edge, no_header, too_long}
use Rattle.vme_trace.specs.Reading.{IsPart}
use Rattle.vme_trace.specs.declared.Fault.TheVariants as trace
use Rattle.vme_moments.specs.declared.MomentsFault.{MomentsFault}
use Rattle.vme_moments.specs.declared.MomentsFault.TheVariants.{Trace, Earlier, Momentless, TooMany}
use Rattle.vme_moments.specs.declared.reader.Moments.{Moments}
use Rattle.vme_moments.specs.declared.reader.Reader.{Reader}
use Rattle.vme_moments.specs.Moments.{Reading, read_of}
use Rattle.vme_moments.specs.Moments as said
use Rattle.vme_moments.specs.Reading.{CanGoOn, IsInput, LacksRoom, ReadsMoments, fault_of}
use Rattle.vme_moments.specs.Taking.{Ends, IsFault, Takes, rest_of}
use Rattle.vme_moments.specs.Consumed.{FeedsAll, HasRead, HasReadMany, IsNew}
use Rattle.vme_moments.proofs.ReaderSteps.{end_cut, end_whole}

-- a reader before the first byte
pub new_reader : (r : Reader) → r.version ≡ None → r.line ≡ 1 → r.last ≡ None → r.seen.items ≡ []
    → r.part.items ≡ [] → IsNew r
unfolding read_of
new_reader r version line last seen part = record {
  sound = record {
    part = subst (λ (l : List ℕ). IsPart l) (sym part) (record { one_line = tt; short = omega arith });
    few = rw seen (omega arith);
    first_line = λ h. line;
    first_last = λ h. last;
    first_seen = λ h. seen;
  };
  empty = part;
  rest = λ more. rw (version, part) refl;
}

-- before the first read
pub begun : (from : Option (List ℕ)) (r : Reader) → IsNew r → HasReadMany 0 from from r
begun from r new = record {
  read = record {
    sound = new.sound;
    bytes = [];
    consumed = Consumes-nil from;
    others = λ more. sym (new.rest more);
    start = λ none. new.empty;
  };
  many = omega arith;
}

-- a piece was read and taken
pub fed_more : (n : ℕ) (from mid to : Option (List ℕ)) (old new : Reader) (piece : List ℕ)
    → HasReadMany n from mid old → Consumes mid to piece → 0 < length piece
    → Takes old piece new (Ok tt) → HasReadMany (n + 1) from to new
fed_more n from mid to old new piece h consumed some taken = record {
  read = record {
    sound = taken.0;
    bytes = h.read.bytes ++ piece;
    consumed = Consumes-trans from mid to h.read.bytes piece h.read.consumed consumed;
    others = λ more. ap read_of (append_assoc h.read.bytes piece more) ∙ h.read.others (piece ++ more) ∙ taken.1 more;
    start = λ none.
        let before = taken.2 none in
        before.1 ∙ ap (λ (l : List ℕ). l ++ piece) (h.read.start before.0);
  };
  many = rw (length-append h.read.bytes piece) (omega (arith, h.many));
}

-- ---- what was read can go on

whole_read : (from to : Option (List ℕ)) (r : Reader) (read : HasRead from to r)
    → read_of read.bytes ≡ rest_of r []
whole_read from to r read = ap read_of (sym (append-nil read.bytes)) ∙ read.others []

part_goes_on : (from to : Option (List ℕ)) (r : Reader) (read : HasRead from to r)
    (part : List ℕ) (v : Option Version) → r.part.items ≡ part → r.version ≡ v
    → CanGoOn read.bytes
part_goes_on from to r read (b ∷ part) v is named =
    inr (inl (ap (λ (x : Reading). x.fault) (whole_read from to r read)
    ∙ end_cut r.version r.line r.last r.seen.items r.part.items read.sound.few read.sound.part
    (rw is (omega arith))))
part_goes_on from to r read [] (Some v) is named =
    inl (ap (λ (x : Reading). x.fault) (whole_read from to r read)
    ∙ rw (named, is) (ap (λ (x : Reading). x.fault)
    (end_whole v r.line r.last r.seen.items read.sound.few)))
part_goes_on from to r read [] None is named = inr (inr (sym (read.start named) ∙ is))

-- a read failed, or there were too many
pub unread : (from mid to : Option (List ℕ)) (r : Reader) → HasRead from mid r → Keeps mid to
    → ReadsMoments from to (Err (Trace trace.Read))
unread from mid to r read kept = (
  read.bytes,
  Consumes-kept from mid to read.bytes read.consumed kept,
  part_goes_on from mid r read r.part.items r.version refl refl,
)

-- it was read as often as moments may be
pub gave_up : (n : ℕ) (from to : Option (List ℕ)) (r : Reader) → HasReadMany n from to r
    → 16777216 ≤ n → HasReadMany 16777216 from to r
gave_up n from to r h often = record { read = h.read; many = omega (arith, h.many) }

pub read_often : (from to : Option (List ℕ)) (r : Reader) (is_whole : Bool)
    → FeedsAll from to r (Ok is_whole) → is_whole ≡ false
    → ReadsMoments from to (Err (Trace trace.Read))
read_often from to r true h is = cc
read_often from to r false h is = unread from to to r h.read (Keeps-refl to)

-- the input was read to its end
input_whole : (from to : Option (List ℕ)) (bytes : List ℕ) → Consumes from to bytes → IsAtEnd to
    → IsInput from bytes
input_whole None to bytes consumed end = tt
input_whole (Some xs) None bytes consumed end = absurd consumed
input_whole (Some xs) (Some ys) bytes consumed end =
    consumed ∙ rw end (append-nil bytes)

-- the input has these bytes, and then those that are left
input_rest : (from to : Option (List ℕ)) (bytes : List ℕ) → Consumes from to bytes
    → IsInput from (bytes ++ unwrap_or to [])
input_rest None to bytes consumed = tt
input_rest (Some xs) None bytes consumed = absurd consumed
input_rest (Some xs) (Some ys) bytes consumed = consumed

no_read : (o : Option said.MomentsFault) → option_map fault_of o ≡ Some (Trace trace.Read) → ⊥
no_read None h = cc
no_read (Some (said.of_trace no_header)) h = cc
no_read (Some (said.of_trace (no_edge n))) h = cc
no_read (Some (said.of_trace (too_long n))) h = cc
no_read (Some (said.of_trace cut_off)) h = cc
no_read (Some (said.earlier n)) h = cc
no_read (Some (said.momentless n)) h = cc
no_read (Some said.too_many) h = cc

-- the first fault of an input was met
fault_met : (from to : Option (List ℕ)) (bytes : List ℕ) (r : Reading) (f : MomentsFault)
    → IsInput from bytes → read_of bytes ≡ r → IsFault r f → ReadsMoments from to (Err f)
fault_met from to bytes r (Trace trace.Memory) input is h =
    (bytes, input, subst (λ (x : Reading). LacksRoom x.seen) (sym is) h)
fault_met from to bytes r (Trace trace.Read) input is h = absurd (no_read r.fault h)
fault_met from to bytes r (Trace trace.Header) input is h =
    (bytes, input, ap (λ (x : Reading). option_map fault_of x.fault) is ∙ h)
fault_met from to bytes r (Trace (trace.Line n)) input is h =
    (bytes, input, ap (λ (x : Reading). option_map fault_of x.fault) is ∙ h)
fault_met from to bytes r (Trace (trace.TooLong n)) input is h =
    (bytes, input, ap (λ (x : Reading). option_map fault_of x.fault) is ∙ h)
fault_met from to bytes r (Trace trace.CutOff) input is h =
    (bytes, input, ap (λ (x : Reading). option_map fault_of x.fault) is ∙ h)
fault_met from to bytes r (Trace trace.Failed) input is h =
    (bytes, input, ap (λ (x : Reading). option_map fault_of x.fault) is ∙ h)
fault_met from to bytes r (Trace trace.Write) input is h =
    (bytes, input, ap (λ (x : Reading). option_map fault_of x.fault) is ∙ h)
fault_met from to bytes r (Earlier n) input is h =
    (bytes, input, ap (λ (x : Reading). option_map fault_of x.fault) is ∙ h)
fault_met from to bytes r (Momentless n) input is h =
    (bytes, input, ap (λ (x : Reading). option_map fault_of x.fault) is ∙ h)
fault_met from to bytes r TooMany input is h =
    (bytes, input, ap (λ (x : Reading). option_map fault_of x.fault) is ∙ h)

-- the reader takes what it has read for the whole
pub ended : (from to : Option (List ℕ)) (r : Reader) (result : Result Moments MomentsFault)
    → HasRead from to r → IsAtEnd to → Ends (rest_of r []) result → ReadsMoments from to result
ended from to r (Ok m) read end ends =
    let all : read_of read.bytes ≡ rest_of r [] = whole_read from to r read in (
      read.bytes,
      input_whole from to read.bytes read.consumed end,
      end,
      record {
        version = ap (λ (x : Reading). x.version) all ∙ ends.0;
        seen = ap (λ (x : Reading). x.seen) all ∙ ends.1;
        whole = ap (λ (x : Reading). x.fault) all ∙ ends.2;
      },
    )
ended from to r (Err f) read end ends =
    fault_met from to read.bytes (rest_of r []) f (input_whole from to read.bytes read.consumed end)
    (whole_read from to r read) ends

-- the input ended at a read
pub at_end : (from mid to : Option (List ℕ)) (r : Reader) → HasRead from mid r
    → Consumes mid to [] → IsAtEnd to → FeedsAll from to r (Ok true)
at_end from mid to r read consumed end = (
  record {
    sound = read.sound;
    bytes = read.bytes;
    consumed = subst (λ (l : List ℕ). Consumes from to l) (append-nil read.bytes)
        (Consumes-trans from mid to read.bytes [] read.consumed consumed);
    others = read.others;
    start = read.start;
  },
  end,
)

-- a fault stands in a piece
pub faulty : (from mid to : Option (List ℕ)) (r : Reader) (piece : List ℕ) (f : MomentsFault)
    → HasRead from mid r → Consumes mid to piece
    → ((more : List ℕ) → IsFault (rest_of r (piece ++ more)) f) → ReadsMoments from to (Err f)
faulty from mid to r piece f read consumed fault =
    let rest : List ℕ = unwrap_or to [] in
    fault_met from to ((read.bytes ++ piece) ++ rest) (rest_of r (piece ++ rest)) f
    (input_rest from to (read.bytes ++ piece)
    (Consumes-trans from mid to read.bytes piece read.consumed consumed))
    (ap read_of (append_assoc read.bytes piece rest) ∙ read.others (piece ++ rest))
    (fault rest)
