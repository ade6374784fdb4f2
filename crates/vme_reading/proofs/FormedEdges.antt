-- Every edge of a trace is well formed.
use Rattle.std.proofs.Common.{◌≡◌, inl, inr, ℕ, List, [], ◌∷◌, ◌++◌, Bool, true, false, Option, Some, None, unwrap_or, Result, Ok, Err, refl, sym, ◌∙◌, subst, nat_lt, length, if◌then◌else◌}
use Rattle.std.specs.List.{list_all}
use Rattle.std.proofs.lemmas.Bool.{and_parts}
use Rattle.std.proofs.lemmas.List.Folds.{list_all-append}
use Rattle.vme_model.specs.declared.signals.Version.{Version}
use Rattle.vme_model.specs.declared.signals.Edge.{Edge}
use Rattle.vme_model.specs.Signals.{is_well_formed}
use Rattle.vme_model.specs.Locality.{AreWellFormed}
use Rattle.vme_model.specs.Text.{TextFault, no_header, too_long, cut_off, split_lines, read_lines, before_others, behind_header, read_from_header, is_too_long, version_of, edge_of, next_number, unread, read_of}
use Rattle.vme_trace.specs.declared.Fault.{Fault}
use Rattle.vme_trace.specs.Reading as trace
use Rattle.vme_trace.specs.Pieces.{PumpedUpTo}
use Rattle.vme_trace.proofs.OneSpelling.{reads}
use Rattle.vme_reading.specs.Steps.{Comes}

-- ---- the edges that a trace says

formed_step : (a : Bool) (n : ℕ) (line : List ℕ) (e : Option Edge) → edge_of line ≡ e → (others : List Edge × Option TextFault) → AreWellFormed others.0
    → AreWellFormed (if a then ([], Some (too_long n)) else before_others n e others).0
formed_step true n line e is others h = refl
formed_step false n line None is others h = refl
formed_step false n line (Some e) is others h = rw ((reads line e is).0) h

formed_lines : (n : ℕ) (lines : List (List ℕ)) (rest : List ℕ) → AreWellFormed (read_lines n lines rest).0
unfolding read_lines
formed_lines n [] rest = refl
formed_lines n (line ∷ lines) rest = formed_step (is_too_long line) n line (edge_of line) refl (read_lines (next_number n) lines rest) (formed_lines (next_number n) lines rest)

formed_behind : (a : Bool) (n : ℕ) (v : Option Version) (others : List Edge × Option TextFault) → AreWellFormed others.0
    → AreWellFormed (if a then unread (too_long n) else behind_header v others).edges
formed_behind true n v others h = refl
formed_behind false n None others h = refl
formed_behind false n (Some v) others h = h

formed_unread : (a b : Bool) (n : ℕ) → AreWellFormed (if a then unread (too_long n) else (if b then unread cut_off else unread no_header)).edges
formed_unread true b n = refl
formed_unread false true n = refl
formed_unread false false n = refl

formed_from : (n : ℕ) (lines : List (List ℕ)) (rest : List ℕ) → AreWellFormed (read_from_header n lines rest).edges
formed_from n [] rest = formed_unread (is_too_long rest) (nat_lt 0 (length rest)) n
formed_from n (line ∷ lines) rest = formed_behind (is_too_long line) n (version_of line) (read_lines (next_number n) lines rest) (formed_lines (next_number n) lines rest)

pub formed_read : (bytes : List ℕ) → AreWellFormed (read_of bytes).edges
unfolding read_of
formed_read bytes = formed_from 1 (split_lines bytes).0 (split_lines bytes).1

-- ---- parts of them

pub formed_both : (es fs : List Edge) → AreWellFormed (es ++ fs) → AreWellFormed es × AreWellFormed fs
formed_both es fs h = and_parts (list_all is_well_formed es) (list_all is_well_formed fs) (sym (list_all-append is_well_formed es fs) ∙ h)

-- the first edges that a trace says
pub formed_front : (bytes : List ℕ) (all es others : List Edge) → (read_of bytes).edges ≡ all → all ≡ es ++ others → AreWellFormed es
formed_front bytes all es others is split = (formed_both es others (subst AreWellFormed (is ∙ split) (formed_read bytes))).0

pub formed_read_by : (reader : trace.ReaderState) (bytes : List ℕ) (es : List Edge) → trace.HasRead reader bytes es → AreWellFormed es
formed_read_by reader bytes es h = subst AreWellFormed h.edges (formed_read bytes)

-- ---- read by read

pub formed_piece : (at to : Option (List ℕ)) (bytes : List ℕ) (next : trace.ReaderState) (es new : List Edge) (answer : Result Bool Fault)
    → PumpedUpTo 69632 at to bytes es [] new next answer → AreWellFormed new
formed_piece at to bytes next es new (Ok true) h = rw h.4.1 (formed_both es h.4.0 (formed_read_by next (bytes ++ h.0) (es ++ h.4.0) h.4.2)).1
formed_piece at to bytes next es new (Ok false) h = rw h.2 refl
formed_piece at to bytes next es new (Err f) h = elim h [
  | inl failed ↦ rw failed.2 refl
  | inr stops ↦ (let all = stops.5.1.front in rw stops.4 (formed_both es stops.1 (formed_front ((bytes ++ stops.0) ++ unwrap_or to []) _ (es ++ stops.1) all.0 refl all.1)).1)
]

pub formed_first : (from to : Option (List ℕ)) (head : List ℕ) (left : ℕ) (reader : trace.ReaderState) (es : List Edge) (more : Result Bool Fault)
    → Comes from to head left reader es more → AreWellFormed es
formed_first from to head left reader es (Ok true) h = formed_read_by reader (head ++ h.0) es h.3
formed_first from to head left reader es (Ok false) h = subst AreWellFormed h.4 (formed_read (head ++ h.0))
formed_first from to head left reader es (Err f) h = elim h.2 [
  | inl failed ↦ subst AreWellFormed failed.1.edges (formed_read (head ++ h.0))
  | inr stops ↦ formed_front ((head ++ h.0) ++ unwrap_or to []) _ es stops.front.0 refl stops.front.1
]
