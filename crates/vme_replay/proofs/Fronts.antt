-- The input before its trace, byte by byte.
use Rattle.std.proofs.Common.{◌≡◌, ◌≢◌, ℕ, ◌+◌, ◌-◌, ◌<◌, ◌≤◌, List, [], ◌∷◌, ◌++◌, length, take, drop, true, Option, Some, None, Result, Ok, sym, ◌∙◌, ap, append_assoc, append-nil, take-append-drop, subst, inl, inr, get_or}
use Rattle.std.proofs.lemmas.List.{take_more}
use Rattle.std.specs.Io.KnownBytes.{Consumes}
use Rattle.std.proofs.KnownBytes.{Consumes-trans, Keeps-refl}
use Rattle.vme_model.specs.declared.signals.Version.{Version}
use Rattle.vme_model.specs.Text.{version_of, header}
use Rattle.std.specs.declared.alloc.AllocError.{AllocError}
use Rattle.vme_replay.specs.declared.joins.Found.{Found}
use Rattle.vme_replay.specs.declared.joins.Front.{Front}
use Rattle.vme_reading.specs.Streams.{streams}
use Rattle.vme_reading.specs.Outcomes.{Answer}
use Rattle.vme_replay.specs.Joining.{cut, FindsNoTrace, Joins}
use Rattle.vme_replay.specs.Front.{behind, IsHeld, IsFront, EndsFront, Finds, JoinsBehind}
use Rattle.vme_replay.proofs.FirstHeader.{cut_part, cut_line, cut_here, behind_behind, unnamed, one_line_more}

-- ---- what a byte does

pub took_byte : (f g : Front) (bytes : List ℕ) (b : ℕ) → IsFront f bytes → b ≢ 10
    → ((part : List ℕ) → f.line.items ≡ take 6 part → g.line.items ≡ take 6 (part ++ b ∷ [])) → IsHeld g.held.items (bytes ++ b ∷ []) → IsFront g (bytes ++ b ∷ [])
took_byte f g bytes b h ne line held = record {
  before = h.before;
  part = h.part ++ b ∷ [];
  whole = ap (λ l. l ++ b ∷ []) h.whole ∙ append_assoc h.before h.part (b ∷ []);
  none = h.none;
  one_line = one_line_more h.part b h.one_line ne;
  line = line h.part h.line;
  held = held;
}

pub took_feed : (f g : Front) (bytes : List ℕ) → IsFront f bytes → version_of f.line.items ≡ None → g.line.items ≡ [] → IsHeld g.held.items (bytes ++ 10 ∷ [])
    → IsFront g (bytes ++ 10 ∷ [])
took_feed f g bytes h other line held =
    let other_part : version_of (take 6 h.part) ≡ None = ap version_of (sym h.line) ∙ other in
    record {
      before = bytes ++ 10 ∷ [];
      part = [];
      whole = sym (append-nil (bytes ++ 10 ∷ []));
      none = λ more.
          let all : (bytes ++ 10 ∷ []) ++ more ≡ h.before ++ (h.part ++ 10 ∷ more) =
          append_assoc bytes (10 ∷ []) more ∙ ap (λ l. l ++ 10 ∷ more) h.whole ∙ append_assoc h.before h.part (10 ∷ more) in
          let back : h.before ++ (h.part ++ 10 ∷ []) ≡ bytes ++ 10 ∷ [] = sym (ap (λ l. l ++ 10 ∷ []) h.whole ∙ append_assoc h.before h.part (10 ∷ [])) in
          ap (cut true) all ∙ h.none (h.part ++ 10 ∷ more) ∙ ap (behind h.before) (cut_line h.part more h.one_line (unnamed h.part other_part))
          ∙ behind_behind h.before (h.part ++ 10 ∷ []) (cut true more) ∙ ap (λ l. behind l (cut true more)) back;
      one_line = tt;
      line = line;
      held = held;
    }

-- ---- in the loops

-- no header line stands in what was taken
pub no_trace : (f : Front) (bytes : List ℕ) → IsFront f bytes → cut true bytes ≡ None
no_trace f bytes h = ap (cut true) h.whole ∙ h.none h.part ∙ ap (behind h.before) (cut_part true h.part h.one_line)

-- the input is cut where the header line was found
pub cut_found : (f : Front) (bytes : List ℕ) (v : Version) (h : EndsFront f bytes v) (others : List ℕ)
    → cut true (h.before ++ ((header v ++ 10 ∷ []) ++ others)) ≡ Some (h.before, (header v ++ 10 ∷ []) ++ others)
cut_found f bytes v h others =
    h.none ((header v ++ 10 ∷ []) ++ others) ∙ ap (behind h.before) (cut_here v others)
    ∙ ap (λ l. Some (l, (header v ++ 10 ∷ []) ++ others)) (append-nil h.before)

-- the bytes that were read, and what was taken of them
pub record HasFront (from at : Option (List ℕ)) (f : Front) : Type 0 where
  pub bytes : List ℕ
  pub taken : Consumes from at bytes
  pub front : IsFront f bytes

-- one more byte of a piece
pub piece_more : (bytes piece : List ℕ) (i : ℕ) → i < length piece → (bytes ++ take i piece) ++ get_or piece i 0 ∷ [] ≡ bytes ++ take (i + 1) piece
piece_more bytes piece i h = append_assoc bytes (take i piece) (get_or piece i 0 ∷ []) ∙ ap (λ l. bytes ++ l) (sym (take_more piece i 0 h))

-- one more read
pub front_more : (from at to : Option (List ℕ)) (f g : Front) (piece : List ℕ) (h : HasFront from at f) → Consumes at to piece → IsFront g (h.bytes ++ piece) → HasFront from to g
front_more from at to f g piece h taken front =
    record { bytes = h.bytes ++ piece; taken = Consumes-trans from at to h.bytes piece h.taken taken; front = front }

-- what stands in the input behind the scenario
pub found_behind : (from at to : Option (List ℕ)) (bytes piece : List ℕ) (n : ℕ) (f : Front) (v : Version) → Consumes from at bytes → Consumes at to piece
    → (h : EndsFront f (bytes ++ take n piece) v) → Consumes from to (h.before ++ ((header v ++ 10 ∷ []) ++ drop n piece))
found_behind from at to bytes piece n f v before taken h =
    let both : Consumes from to (bytes ++ piece) = Consumes-trans from at to bytes piece before taken in
    let split : bytes ++ piece ≡ h.before ++ ((header v ++ 10 ∷ []) ++ drop n piece) =
    ap (λ l. bytes ++ l) (sym (take-append-drop n piece)) ∙ sym (append_assoc bytes (take n piece) (drop n piece)) ∙ ap (λ l. l ++ drop n piece) h.whole
    ∙ append_assoc h.before (header v ++ 10 ∷ []) (drop n piece) in
    subst (Consumes from to) split both

-- what was replayed behind a header line that was found
pub joins_found : (from at to old new : Option (List ℕ)) (bytes piece : List ℕ) (n : ℕ) (f : Front) (v : Version) (answer : Answer) → Consumes from at bytes → Consumes at to piece
    → EndsFront f (bytes ++ take n piece) v → (last : Option (List ℕ)) → JoinsBehind f v (drop n piece) to last old new answer → Joins (streams from last old new) answer
joins_found from at to old new bytes piece n f v answer before taken h last ran =
    let all = ran from h.before h.held (found_behind from at to bytes piece n f v before taken h) in
    inl (h.before, (header v ++ 10 ∷ []) ++ all.0, all.1, cut_found f (bytes ++ take n piece) v h all.0, all.2)

-- no header line was found
pub joins_none : (from to old : Option (List ℕ)) (bytes : List ℕ) (f : Front) (answer : Answer) → Consumes from to bytes → FindsNoTrace (streams from to old old) bytes answer
    → Joins (streams from to old old) answer
joins_none from to old bytes f answer taken none = inr (bytes, taken, Keeps-refl old, none)

-- what `find` found, by its answer
pub found_at : (bytes piece : List ℕ) (f : Front) (r : Result (Option Found) AllocError) (x : Found) → Finds bytes piece f r → r ≡ Ok (Some x)
    → (x.taken ≤ length piece) × EndsFront f (bytes ++ take x.taken piece) x.version
found_at bytes piece f r x h is = subst (λ (a : Result (Option Found) AllocError). Finds bytes piece f a) is h

pub none_at : (bytes piece : List ℕ) (f : Front) (r : Result (Option Found) AllocError) → Finds bytes piece f r → r ≡ Ok None → IsFront f (bytes ++ piece)
none_at bytes piece f r h is = subst (λ (a : Result (Option Found) AllocError). Finds bytes piece f a) is h
