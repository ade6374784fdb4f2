-- A reader of moments takes bytes.
use Rattle.std.proofs.Common.{◌≡◌, inl, inr, ◌<◌, ◌≤◌, ◌+◌, ◌++◌, ◌∷◌, [], ℕ, true, false, List, Option, Some, None, Result, Ok, Err, is_some, length, option_map, refl, sym, ◌∙◌, ap, subst, arith, add-one, append_assoc, append-nil, drop, get_or, suc, take, zero}
use Rattle.std.proofs.lemmas.List.{take_all, take_more}
use Rattle.vme_model.specs.declared.signals.Version.{Version}
use Rattle.vme_model.specs.Text.{cut_off, next_number, no_edge, no_header, split_lines, too_long, version_of}
use Rattle.vme_trace.specs.Reading.{IsPart}
use Rattle.vme_trace.specs.declared.Fault.TheVariants as trace
use Rattle.vme_moments.specs.declared.Seen.{Seen}
use Rattle.vme_moments.specs.declared.MomentsFault.{MomentsFault}
use Rattle.vme_moments.specs.declared.MomentsFault.TheVariants.{Trace, Earlier, Momentless, TooMany}
use Rattle.vme_moments.specs.declared.reader.Reader.{Reader}
use Rattle.vme_moments.specs.Moments.{Reading, Said, line_says, read_seen, seen_limit, too_many}
use Rattle.vme_moments.specs.Moments as said
use Rattle.vme_moments.specs.Reading.{LacksRoom, fault_of}
use Rattle.vme_moments.specs.Taking.{IsFault, IsSound, KeepsStart, Says, Takes, rest_of}
use Rattle.vme_trace.proofs.Lines.{IsOneLine-append, no_bytes}
use Rattle.vme_trace.specs.Reading.{IsOneLine}
use Rattle.vme_moments.proofs.ReaderSteps.{line_step, said_step, fault_step, many_step, header_step, header_missed, long_step, end_cut, end_absent, end_whole}

-- nothing was taken yet
pub taken_none : (r : Reader) → IsSound r → Takes r [] r (Ok tt)
taken_none r sound = (sound, λ more. refl, λ none. (none, sym (append-nil r.part.items)))

-- first these bytes, and then those
pub taken_more : (old mid new : Reader) (a b : List ℕ) → Takes old a mid (Ok tt)
    → Takes mid b new (Ok tt) → Takes old (a ++ b) new (Ok tt)
taken_more old mid new a b first then = (
  then.0,
  λ more. ap (λ l. rest_of old l) (append_assoc a b more) ∙ first.1 (b ++ more) ∙ then.1 more,
  λ none.
      let last = then.2 none in
      let before = first.2 last.0 in (
        before.0,
        last.1 ∙ ap (λ l. l ++ b) before.1 ∙ append_assoc old.part.items a b,
      ),
)

-- a reader behind the header line
pub start_over : (old new : Reader) (bytes : List ℕ) (v : Version) → new.version ≡ Some v
    → KeepsStart old bytes new
start_over old new bytes v named none = absurd (some_none v (sym named ∙ none))
  where
    some_none : (v : Version) → (let o : Option Version = Some v in o ≡ None) → ⊥
    some_none v h = cc

-- a reader whose part has one byte more says the same of what is left
pub byte_taken : (old new : Reader) (b : ℕ) → new.version ≡ old.version → new.line ≡ old.line
    → new.last ≡ old.last → new.seen.items ≡ old.seen.items
    → new.part.items ≡ old.part.items ++ b ∷ [] → (more : List ℕ)
    → rest_of old (b ∷ more) ≡ rest_of new more
byte_taken old new b version line last seen part more =
    rw (version, line, last, seen, part, append_assoc old.part.items (b ∷ []) more) refl

no_memory : (g : said.MomentsFault) → fault_of g ≡ Trace trace.Memory → ⊥
no_memory (said.of_trace no_header) h = cc
no_memory (said.of_trace (no_edge n)) h = cc
no_memory (said.of_trace (too_long n)) h = cc
no_memory (said.of_trace cut_off) h = cc
no_memory (said.earlier n) h = cc
no_memory (said.momentless n) h = cc
no_memory said.too_many h = cc

fault_known : (r : Reading) (g : said.MomentsFault) (f : MomentsFault) → r.fault ≡ Some g
    → fault_of g ≡ f → IsFault r f
fault_known r g (Trace trace.Memory) is same = absurd (no_memory g same)
fault_known r g (Trace trace.Header) is same = ap (λ o. option_map fault_of o) is ∙ ap (λ x. Some x) same
fault_known r g (Trace (trace.Line n)) is same = ap (λ o. option_map fault_of o) is ∙ ap (λ x. Some x) same
fault_known r g (Trace (trace.TooLong n)) is same = ap (λ o. option_map fault_of o) is ∙ ap (λ x. Some x) same
fault_known r g (Trace trace.CutOff) is same = ap (λ o. option_map fault_of o) is ∙ ap (λ x. Some x) same
fault_known r g (Trace trace.Read) is same = ap (λ o. option_map fault_of o) is ∙ ap (λ x. Some x) same
fault_known r g (Trace trace.Failed) is same = ap (λ o. option_map fault_of o) is ∙ ap (λ x. Some x) same
fault_known r g (Trace trace.Write) is same = ap (λ o. option_map fault_of o) is ∙ ap (λ x. Some x) same
fault_known r g (Earlier n) is same = ap (λ o. option_map fault_of o) is ∙ ap (λ x. Some x) same
fault_known r g (Momentless n) is same = ap (λ o. option_map fault_of o) is ∙ ap (λ x. Some x) same
fault_known r g TooMany is same = ap (λ o. option_map fault_of o) is ∙ ap (λ x. Some x) same

pub is_fault : (r : Reading) (g : said.MomentsFault) → r.fault ≡ Some g → IsFault r (fault_of g)
is_fault r g is = fault_known r g (fault_of g) is refl

-- a line behind the header says something
pub line_taken : (old new : Reader) (v : Version) (s : Said) → old.version ≡ Some v
    → IsPart old.part.items → line_says old.line old.last old.part.items ≡ Ok s
    → new.version ≡ Some v → new.line ≡ next_number old.line → new.part.items ≡ []
    → new.last ≡ s.last → new.seen.items ≡ old.seen.items ++ s.seen → (more : List ℕ)
    → rest_of old (10 ∷ more) ≡ rest_of new more
line_taken old new v s named part says version line empty last seen more =
    rw (named, version, line, empty, last, seen)
    (line_step v old.line old.last old.seen.items old.part.items more part
    ∙ rw says (said_step v old.line old.seen.items s (split_lines more)))

-- a line behind the header is at fault
pub line_faulty : (old : Reader) (v : Version) (g : said.MomentsFault) → old.version ≡ Some v
    → IsPart old.part.items → length old.seen.items ≤ seen_limit
    → line_says old.line old.last old.part.items ≡ Err g → (more : List ℕ)
    → (rest_of old (10 ∷ more)).fault ≡ Some g
line_faulty old v g named part few says more =
    rw named (ap (λ (r : Reading). r.fault)
    (line_step v old.line old.last old.seen.items old.part.items more part)
    ∙ rw says (fault_step v old.seen.items g few))

-- a line behind the header has an edge too many
pub line_many : (old : Reader) (v : Version) (s : Said) → old.version ≡ Some v
    → IsPart old.part.items → seen_limit ≤ length old.seen.items → 0 < length s.seen
    → line_says old.line old.last old.part.items ≡ Ok s → (more : List ℕ)
    → (rest_of old (10 ∷ more)).fault ≡ Some too_many
line_many old v s named part full some says more =
    rw named (ap (λ (r : Reading). r.fault)
    (line_step v old.line old.last old.seen.items old.part.items more part)
    ∙ rw says (many_step v old.seen.items s
    (λ m. read_seen (next_number old.line) m (split_lines more).0 (split_lines more).1) full some))

-- a line behind the header has an edge for which there is no room
line_lacking : (old : Reader) (v : Version) (s : Said) → old.version ≡ Some v
    → IsPart old.part.items → length old.seen.items < seen_limit → 0 < length s.seen
    → line_says old.line old.last old.part.items ≡ Ok s → (more : List ℕ)
    → LacksRoom (rest_of old (10 ∷ more)).seen
line_lacking old v s named part few some says more =
    rw named (subst (λ (r : Reading). LacksRoom r.seen)
    (sym (line_step v old.line old.last old.seen.items old.part.items more part))
    (rw says (lacks old.seen.items s.seen
    (read_seen (next_number old.line) s.last (split_lines more).0 (split_lines more).1).0 few some)))
  where
    lacks : (kept seen others : List Seen) → length kept < seen_limit → 0 < length seen
        → LacksRoom (kept ++ (seen ++ others))
    lacks kept [] others few some = absurd (omega arith)
    lacks kept (next ∷ seen) others few some =
        record { kept = kept; next = next; others = seen ++ others; are = refl; few = few }

-- ---- the header line

some_none : (v : Version) → (let o : Option Version = Some v in o ≡ None) → ⊥
some_none v h = cc

no_part : (part : List ℕ) → part ≡ [] → IsPart part
no_part [] h = record { one_line = tt; short = omega arith }
no_part (b ∷ part) h = absurd (some_bytes b part h)
  where
    some_bytes : (b : ℕ) (part : List ℕ) → (b ∷ part) ≡ [] → ⊥
    some_bytes b part h = cc

-- a reader behind the header stands well
named_sound : (new : Reader) (v : Version) → new.version ≡ Some v → new.part.items ≡ []
    → length new.seen.items ≤ seen_limit → IsSound new
named_sound new v named empty few = record {
  part = no_part new.part.items empty;
  few = few;
  first_line = λ h. absurd (some_none v (sym named ∙ h));
  first_last = λ h. absurd (some_none v (sym named ∙ h));
  first_seen = λ h. absurd (some_none v (sym named ∙ h));
}

pub header_sound : (old new : Reader) (v : Version) → IsSound old → new.part.items ≡ []
    → new.version ≡ Some v → new.seen.items ≡ old.seen.items → IsSound new
header_sound old new v sound empty named seen =
    named_sound new v named empty (subst (λ (l : List Seen). length l ≤ seen_limit) (sym seen) sound.few)

pub header_taken : (old new : Reader) (v : Version) → IsSound old → old.version ≡ None
    → version_of old.part.items ≡ Some v → new.part.items ≡ [] → new.version ≡ Some v
    → new.line ≡ next_number old.line → new.last ≡ old.last → new.seen.items ≡ old.seen.items
    → (more : List ℕ) → rest_of old (10 ∷ more) ≡ rest_of new more
header_taken old new v sound unnamed is empty named line last seen more =
    let one : new.line ≡ 2 = line ∙ ap next_number (sound.first_line unnamed) in
    let none : new.last ≡ None = last ∙ sound.first_last unnamed in
    let nothing : new.seen.items ≡ [] = seen ∙ sound.first_seen unnamed in
    rw (unnamed, named, one, none, nothing, empty)
    (header_step v old.line old.last old.seen.items old.part.items more sound.part is)

pub header_absent : (old : Reader) → IsSound old → old.version ≡ None
    → version_of old.part.items ≡ None → (more : List ℕ)
    → option_map fault_of (rest_of old (10 ∷ more)).fault ≡ Some (Trace trace.Header)
header_absent old sound unnamed is more =
    rw unnamed (ap (λ (o : Option said.MomentsFault). option_map fault_of o)
    (header_missed old.line old.last old.seen.items old.part.items more sound.part is))

-- ---- a line behind the header

some_version : (o : Option Version) → is_some o ≡ true → (v : Version) × (o ≡ Some v)
some_version None h = absurd (true_not h)
  where
    true_not : false ≡ true → ⊥
    true_not h = cc
some_version (Some v) h = (v, refl)

other_at : (old new : Reader) (v : Version) (r : Result Said said.MomentsFault) (f : MomentsFault)
    → IsSound old → old.version ≡ Some v → line_says old.line old.last old.part.items ≡ r
    → Says r old new (Err f) → (more : List ℕ) → IsFault (rest_of old (10 ∷ more)) f
other_at old new v (Ok s) f sound named is (some, inl lacks) more =
    subst (λ (g : MomentsFault). IsFault (rest_of old (10 ∷ more)) g) (sym lacks.0)
    (line_lacking old v s named sound.part lacks.1 some is more)
other_at old new v (Ok s) f sound named is (some, inr many) more =
    subst (λ (g : MomentsFault). IsFault (rest_of old (10 ∷ more)) g) (sym many.0)
    (is_fault (rest_of old (10 ∷ more)) too_many
    (line_many old v s named sound.part many.1 some is more))
other_at old new v (Err g) f sound named is same more =
    subst (λ (h : MomentsFault). IsFault (rest_of old (10 ∷ more)) h) same
    (is_fault (rest_of old (10 ∷ more)) g (line_faulty old v g named sound.part sound.few is more))

pub other_faulty : (old new : Reader) (f : MomentsFault) → IsSound old → is_some old.version ≡ true
    → Says (line_says old.line old.last old.part.items) old new (Err f)
    → (more : List ℕ) → IsFault (rest_of old (10 ∷ more)) f
other_faulty old new f sound some says =
    let v = some_version old.version some in
    other_at old new v.0 (line_says old.line old.last old.part.items) f sound v.1 refl says

other_on : (old mid new : Reader) (v : Version) (r : Result Said said.MomentsFault)
    → IsSound old → old.version ≡ Some v → line_says old.line old.last old.part.items ≡ r
    → Says r old mid (Ok tt) → new.part.items ≡ [] → new.version ≡ mid.version
    → new.line ≡ next_number mid.line → new.last ≡ mid.last → new.seen.items ≡ mid.seen.items
    → Takes old (10 ∷ []) new (Ok tt)
other_on old mid new v (Ok s) sound named is says empty version line last seen =
    let name : new.version ≡ Some v = version ∙ says.version ∙ named in (
      named_sound new v name empty
          (subst (λ (l : List Seen). length l ≤ seen_limit) (sym seen) (says.few sound.few)),
      λ more. line_taken old new v s named sound.part is name
          (line ∙ ap next_number says.line) empty (last ∙ says.last) (seen ∙ says.seen) more,
      start_over old new (10 ∷ []) v name,
    )
other_on old mid new v (Err g) sound named is says empty version line last seen = absurd says

pub other_taken : (old mid new : Reader) → IsSound old → is_some old.version ≡ true
    → Says (line_says old.line old.last old.part.items) old mid (Ok tt) → new.part.items ≡ []
    → new.version ≡ mid.version → new.line ≡ next_number mid.line → new.last ≡ mid.last
    → new.seen.items ≡ mid.seen.items → Takes old (10 ∷ []) new (Ok tt)
other_taken old mid new sound some says =
    let v = some_version old.version some in
    other_on old mid new v.0 (line_says old.line old.last old.part.items) sound v.1 refl says

-- ---- a byte

pub byte_sound : (old new : Reader) (b : ℕ) → IsSound old → (b ≡ 10 → ⊥)
    → new.version ≡ old.version → new.line ≡ old.line → new.last ≡ old.last
    → new.seen.items ≡ old.seen.items → new.part.items ≡ old.part.items ++ b ∷ []
    → length new.part.items ≤ 64 → IsSound new
byte_sound old new b sound other version line last seen part short = record {
  part = record {
    one_line = subst (λ (l : List ℕ). IsOneLine l) (sym part)
        (IsOneLine-append old.part.items (b ∷ []) sound.part.one_line (other, tt));
    short = short;
  };
  few = subst (λ (l : List Seen). length l ≤ seen_limit) (sym seen) sound.few;
  first_line = λ h. line ∙ sound.first_line (sym version ∙ h);
  first_last = λ h. last ∙ sound.first_last (sym version ∙ h);
  first_seen = λ h. seen ∙ sound.first_seen (sym version ∙ h);
}

pub byte_too_long : (old : Reader) (b : ℕ) → IsSound old → (b ≡ 10 → ⊥) → 64 ≤ length old.part.items
    → (more : List ℕ)
    → option_map fault_of (rest_of old (b ∷ more)).fault ≡ Some (Trace (trace.TooLong old.line))
byte_too_long old b sound other full more =
    ap (λ (o : Option said.MomentsFault). option_map fault_of o)
    (long_step old.version old.line old.last old.seen.items old.part.items more b sound.few
    sound.first_line sound.part.one_line other full)

-- ---- the end

pub ends_cut : (r : Reader) → IsSound r → 0 < length r.part.items
    → option_map fault_of (rest_of r []).fault ≡ Some (Trace trace.CutOff)
ends_cut r sound some =
    ap (λ (o : Option said.MomentsFault). option_map fault_of o)
    (end_cut r.version r.line r.last r.seen.items r.part.items sound.few sound.part some)

pub ends_whole : (r : Reader) (v : Version) → IsSound r → length r.part.items ≡ 0
    → r.version ≡ Some v → ((rest_of r []).version ≡ Some v)
    × ((rest_of r []).seen ≡ r.seen.items) × ((rest_of r []).fault ≡ None)
ends_whole r v sound none named =
    let whole : rest_of r [] ≡ record { version = Some v; seen = r.seen.items; fault = None } =
    rw (named, no_bytes r.part.items none) (end_whole v r.line r.last r.seen.items sound.few) in (
      ap (λ (x : Reading). x.version) whole,
      ap (λ (x : Reading). x.seen) whole,
      ap (λ (x : Reading). x.fault) whole,
    )

pub ends_absent : (r : Reader) → IsSound r → length r.part.items ≡ 0 → r.version ≡ None
    → option_map fault_of (rest_of r []).fault ≡ Some (Trace trace.Header)
ends_absent r sound none unnamed =
    rw (unnamed, no_bytes r.part.items none)
    (ap (λ (o : Option said.MomentsFault). option_map fault_of o)
    (end_absent r.line r.last r.seen.items))

-- ---- a piece

-- a piece that is read up to a byte
cut_piece : (piece : List ℕ) (i : ℕ) → i < length piece
    → piece ≡ take i piece ++ (get_or piece i 0 ∷ drop (i + 1) piece)
cut_piece [] i lt = absurd (omega arith)
cut_piece (b ∷ piece) zero lt = refl
cut_piece (b ∷ piece) (suc i) lt =
    rw (add-one (suc i)) (ap (λ l. b ∷ l) (cut_piece piece i (omega arith) ∙ rw (add-one i) refl))

-- one byte of a piece more is taken
pub piece_more : (old mid new : Reader) (piece : List ℕ) (i : ℕ) → i < length piece
    → Takes old (take i piece) mid (Ok tt) → Takes mid (get_or piece i 0 ∷ []) new (Ok tt)
    → Takes old (take (i + 1) piece) new (Ok tt)
piece_more old mid new piece i lt first then =
    subst (λ (l : List ℕ). Takes old l new (Ok tt)) (sym (take_more piece i 0 lt))
    (taken_more old mid new (take i piece) (get_or piece i 0 ∷ []) first then)

-- a byte of a piece is at fault
pub piece_faulty : (old mid : Reader) (piece : List ℕ) (i : ℕ) (f : MomentsFault)
    → i < length piece → Takes old (take i piece) mid (Ok tt)
    → ((more : List ℕ) → IsFault (rest_of mid (get_or piece i 0 ∷ more)) f)
    → (more : List ℕ) → IsFault (rest_of old (piece ++ more)) f
piece_faulty old mid piece i f lt first then more =
    let whole : piece ++ more ≡ take i piece ++ (get_or piece i 0 ∷ (drop (i + 1) piece ++ more)) =
    ap (λ (l : List ℕ). l ++ more) (cut_piece piece i lt)
    ∙ append_assoc (take i piece) (get_or piece i 0 ∷ drop (i + 1) piece) more in
    subst (λ (r : Reading). IsFault r f)
    (sym (ap (λ (l : List ℕ). rest_of old l) whole
    ∙ first.1 (get_or piece i 0 ∷ (drop (i + 1) piece ++ more))))
    (then (drop (i + 1) piece ++ more))

pub piece_whole : (old new : Reader) (piece : List ℕ) (i : ℕ) → length piece ≤ i
    → Takes old (take i piece) new (Ok tt) → Takes old piece new (Ok tt)
piece_whole old new piece i h taken =
    subst (λ (l : List ℕ). Takes old l new (Ok tt)) (take_all i piece h) taken
