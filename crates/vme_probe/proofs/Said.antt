-- What a capture says stands in lines without a fault.
use Rattle.std.proofs.Common.{◌≡◌, ◌∙◌, ◌++◌, ◌∷◌, [], ℕ, Bool, true, false, List, Option, Some, None, Result, Ok, Err, is_some, not, reverse, refl, sym, ap, subst, append_assoc, append-nil}
use Rattle.std.specs.Prelude.{◌&&◌, if◌then◌else◌, nat_lt, length, map}
use Rattle.std.specs.List.{list_all}
use Rattle.std.proofs.lemmas.Bool.{and_parts}
use Rattle.std.proofs.lemmas.List.{reverse-append, reverse-reverse}
use Rattle.vme_model.specs.declared.signals.Version.{Version}
use Rattle.vme_model.specs.Plan.{Plan}
use Rattle.vme_model.specs.Signals.{is_slot}
use Rattle.vme_model.specs.Text.{TextFault, cut_off, is_too_long, next_number, no_header, split_lines, too_long, version_of}
use Rattle.vme_captures.specs.declared.signals.Change.{Change}
use Rattle.vme_captures.specs.declared.signals.Entry.{Entry}
use Rattle.vme_captures.specs.declared.signals.Entry.TheVariants as entry
use Rattle.vme_captures.specs.declared.CaptureFault.{CaptureFault}
use Rattle.vme_captures.specs.declared.CaptureFault.TheVariants.{NoLine}
use Rattle.vme_captures.specs.declared.reader.Reader.{Reader}
use Rattle.vme_captures.specs.declared.signals.Pin.{Pin}
use Rattle.vme_captures.specs.Feeding.{HasRead, after, probe_of, rest_at}
use Rattle.vme_captures.specs.Reading.{Reading, before_others, behind_header, entry_says, fault_at, last_moment, line_says, may_stand, pins, read_entries, read_from_header, read_of, text_fault, unless_fault, unread}
use Rattle.vme_probe.specs.Ends.{are_slots}
use Rattle.vme_captures.specs.Spelling.{is_entry}
use Rattle.vme_captures.specs.Words.{entry_of}
use Rattle.vme_captures.proofs.Spelled.{entry_formed}

err_ok : {A B : Type 0} (f : B) (a : A) → ◌≡◌ {A = Result A B} (Err f) (Ok a) → ⊥
err_ok f a h = cc

same_Ok : {A B : Type 0} (a b : A) → ◌≡◌ {A = Result A B} (Ok a) (Ok b) → a ≡ b
same_Ok a b h = cc

one_none : (e : Entry) (said : List Entry) → e ∷ said ≡ [] → ⊥
one_none e said h = cc

no_fault : (n : ℕ) → ◌≡◌ {A = Option CaptureFault} (Some (NoLine n)) None → ⊥
no_fault n h = cc

all_and_one : {A : Type 0} (t : A → Bool) (xs : List A) (x : A) → list_all t xs ≡ true → t x ≡ true → list_all t (xs ++ x ∷ []) ≡ true
all_and_one t [] x h k = ap (λ b. b && true) k
all_and_one t (y ∷ xs) x h k =
    let parts = and_parts (t y) (list_all t xs) h in
    ap (λ b. b && list_all t (xs ++ x ∷ [])) parts.0 ∙ all_and_one t xs x parts.1 k

-- a line said it, behind what was said before
pub record SaidBy (p : Plan) (before : List Entry) (e : Entry) : Type 0 where
  pub n : ℕ
  pub line : List ℕ
  pub says : line_says p n before line ≡ Ok e

-- each of these was said behind those before it
abbrev pub AllSaid : Plan → List Entry → Type 0
AllSaid p [] = Unit {0}
AllSaid p (e ∷ said) = SaidBy p said e × AllSaid p said

pub onto : (e : Entry) (es said : List Entry) → reverse (e ∷ es) ++ said ≡ reverse es ++ (e ∷ said)
onto e es said = ap (λ (l : List Entry). l ++ said) (reverse-append (e ∷ []) es) ∙ append_assoc (reverse es) (e ∷ []) said

by_line : (p : Plan) (n : ℕ) (said : List Entry) (line : List ℕ) (o : Result Entry CaptureFault) (others : Entry → List Entry × Option CaptureFault) → line_says p n said line ≡ o → AllSaid p said
    → ((e : Entry) → AllSaid p (e ∷ said) → AllSaid p (reverse (others e).0 ++ (e ∷ said))) → AllSaid p (reverse (before_others o others).0 ++ said)
by_line p n said line (Err f) others is h more = h
by_line p n said line (Ok e) others is h more =
    subst (λ (l : List Entry). AllSaid p l) (sym (onto e (others e).0 said)) (more e (record { n = n; line = line; says = is }, h))

all_lines : (p : Plan) (n : ℕ) (said : List Entry) (lines : List (List ℕ)) (rest : List ℕ) → AllSaid p said
    → AllSaid p (reverse (read_entries p n said lines rest).0 ++ said)
unfolding read_entries
all_lines p n said [] rest h = h
all_lines p n said (line ∷ lines) rest h =
    by_line p n said line (line_says p n said line) (λ e. read_entries p (next_number n) (e ∷ said) lines rest) refl h
    (λ e k. all_lines p (next_number n) (e ∷ said) lines rest k)

pub later : (p : Plan) (es said : List Entry) → AllSaid p (es ++ said) → AllSaid p said
later p [] said h = h
later p (e ∷ es) said h = later p es said h.1

none_said : (p : Plan) (a b : Bool) (x y z : TextFault) → AllSaid p (reverse (if a then unread x else (if b then unread y else unread z)).entries)
none_said p true b x y z = tt
none_said p false true x y z = tt
none_said p false false x y z = tt

some_said : (p : Plan) (a : Bool) (o : Option Version) (found : List Entry × Option CaptureFault) (x : TextFault) → AllSaid p (reverse found.0)
    → AllSaid p (reverse (if a then unread x else behind_header o found).entries)
some_said p true o found x h = tt
some_said p false None found x h = tt
some_said p false (Some v) found x h = h

all_of_text : (p : Plan) (lines : List (List ℕ)) (rest : List ℕ) → AllSaid p (reverse (read_from_header p lines rest).entries)
all_of_text p [] rest = none_said p (is_too_long rest) (nat_lt 0 (length rest)) (too_long 1) cut_off no_header
all_of_text p (line ∷ lines) rest =
    some_said p (is_too_long line) (version_of line) (read_entries p 2 [] lines rest) (too_long 1)
    (subst (λ (l : List Entry). AllSaid p l) (append-nil (reverse (read_entries p 2 [] lines rest).0)) (all_lines p 2 [] lines rest tt))

pub all_said : (p : Plan) (bytes : List ℕ) → AllSaid p (reverse (read_of p bytes).entries)
unfolding read_of
all_said p bytes = all_of_text p (split_lines bytes).0 (split_lines bytes).1

-- ---- behind a reader

-- what follows these bytes says more, and the version stays
pub record Goes (p : Plan) (v : Version) (said : List Entry) (r : Reading) : Type 0 where
  pub named : r.version ≡ Some v
  pub others : List Entry
  pub are : r.entries ≡ reverse said ++ others

pub goes_on : (p : Plan) (r : Reader) (bytes : List ℕ) (said : List Entry) (v : Version) → HasRead p r bytes said → r.version ≡ Some v → (more : List ℕ)
    → Goes p v said (read_of p (bytes ++ more))
goes_on p r bytes said v read named more =
    let found : List Entry × Option CaptureFault =
    read_entries p r.line said (split_lines (r.part.items ++ more)).0 (split_lines (r.part.items ++ more)).1 in
    let is : read_of p (bytes ++ more) ≡ behind_header (Some v) (after said found) =
    read.others more ∙ ap (λ (o : Option Version). rest_at p o r.line said (split_lines (r.part.items ++ more))) named in
    record {
      named = ap (λ (x : Reading). x.version) is;
      others = found.0;
      are = ap (λ (x : Reading). x.entries) is;
    }

pub all_read : (p : Plan) (r : Reader) (bytes : List ℕ) (said : List Entry) (v : Version) → HasRead p r bytes said → r.version ≡ Some v → AllSaid p said
all_read p r bytes said v read named =
    let goes = goes_on p r bytes said v read named [] in
    let is : reverse (read_of p (bytes ++ [])).entries ≡ reverse goes.others ++ said =
    ap (λ (l : List Entry). reverse l) goes.are ∙ reverse-append (reverse said) goes.others
    ∙ ap (λ (l : List Entry). reverse goes.others ++ l) (reverse-reverse said) in
    later p (reverse goes.others) said (subst (λ (l : List Entry). AllSaid p l) is (all_said p (bytes ++ [])))

-- ---- a line without a fault

by_fault : (e d : Entry) (o : Option CaptureFault) → unless_fault d o ≡ Ok e → (d ≡ e) × (o ≡ None)
by_fault e d None h = (same_Ok d e h, refl)
by_fault e d (Some f) h = absurd (err_ok f e h)

by_entry : (p : Plan) (n : ℕ) (before : List Entry) (e : Entry) (o : Option Entry) → entry_says p n before o ≡ Ok e → (o ≡ Some e) × (fault_at p n before e ≡ None)
by_entry p n before e None h = absurd (err_ok (NoLine n) e h)
by_entry p n before e (Some d) h =
    let k = by_fault e d (fault_at p n before d) h in
    (ap (λ x. Some x) k.0, ap (λ x. fault_at p n before x) (sym k.0) ∙ k.1)

by_length : (p : Plan) (n : ℕ) (before : List Entry) (e : Entry) (line : List ℕ) (b : Bool)
    → (if b then Err (text_fault (too_long n)) else entry_says p n before (entry_of line)) ≡ Ok e
    → (entry_of line ≡ Some e) × (fault_at p n before e ≡ None)
by_length p n before e line true h = absurd (err_ok (text_fault (too_long n)) e h)
by_length p n before e line false h = by_entry p n before e (entry_of line) h

pub formed : (p : Plan) (before : List Entry) (e : Entry) → SaidBy p before e → is_entry e ≡ true
formed p before e s = entry_formed s.line e (by_length p s.n before e s.line (is_too_long s.line) s.says).0

-- it has no fault there
pub no_fault_at : (p : Plan) (before : List Entry) (e : Entry) (s : SaidBy p before e) → fault_at p s.n before e ≡ None
no_fault_at p before e s = (by_length p s.n before e s.line (is_too_long s.line) s.says).1

may : (p : Plan) (n : ℕ) (before : List Entry) (e : Entry) (b : Bool) → may_stand before e ≡ b → fault_at p n before e ≡ None → may_stand before e ≡ true
may p n before e true is h = is
may p n before e false is h = absurd (no_fault n (rw is at h))

pub said_stands : (p : Plan) (before : List Entry) (e : Entry) → SaidBy p before e → may_stand before e ≡ true
said_stands p before e s = may p s.n before e (may_stand before e) refl (by_length p s.n before e s.line (is_too_long s.line) s.says).1

-- ---- the pins that are probed

all_slots : (p : Plan) (said : List Entry) → AllSaid p said → list_all (λ q. is_slot q.slot) (pins said) ≡ true
all_slots p [] h = refl
all_slots p (entry.Pin q ∷ said) h = all_and_one (λ q. is_slot q.slot) (pins said) q (all_slots p said h.1) (formed p said (entry.Pin q) h.0)
all_slots p (entry.Running ∷ said) h = all_slots p said h.1
all_slots p (entry.Low x ∷ said) h = all_slots p said h.1
all_slots p (entry.Moment m ∷ said) h = all_slots p said h.1
all_slots p (entry.Change c ∷ said) h = all_slots p said h.1

probed_slots : (p : Plan) (said : List Entry) (qs : List Pin) → list_all (λ q. is_slot q.slot) qs ≡ true → are_slots (map (probe_of p said) qs) ≡ true
probed_slots p said [] h = refl
probed_slots p said (q ∷ qs) h =
    let k = and_parts (is_slot q.slot) (list_all (λ q. is_slot q.slot) qs) h in
    ap (λ b. b && are_slots (map (probe_of p said) qs)) k.0 ∙ probed_slots p said qs k.1

pub slots_read : (p : Plan) (r : Reader) (bytes : List ℕ) (said : List Entry) (v : Version) → HasRead p r bytes said → r.version ≡ Some v → are_slots r.probes.items ≡ true
slots_read p r bytes said v read named =
    ap are_slots read.keeps.probes ∙ probed_slots p said (pins said) (all_slots p said (all_read p r bytes said v read named))

by_version : (p : Plan) (r : Reader) (bytes : List ℕ) (said : List Entry) → HasRead p r bytes said → (o : Option Version) → r.version ≡ o → are_slots r.probes.items ≡ true
by_version p r bytes said read (Some v) is = slots_read p r bytes said v read is
by_version p r bytes said read None is =
    ap are_slots read.keeps.probes ∙ ap (λ (l : List Entry). are_slots (map (probe_of p l) (pins l))) (read.start is).1

pub all_slots_read : (p : Plan) (r : Reader) (bytes : List ℕ) (said : List Entry) → HasRead p r bytes said → are_slots r.probes.items ≡ true
all_slots_read p r bytes said read = by_version p r bytes said read r.version refl

-- an entry that was read is one, and the header line stands above it
pub entry_read : (p : Plan) (r : Reader) (bytes : List ℕ) (e : Entry) (said : List Entry) → HasRead p r bytes (e ∷ said) → (v : Version) × (r.version ≡ Some v)
entry_read p r bytes e said read = by_name r.version refl
  where
    by_name : (o : Option Version) → r.version ≡ o → (v : Version) × (r.version ≡ Some v)
    by_name (Some v) is = (v, is)
    by_name None is = absurd (one_none e said (read.start is).1)

pub entry_formed_there : (p : Plan) (r : Reader) (bytes : List ℕ) (e : Entry) (said : List Entry) → HasRead p r bytes (e ∷ said) → is_entry e ≡ true
entry_formed_there p r bytes e said read =
    let v = entry_read p r bytes e said read in formed p said e (all_read p r bytes (e ∷ said) v.0 read v.1).0
