-- A reader that is fed piece by piece.
use Rattle.std.proofs.Common.{◌≡◌, ◌≢◌, ℕ, ◌<◌, ◌≤◌, List, [], ◌++◌, length, Bool, true, false, cond, Option, Some, None, is_some, Result, Ok, Err, is_err, OnOk, IfOk, IfErr, subst, option_map, unwrap_or, take, length-take, refl, sym, ◌∙◌, ap, arith, append_assoc, append-nil, inr}
use Rattle.std.proofs.lemmas.Option.{same_Some}
use Rattle.std.specs.Option.{ok_or}
use Rattle.std.specs.Io.KnownBytes.{Consumes, IsAtEnd, Keeps}
use Rattle.vme_model.specs.declared.signals.Version.{Version}
use Rattle.vme_model.specs.declared.signals.Edge.{Edge}
use Rattle.vme_model.specs.Text.{TextFault, no_header, cut_off, read_of}
use Rattle.vme_trace.specs.declared.Fault.{Fault}
use Rattle.vme_trace.specs.declared.Fault.TheVariants.{Memory}
use Rattle.vme_trace.specs.Reading.{IsPart, Place, ReaderState, fault_of, answer_of, rest_of, with_edges, HasRead, Stops, Fed, Pumped}
use Rattle.vme_trace.specs.Pieces.{PumpedUpTo, ReadsUpTo}
use Rattle.vme_trace.specs.Taking.{place, Leads, Fails}
use Rattle.vme_trace.proofs.Lines.{true_false, settled, end_cut, end_absent, end_present, no_bytes}
use Rattle.vme_trace.proofs.ReaderSteps.{behind_fault}

abbrev pub state : Option Version → Option Place → ReaderState
state v p = record { version = v; place = p }

-- what stands after the bytes is the rest of all
made : (v : Option Version) (n : ℕ) (part bytes : List ℕ) (es : List Edge) → IsPart part
    → ((more : List ℕ) → read_of (bytes ++ more) ≡ with_edges es (rest_of v (place n part) more))
    → HasRead (state v (Some (place n part))) bytes es
made v n part bytes es h others =
    let now = settled v n part h in
    let whole : read_of bytes ≡ with_edges es (rest_of v (place n part) []) = ap read_of (sym (append-nil bytes)) ∙ others [] in
    record {
      place = place n part;
      stands = refl;
      part = h;
      version = ap (λ r. r.version) whole ∙ now.0;
      edges = ap (λ r. r.edges) whole ∙ ap (λ l. es ++ l) now.1 ∙ append-nil es;
      others = others;
    }

pub none_read : HasRead (state None (Some (place 1 []))) [] []
unfolding read_of
none_read = made None 1 [] [] [] (record { one_line = tt; short = omega arith }) (λ more. refl)

-- a reader that is not used up stands somewhere
pub standing : (v : Option Version) (p : Place) (used_up : Bool) (reader : ReaderState) (bytes : List ℕ) (es : List Edge)
    → state v (cond used_up None (Some p)) ≡ reader → used_up ≡ false → HasRead reader bytes es → HasRead (state v (Some p)) bytes es
standing v p used_up reader bytes es is not read = rw (sym is, not) at read

module _ (v : Option Version) (n : ℕ) (part bytes : List ℕ) (es : List Edge) (read : HasRead (state v (Some (place n part))) bytes es) where
  from_here : (more : List ℕ) → read_of (bytes ++ more) ≡ with_edges es (rest_of v (place n part) more)
  from_here more = read.others more ∙ ap (λ p. with_edges es (rest_of v p more)) (sym (same_Some _ _ read.stands))

  pub fed : (w : Option Version) (m : ℕ) (part' piece : List ℕ) (old new : List Edge) → IsPart part' → Leads v (place n part) piece old new w (place m part')
      → Fed (bytes ++ piece) es old new (state w (Some (place m part'))) (Ok tt)
  fed w m part' piece old new h leads = (
    leads.es,
    leads.appended,
    made w m part' (bytes ++ piece) (es ++ leads.es) h (λ more.
        ap read_of (append_assoc bytes piece more) ∙ from_here (piece ++ more) ∙ ap (with_edges es) (leads.others more)
        ∙ (let r = rest_of w (place m part') more in rw (append_assoc es leads.es r.edges) refl)),
  )

  pub fed_fault : (w : Option Version) (piece : List ℕ) (old new : List Edge) (f : Fault) → Fails v (place n part) piece old new w f
      → Fed (bytes ++ piece) es old new (state w None) (Err f)
  fed_fault w piece old new f fails = (
    fails.es,
    fails.appended,
    λ more.
        let same : read_of ((bytes ++ piece) ++ more) ≡ with_edges es (rest_of v (place n part) (piece ++ more)) = ap read_of (append_assoc bytes piece more) ∙ from_here (piece ++ more) in
        (refl, rw same (behind_fault (rest_of v (place n part) (piece ++ more)) w es fails.es f (fails.has_fault more))),
  )

  pub fed_ok_any : (w : Option Version) (m : ℕ) (part' piece : List ℕ) (old new : List Edge) (used_up : Bool) (r : Result (Unit {0}) Fault) → used_up ≡ false → is_err r ≡ false
      → IsPart part' → OnOk r (Leads v (place n part) piece old new w (place m part'))
      → Fed (bytes ++ piece) es old new (state w (cond used_up None (Some (place m part')))) r
  fed_ok_any w m part' piece old new used_up (Ok _) not ok h leads = rw not (fed w m part' piece old new h leads)
  fed_ok_any w m part' piece old new used_up (Err f) not ok h leads = absurd (true_false ok)

  pub fed_fault_any : (w : Option Version) (piece : List ℕ) (old new : List Edge) (r : Result (Unit {0}) Fault) → is_err r ≡ true
      → IfErr r (Fails v (place n part) piece old new w) → Fed (bytes ++ piece) es old new (state w None) r
  fed_fault_any w piece old new (Ok _) err fails = absurd (true_false (sym err))
  fed_fault_any w piece old new (Err f) err fails = fed_fault w piece old new f fails

  whole : read_of bytes ≡ with_edges es (rest_of v (place n part) [])
  whole = ap read_of (sym (append-nil bytes)) ∙ from_here []

  pub ends_cut : IsPart part → 0 < length part → (read_of bytes).fault ≡ Some cut_off
  ends_cut h some = ap (λ r. r.fault) (whole ∙ ap (with_edges es) (end_cut v n part h some))

module _ (v : Option Version) (n : ℕ) (part bytes : List ℕ) (es : List Edge) (none : length part ≡ 0) (read : HasRead (state v (Some (place n part))) bytes es) where
  nothing_left : read_of bytes ≡ with_edges es (rest_of v (place n []) [])
  nothing_left = whole v n part bytes es read ∙ ap (λ l. with_edges es (rest_of v (place n l) [])) (no_bytes part none)

  pub ends_none : is_some v ≡ false → (read_of bytes).fault ≡ Some no_header
  ends_none h = ap (λ r. r.fault) (nothing_left ∙ ap (with_edges es) (end_absent v n h))

  pub ends_whole : is_some v ≡ true → (read_of bytes).fault ≡ None
  ends_whole h = ap (λ r. r.fault) nothing_left ∙ end_present v n h

-- ---- a whole trace at once

module _ (bytes : List ℕ) (old new : List Edge) (reader : ReaderState) (f : Fault) (fed : Fed bytes [] old new reader (Err f)) where
  at_end : Stops reader (read_of bytes) fed.0 f
  at_end = let P : List ℕ → Type 0 = λ l. Stops reader (read_of l) fed.0 f in subst P (append-nil bytes) (fed.2 [])

  pub parsed_fault : f ≢ Memory → option_map fault_of (read_of bytes).fault ≡ Some f
  parsed_fault other = at_end.1.fault_is other

  pub parsed_edges : f ≢ Memory → new ≡ old ++ (read_of bytes).edges
  parsed_edges other = fed.1 ∙ ap (λ l. old ++ l) (sym (at_end.1.edges_are other))

  pub parsed_front : (front : List Edge) × (others : List Edge) × ((read_of bytes).edges ≡ front ++ others) × (new ≡ old ++ front)
  parsed_front = (fed.0, at_end.1.front.0, at_end.1.front.1, fed.1)

module _ (bytes : List ℕ) (old new : List Edge) (reader : ReaderState) (fed : Fed bytes [] old new reader (Ok tt)) where
  pub read_edges : new ≡ old ++ (read_of bytes).edges
  read_edges = fed.1 ∙ ap (λ l. old ++ l) (sym fed.2.edges)

  pub read_front : (front : List Edge) × (others : List Edge) × ((read_of bytes).edges ≡ front ++ others) × (new ≡ old ++ front)
  read_front = ((read_of bytes).edges, [], sym (append-nil (read_of bytes).edges), read_edges)

-- the version after the end
pub named_version : (v w : Option Version) (r : Result Version Fault) (f : Fault) → w ≡ v → r ≡ ok_or v f → IfOk r (λ x. w ≡ Some x)
named_version None w r f same is = rw is tt
named_version (Some x) w r f same is = rw is same

pub named_fault : (v : Option Version) (r : Result Version Fault) (f : Fault) (Q : Fault → Type 0) → is_some v ≡ true → r ≡ ok_or v f → IfErr r Q
named_fault None r f Q some is = absurd (true_false (sym some))
named_fault (Some x) r f Q some is = rw is tt

pub on_any : (r : Result Version Fault) (P : Type 0) → P → OnOk r P
on_any (Ok x) P h = h
on_any (Err f) P h = tt

-- the fault that the reader returns at the end of the input
same_fault : (t : TextFault) (f : Fault) → ◌≡◌ {A = Result (Unit {0}) Fault} (Err f) (Err (fault_of t)) → Some (fault_of t) ≡ Some f
same_fault t f h = let e : f ≡ fault_of t = cc in ap (λ x. Some x) (sym e)

pub answered : (o : Option TextFault) (f : Fault) → Err f ≡ answer_of o → option_map fault_of o ≡ Some f
answered None f h = absurd (let e : ⊥ = cc in e)
answered (Some t) f h = same_fault t f h

pub answered_none : (o : Option TextFault) → Ok tt ≡ answer_of o → o ≡ None
answered_none None h = refl
answered_none (Some t) h = absurd (let e : ⊥ = cc in e)

-- ---- one read

consumed_none : (a b : Option (List ℕ)) (buffer : List ℕ) (n : ℕ) → n ≡ 0 → Consumes a b (take n buffer) → Consumes a b []
consumed_none a b buffer n none h = rw none at h

no_rest : (to : Option (List ℕ)) → IsAtEnd to → unwrap_or to [] ≡ []
no_rest None h = refl
no_rest (Some xs) h = h

kept_none : (a b : Option (List ℕ)) → Consumes a b [] → Keeps a b
kept_none None b h = tt
kept_none (Some xs) None h = h
kept_none (Some xs) (Some ys) h = sym h

module _ (size : ℕ) (from to : Option (List ℕ)) (bytes : List ℕ) (es : List Edge) (buffer : List ℕ) (count : ℕ) (piece : ReadsUpTo size from to buffer count) (reader : ReaderState)
    (read : HasRead reader bytes es) where
  pub pumped_end : (old : List Edge) (after : ReaderState) (none : count ≡ 0) → Ok tt ≡ answer_of (read_of bytes).fault → after.place ≡ None → after.version ≡ reader.version
      → PumpedUpTo size from to bytes es old old after (Ok false)
  pumped_end old after none answer used_up same = (
    piece.2 none,
    kept_none from to (consumed_none from to buffer count none piece.1),
    refl,
    used_up,
    same ∙ sym read.version,
    answered_none (read_of bytes).fault answer,
  )

  pub pumped_end_fault : (old : List Edge) (after : ReaderState) (f : Fault) (none : count ≡ 0) → Err f ≡ answer_of (read_of bytes).fault → after.place ≡ None
      → after.version ≡ reader.version → PumpedUpTo size from to bytes es old old after (Err f)
  pumped_end_fault old after f none answer used_up same =
      let all : (bytes ++ []) ++ unwrap_or to [] ≡ bytes = ap (λ l. (bytes ++ []) ++ l) (no_rest to (piece.2 none)) ∙ append-nil (bytes ++ []) ∙ append-nil bytes in
      inr (
        [],
        [],
        omega arith,
        consumed_none from to buffer count none piece.1,
        sym (append-nil old),
        (
          used_up,
          rw all
              (record {
                version_is = read.version ∙ sym same;
                front = ([], read.edges ∙ sym (append-nil es) ∙ sym (append-nil (es ++ [])));
                edges_are = λ _. read.edges ∙ sym (append-nil es);
                fault_is = λ _. answered (read_of bytes).fault f answer;
              }),
        ),
      )

  short : length (take count buffer) ≤ size
  short = let h : count ≤ size = piece.0 in let k = length-take count buffer in omega (arith, k)

  pub pumped_fault : (old new : List Edge) (after : ReaderState) (f : Fault) → Fed (bytes ++ take count buffer) es old new after (Err f) → PumpedUpTo size from to bytes es old new after (Err f)
  pumped_fault old new after f given =
      inr (take count buffer, given.0, short, piece.1, given.1, given.2 (unwrap_or to []))

-- one read of up to 512 bytes
pub pumped : (from to : Option (List ℕ)) (bytes : List ℕ) (es old new : List Edge) (reader : ReaderState) (r : Result Bool Fault)
    → PumpedUpTo 512 from to bytes es old new reader r → Pumped from to bytes es old new reader r
pumped from to bytes es old new reader (Ok true) h = h
pumped from to bytes es old new reader (Ok false) h = h
pumped from to bytes es old new reader (Err f) h = h
