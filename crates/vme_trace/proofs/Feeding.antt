-- A reader that is fed piece by piece.
use Rattle.std.proofs.Common.{◌≡◌, ◌≢◌, ℕ, ◌+◌, ◌<◌, ◌≤◌, List, [], ◌∷◌, ◌++◌, length, Bool, true, false, cond, Option, Some, None, is_some, Result, Ok, Err, refl, sym, ◌∙◌, ap, arith, append_assoc, append-nil}
use Rattle.std.proofs.lemmas.Option.{same_Some}
use Rattle.vme_model.specs.declared.signals.Version.{Version}
use Rattle.vme_model.specs.declared.signals.Edge.{Edge}
use Rattle.vme_model.specs.Text.{TextFault, no_header, cut_off, Reading, read_of}
use Rattle.vme_trace.specs.declared.Fault.{Fault}
use Rattle.vme_trace.specs.Reading.{Place, State, fault_of, answer_of, rest_of, with_edges, HasFault, HasRead, Stops, Fed}
use Rattle.vme_trace.specs.Taking.{IsOneLine, IsPart, place, Leads, Fails}
use Rattle.vme_trace.proofs.Lines.{faulty, settled, end_cut, end_absent, end_present, no_bytes}
use Rattle.vme_trace.proofs.Stepping.{behind_fault}

abbrev pub state : Option Version → Option Place → State
state v p = record { version = v; place = p }

-- what stands behind the bytes is the rest of all
made : (v : Option Version) (n : ℕ) (part bytes : List ℕ) (es : List Edge) → IsPart part
    → ((more : List ℕ) → read_of (bytes ++ more) ≡ with_edges es (rest_of v (place n part) more))
    → HasRead (state v (Some (place n part))) bytes es
made v n part bytes es h others =
    let now = settled v n part h in
    let whole : read_of bytes ≡ with_edges es (rest_of v (place n part) []) = ap read_of (sym (append-nil bytes)) ∙ others [] in
    record {
      place = place n part;
      stands = refl;
      version = ap (λ r. r.version) whole ∙ now.0;
      edges = ap (λ r. r.edges) whole ∙ ap (λ l. es ++ l) now.1 ∙ append-nil es;
      others = others;
    }

pub none_read : HasRead (state None (Some (place 1 []))) [] []
unfolding read_of
none_read = made None 1 [] [] [] (record { one_line = tt; short = omega arith }) (λ more. refl)

-- a reader that is not used up stands somewhere
pub standing : (v : Option Version) (p : Place) (used_up : Bool) (reader : State) (bytes : List ℕ) (es : List Edge)
    → state v (cond used_up None (Some p)) ≡ reader → used_up ≡ false → HasRead reader bytes es → HasRead (state v (Some p)) bytes es
standing v p used_up reader bytes es is not read = rw (sym is, not) at read

module _ (v : Option Version) (n : ℕ) (part bytes : List ℕ) (es : List Edge) (read : HasRead (state v (Some (place n part))) bytes es) where
  from_here : (more : List ℕ) → read_of (bytes ++ more) ≡ with_edges es (rest_of v (place n part) more)
  from_here more = read.others more ∙ ap (λ p. with_edges es (rest_of v p more)) (sym (same_Some _ _ read.stands))

  pub fed : (w : Option Version) (m : ℕ) (part' piece : List ℕ) (old new : List Edge) → IsPart part' → Leads v (place n part) piece old new w (place m part')
      → Fed (bytes ++ piece) es old new (state w (Some (place m part'))) (Ok tt)
  fed w m part' piece old new h leads = (
    leads.es,
    leads.appended,
    made w m part' (bytes ++ piece) (es ++ leads.es) h (λ more.
    ap read_of (append_assoc bytes piece more) ∙ from_here (piece ++ more) ∙ ap (with_edges es) (leads.others more)
    ∙ (let r = rest_of w (place m part') more in rw (append_assoc es leads.es r.edges) refl)),
  )

  pub fed_fault : (w : Option Version) (piece : List ℕ) (old new : List Edge) (f : Fault) → Fails v (place n part) piece old new w f
      → Fed (bytes ++ piece) es old new (state w None) (Err f)
  fed_fault w piece old new f fails = (
    fails.es,
    fails.appended,
    λ more.
        let same : read_of ((bytes ++ piece) ++ more) ≡ with_edges es (rest_of v (place n part) (piece ++ more)) = ap read_of (append_assoc bytes piece more) ∙ from_here (piece ++ more) in
        (refl, rw same (behind_fault (rest_of v (place n part) (piece ++ more)) w es fails.es f (fails.has_fault more))),
  )

  whole : read_of bytes ≡ with_edges es (rest_of v (place n part) [])
  whole = ap read_of (sym (append-nil bytes)) ∙ from_here []

  pub ends_cut : IsPart part → 0 < length part → (read_of bytes).fault ≡ Some cut_off
  ends_cut h some = ap (λ r. r.fault) (whole ∙ ap (with_edges es) (end_cut v n part h some))

module _ (v : Option Version) (n : ℕ) (part bytes : List ℕ) (es : List Edge) (none : length part ≡ 0) (read : HasRead (state v (Some (place n part))) bytes es) where
  nothing_left : read_of bytes ≡ with_edges es (rest_of v (place n []) [])
  nothing_left = whole v n part bytes es read ∙ ap (λ l. with_edges es (rest_of v (place n l) [])) (no_bytes part none)

  pub ends_none : is_some v ≡ false → (read_of bytes).fault ≡ Some no_header
  ends_none h = ap (λ r. r.fault) (nothing_left ∙ ap (with_edges es) (end_absent v n h))

  pub ends_whole : is_some v ≡ true → (read_of bytes).fault ≡ None
  ends_whole h = ap (λ r. r.fault) nothing_left ∙ end_present v n h
