-- Steps of a reader, one after another.
use Rattle.std.proofs.Common.{◌≡◌, ℕ, ◌<◌, ◌≤◌, List, [], ◌∷◌, ◌++◌, length, Option, Some, None, Result, Ok, Err, OnOk, IfErr, refl, sym, ◌∙◌, ap, append_assoc, append-nil}
use Rattle.vme_model.specs.declared.signals.Version.{Version}
use Rattle.vme_model.specs.declared.signals.Edge.{Edge}
use Rattle.vme_model.specs.Text.{TextFault, no_header, no_edge, too_long, Reading, split_lines, next_number, read_lines, version_of, edge_of}
use Rattle.vme_trace.specs.declared.Fault.{Fault}
use Rattle.vme_trace.specs.declared.Fault.TheVariants.{Header, Line, TooLong, Memory}
use Rattle.vme_trace.specs.Reading.{IsOneLine, Place, fault_of, rest_of, with_edges, HasFaultAfter}
use Rattle.vme_trace.specs.Taking.{place, Leads, Fails}
use Rattle.vme_trace.proofs.Lines.{faulty, whole_line, long_front, rest_part}

pub on_ok_map : {A E : Type 0} (r : Result A E) (P Q : Type 0) → (P → Q) → OnOk r P → OnOk r Q
on_ok_map (Ok a) P Q f h = f h
on_ok_map (Err e) P Q f h = tt

pub if_err_map : {A E : Type 0} (r : Result A E) (P Q : E → Type 0) → ((e : E) → P e → Q e) → IfErr r P → IfErr r Q
if_err_map (Ok a) P Q f h = tt
if_err_map (Err e) P Q f h = f e h

-- a trace with a fault and no edge before it
pub has_fault : (r : Reading) (v : Option Version) (t : TextFault) → r ≡ faulty v t → HasFaultAfter r v [] (fault_of t)
has_fault r v t h = rw h (record { version_is = refl; front = ([], refl); edges_are = λ _. refl; fault_is = λ _. refl })

-- a fault after these edges is a fault after other edges and these
pub behind_fault : (r : Reading) (v : Option Version) (es fs : List Edge) (f : Fault) → HasFaultAfter r v fs f → HasFaultAfter (with_edges es r) v (es ++ fs) f
behind_fault r v es fs f h = record {
  version_is = h.version_is;
  front = (h.front.0, ap (λ l. es ++ l) h.front.1 ∙ sym (append_assoc es fs h.front.0));
  edges_are = λ other. ap (λ l. es ++ l) (h.edges_are other);
  fault_is = h.fault_is;
}

with_both : (es fs : List Edge) (r : Reading) → with_edges es (with_edges fs r) ≡ with_edges (es ++ fs) r
with_both es fs r = rw (append_assoc es fs r.edges) refl

pub joined : (v w x : Option Version) (p q r : Place) (a b : List ℕ) (old mid new : List Edge) → Leads v p a old mid w q → Leads w q b mid new x r
    → Leads v p (a ++ b) old new x r
joined v w x p q r a b old mid new h k = record {
  es = h.es ++ k.es;
  appended = k.appended ∙ ap (λ l. l ++ k.es) h.appended ∙ append_assoc old h.es k.es;
  others = λ more.
      ap (rest_of v p) (append_assoc a b more) ∙ h.others (b ++ more) ∙ ap (with_edges h.es) (k.others more)
      ∙ with_both h.es k.es (rest_of x r more);
}

pub joined_fault : (v w x : Option Version) (p q : Place) (a b : List ℕ) (old mid new : List Edge) (f : Fault) → Leads v p a old mid w q → Fails w q b mid new x f
    → Fails v p (a ++ b) old new x f
joined_fault v w x p q a b old mid new f h k = record {
  es = h.es ++ k.es;
  appended = k.appended ∙ ap (λ l. l ++ k.es) h.appended ∙ append_assoc old h.es k.es;
  has_fault = λ more.
      let same : rest_of v p ((a ++ b) ++ more) ≡ with_edges h.es (rest_of w q (b ++ more)) = ap (rest_of v p) (append_assoc a b more) ∙ h.others (b ++ more) in
      rw same (behind_fault (rest_of w q (b ++ more)) x h.es k.es f (k.has_fault more));
}

with_none : (r : Reading) → with_edges [] r ≡ r
with_none r = refl

-- no byte
pub nowhere : (v : Option Version) (p : Place) (es : List Edge) → Leads v p [] es es v p
nowhere v p es = record { es = []; appended = sym (append-nil es); others = λ more. sym (with_none (rest_of v p more)) }

-- bytes that stay in the part
pub kept : (v : Option Version) (n : ℕ) (part piece new : List ℕ) (es : List Edge) → new ≡ part ++ piece → Leads v (place n part) piece es es v (place n new)
kept v n part piece new es is = record {
  es = [];
  appended = sym (append-nil es);
  others = λ more.
      rest_part v n part (piece ++ more) ∙ ap (rest_of v (place n [])) (sym (append_assoc part piece more)) ∙ ap (λ l. rest_of v (place n []) (l ++ more)) (sym is)
      ∙ sym (rest_part v n new more);
}

-- a line whose front is kept
part_line : (v : Option Version) (n : ℕ) (part tail line more : List ℕ) → line ≡ part ++ tail
    → rest_of v (place n part) ((tail ++ 10 ∷ []) ++ more) ≡ rest_of v (place n []) ((line ++ 10 ∷ []) ++ more)
part_line v n part tail line more is =
    let same : part ++ ((tail ++ 10 ∷ []) ++ more) ≡ ((part ++ tail) ++ 10 ∷ []) ++ more = simp append_assoc refl in
    rest_part v n part ((tail ++ 10 ∷ []) ++ more) ∙ ap (rest_of v (place n [])) same
    ∙ ap (λ l. rest_of v (place n []) ((l ++ 10 ∷ []) ++ more)) (sym is)

pub from_part : (v w : Option Version) (n : ℕ) (part tail line : List ℕ) (old new : List Edge) (q : Place) → line ≡ part ++ tail
    → Leads v (place n []) (line ++ 10 ∷ []) old new w q → Leads v (place n part) (tail ++ 10 ∷ []) old new w q
from_part v w n part tail line old new q is h = record {
  es = h.es;
  appended = h.appended;
  others = λ more. part_line v n part tail line more is ∙ h.others more;
}

pub from_part_fault : (v w : Option Version) (n : ℕ) (part tail line : List ℕ) (old new : List Edge) (f : Fault) → line ≡ part ++ tail
    → Fails v (place n []) (line ++ 10 ∷ []) old new w f → Fails v (place n part) (tail ++ 10 ∷ []) old new w f
from_part_fault v w n part tail line old new f is h = record {
  es = h.es;
  appended = h.appended;
  has_fault = λ more. rw (part_line v n part tail line more is) (h.has_fault more);
}

-- a fault in a prefix of the bytes
pub fault_within : (v w : Option Version) (p : Place) (a b : List ℕ) (old new : List Edge) (f : Fault) → Fails v p a old new w f → Fails v p (a ++ b) old new w f
fault_within v w p a b old new f h = record {
  es = h.es;
  appended = h.appended;
  has_fault = λ more. rw (append_assoc a b more) (h.has_fault (b ++ more));
}

pub fault_before : (v w : Option Version) (p : Place) (a b piece : List ℕ) (old new : List Edge) (f : Fault) → piece ≡ a ++ b → Fails v p a old new w f
    → Fails v p piece old new w f
fault_before v w p a b piece old new f is h = rw is (fault_within v w p a b old new f h)

-- over 64 bytes with no line feed
pub too_long_at : (v : Option Version) (n : ℕ) (part x front piece : List ℕ) (es : List Edge) → IsOneLine (part ++ x) → 64 < length (part ++ x) → piece ≡ x ++ front
    → Fails v (place n part) piece es es v (TooLong n)
too_long_at v n part x front piece es one h is = record {
  es = [];
  appended = sym (append-nil es);
  has_fault = λ more.
      let same : part ++ (piece ++ more) ≡ (part ++ x) ++ (front ++ more) = rw is (simp append_assoc refl) in
      has_fault _ v (too_long n)
      (rest_part v n part (piece ++ more) ∙ ap (rest_of v (place n [])) same ∙ long_front v n (part ++ x) (front ++ more) one h);
}

module _ (n : ℕ) (line : List ℕ) (one : IsOneLine line) (short : length line ≤ 64) where
  pub header_read : (w : Option Version) (v : Version) (es : List Edge) → w ≡ None → version_of line ≡ Some v
      → Leads w (place n []) (line ++ 10 ∷ []) es es (Some v) (place (next_number n) [])
  header_read w v es none h = record {
    es = [];
    appended = sym (append-nil es);
    others = λ more. rw none (whole_line None n line more one short ∙ rw h refl);
  }

  pub header_refused : (w : Option Version) (es : List Edge) → w ≡ None → version_of line ≡ None → Fails w (place n []) (line ++ 10 ∷ []) es es w Header
  header_refused w es none h = record {
    es = [];
    appended = sym (append-nil es);
    has_fault = λ more. rw none (has_fault _ None no_header (whole_line None n line more one short ∙ rw h refl));
  }

  module _ (w : Option Version) (v : Version) (es : List Edge) (is : w ≡ Some v) where
    pub edge_read : (e : Edge) → edge_of line ≡ Some e
        → Leads w (place n []) (line ++ 10 ∷ []) es (es ++ e ∷ []) w (place (next_number n) [])
    edge_read e h = record {
      es = e ∷ [];
      appended = refl;
      others = λ more. rw is (whole_line (Some v) n line more one short ∙ rw h refl);
    }

    pub edge_refused : edge_of line ≡ None → Fails w (place n []) (line ++ 10 ∷ []) es es w (Line n)
    edge_refused h = record {
      es = [];
      appended = sym (append-nil es);
      has_fault = λ more. rw is (has_fault _ (Some v) (no_edge n) (whole_line (Some v) n line more one short ∙ rw h refl));
    }

    -- no memory for the edge
    pub edge_lost : (e : Edge) → edge_of line ≡ Some e → Fails w (place n []) (line ++ 10 ∷ []) es es w Memory
    edge_lost e h = record {
      es = [];
      appended = sym (append-nil es);
      has_fault = λ more.
          rw is
          (rw (whole_line (Some v) n line more one short, h)
          (record {
            version_is = refl;
            front = (e ∷ (read_lines (next_number n) (split_lines more).0 (split_lines more).1).0, refl);
            edges_are = λ other. absurd (other refl);
            fault_is = λ other. absurd (other refl);
          }));
    }

-- the first bytes of a piece were taken, and the rest is left
pub record Taken (v : Option Version) (p : Place) (piece rest : List ℕ) (old new : List Edge) (w : Option Version) (q : Place) : Type 0 where
  pub taken : List ℕ
  pub is : piece ≡ taken ++ rest
  pub leads : Leads v p taken old new w q

pub taken_none : (v : Option Version) (p : Place) (piece : List ℕ) (es : List Edge) → Taken v p piece piece es es v p
taken_none v p piece es = record { taken = []; is = refl; leads = nowhere v p es }

pub taken_more : (v w x : Option Version) (p q r : Place) (piece rest front rest' : List ℕ) (old mid new : List Edge) → Taken v p piece rest old mid w q
    → rest ≡ front ++ rest' → Leads w q front mid new x r → Taken v p piece rest' old new x r
taken_more v w x p q r piece rest front rest' old mid new h is leads = record {
  taken = h.taken ++ front;
  is = h.is ∙ ap (λ l. h.taken ++ l) is ∙ sym (append_assoc h.taken front rest');
  leads = joined v w x p q r h.taken front old mid new h.leads leads;
}

pub taken_all : (v w : Option Version) (p q : Place) (piece rest : List ℕ) (old new : List Edge) → Taken v p piece rest old new w q → rest ≡ []
    → Leads v p piece old new w q
taken_all v w p q piece rest old new h none =
    let whole : h.taken ≡ piece = sym (h.is ∙ ap (λ l. h.taken ++ l) none ∙ append-nil h.taken) in
    rw whole at h.leads

pub taken_fault : (v w x : Option Version) (p q : Place) (piece rest : List ℕ) (old mid new : List Edge) (f : Fault) → Taken v p piece rest old mid w q
    → Fails w q rest mid new x f → Fails v p piece old new x f
taken_fault v w x p q piece rest old mid new f h fails =
    let whole = joined_fault v w x p q h.taken rest old mid new f h.leads fails in
    rw (sym h.is) at whole
