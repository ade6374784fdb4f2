-- The lines of a piece that are read in place.
use Rattle.std.proofs.Common.{◌≡◌, ◌<◌, ◌+◌, ◌-◌, ◌^◌, min, zero, suc, append_assoc, append-nil, All, sym, ◌∙◌, ℕ, Bool, true, cond, List, [], ◌∷◌, ◌++◌, length, Option, Some, None, is_some, subst, refl, ap, arith, length-append}
use Rattle.vme_model.specs.declared.signals.Version.{Version}
use Rattle.vme_model.specs.declared.signals.Edge.{Edge}
use Rattle.vme_model.specs.Signals.{is_well_formed}
use Rattle.vme_model.specs.Text.{spelling, next_number, edge_lines}
use Rattle.vme_trace.specs.declared.Fault.{Fault}
use Rattle.vme_trace.specs.declared.Fault.TheVariants.{Memory}
use Rattle.vme_trace.specs.Reading.{Place, rest_of, with_edges}
use Rattle.vme_trace.specs.Taking.{place, Leads, Fails, HasLines, number_after}
use Rattle.vme_trace.proofs.KnownLines.{IsFormed}
use Rattle.std.proofs.lemmas.List.Elements.{All-head, All-tail}
use Rattle.vme_trace.proofs.OneSpelling.{spelled, spelling_fits}
use Rattle.vme_trace.proofs.ReaderSteps.{Taken, taken_more, taken_fault, nowhere, joined, edge_read}

pub version_known : (o : Option Version) → is_some o ≡ true → (v : Version) × (o ≡ Some v)
version_known None h = absurd (let P : Bool → Type 0 = λ b. cond b ⊥ (Unit {0}) in subst P h tt)
version_known (Some v) h = (v, refl)

module _ (v : Version) (n : ℕ) (e : Edge) (es : List Edge) (formed : is_well_formed e ≡ true) where
  line_read : Leads (Some v) (place n []) (spelling e ++ 10 ∷ []) es (es ++ e ∷ []) (Some v) (place (next_number n) [])
  line_read = let fit = spelling_fits e formed in edge_read n (spelling e) fit.0 fit.1 (Some v) v es refl e (spelled (spelling e) e (formed, refl))

number_after_is : (n k : ℕ) → n < 2 ^ 64 → number_after n k ≡ min (n + k) (2 ^ 64 - 1)
number_after_is n zero small = omega arith
number_after_is n (suc k) small = let next = number_after_is (next_number n) k (omega arith) in omega (arith, next)

lines_lead : (v : Version) (n : ℕ) (es old : List Edge) → All IsFormed es
    → Leads (Some v) (place n []) (edge_lines es) old (old ++ es) (Some v) (place (number_after n (length es)) [])
lines_lead v n [] old formed = rw (append-nil old) (nowhere (Some v) (place n []) old)
lines_lead v n (e ∷ es) old formed =
    let first = line_read v n e old (All-head IsFormed e es formed) in
    let others = lines_lead v (next_number n) es (old ++ e ∷ []) (All-tail IsFormed e es formed) in
    rw (sym (append_assoc old (e ∷ []) es)) (joined _ _ _ _ _ _ (spelling e ++ 10 ∷ []) (edge_lines es) old _ _ first others)

module _ (v : Version) (n : ℕ) (piece rest : List ℕ) (old new : List Edge) (lines : HasLines piece rest old new) where
  lead : (m : ℕ) → m ≡ number_after n (length lines.es) → Leads (Some v) (place n []) (edge_lines lines.es) old new (Some v) (place m [])
  lead m is = rw (is, lines.appended) (lines_lead v n lines.es old lines.formed)

  -- the lines were read
  pub lines_read : (m : ℕ) → n < 2 ^ 64 → m ≡ min (n + (length new - length old)) (2 ^ 64 - 1)
      → (taken : List ℕ) × (piece ≡ taken ++ rest) × Leads (Some v) (place n []) taken old new (Some v) (place m [])
  lines_read m small is =
      let all = ap length lines.appended ∙ length-append old lines.es in
      let number = number_after_is n (length lines.es) small in
      (edge_lines lines.es, lines.is, lead m (omega (arith, all, number)))

  -- after them there was no memory for one more edge
  pub lines_lost : (fault : Fault) → fault ≡ Memory → Fails (Some v) (place n []) piece old new (Some v) fault
  lines_lost fault is =
      let m = number_after n (length lines.es) in
      let read = lead m refl in
      let whole : (more : List ℕ) → rest_of (Some v) (place n []) (piece ++ more) ≡ with_edges read.es (rest_of (Some v) (place m []) (rest ++ more)) =
      λ more. ap (λ l. rest_of (Some v) (place n []) (l ++ more)) lines.is
      ∙ ap (rest_of (Some v) (place n [])) (append_assoc (edge_lines lines.es) rest more) ∙ read.others (rest ++ more) in
      record {
        es = read.es;
        appended = read.appended;
        has_fault = λ more.
            rw (whole more, is)
            (record {
              version_is = refl;
              front = ((rest_of (Some v) (place m []) (rest ++ more)).edges, refl);
              edges_are = λ other. absurd (other refl);
              fault_is = λ other. absurd (other refl);
            });
      }

leads_at : (w : Option Version) (v : Version) (n m : ℕ) (part taken : List ℕ) (old new : List Edge) → w ≡ Some v → part ≡ []
    → Leads (Some v) (place n []) taken old new (Some v) (place m []) → Leads w (place n part) taken old new w (place m part)
leads_at w v n m part taken old new is none h = rw (is, none) h

fails_at : (w : Option Version) (v : Version) (n : ℕ) (part rest : List ℕ) (old new : List Edge) (f : Fault) → w ≡ Some v → part ≡ []
    → Fails (Some v) (place n []) rest old new (Some v) f → Fails w (place n part) rest old new w f
fails_at w v n part rest old new f is none h = rw (is, none) h

-- If the version is known and no line has begun, lines at the front of the rest were read.
module _ (v w : Option Version) (p : Place) (n : ℕ) (part piece rest : List ℕ) (old mid new : List Edge) (so_far : Taken v p piece rest old mid w (place n part))
    (known : is_some w ≡ true) (none : part ≡ []) where
  pub lines_taken : (m : ℕ) (rest' : List ℕ) → ((version : Version) → (taken : List ℕ) × (rest ≡ taken ++ rest')
      × Leads (Some version) (place n []) taken mid new (Some version) (place m [])) → Taken v p piece rest' old new w (place m part)
  lines_taken m rest' read =
      let k = version_known w known in
      let h = read k.0 in
      taken_more _ _ _ _ _ _ piece rest h.0 rest' old mid new so_far h.1 (leads_at w k.0 n m part h.0 mid new k.1 none h.2)

  pub lines_faulty : (f : Fault) → ((version : Version) → Fails (Some version) (place n []) rest mid new (Some version) f) → Fails v p piece old new w f
  lines_faulty f read =
      let k = version_known w known in
      taken_fault _ _ _ _ _ piece rest old mid new f so_far (fails_at w k.0 n part rest mid new f k.1 none (read k.0))
