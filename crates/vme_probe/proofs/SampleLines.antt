-- What is written of a sample: `sampled`.
use Rattle.std.proofs.Common.{◌≡◌, ◌⊎◌, ◌∙◌, ◌<◌, ◌≤◌, ◌+◌, ◌-◌, ◌^◌, ◌++◌, ◌∷◌, [], ℕ, Bool, false, List, Option, Some, None, Result, Ok, Err, get_or, length, inl, inr, refl, sym, ap, subst, append-nil, append_assoc, arith, add-one}
use Rattle.std.specs.Prelude.{◌||◌}
use Rattle.std.specs.List.{slice_get}
use Rattle.std.proofs.lemmas.Bool.{cases_lt}
use Rattle.vme_model.specs.declared.signals.Version.{Version}
use Rattle.vme_model.specs.Plan.{Plan}
use Rattle.vme_standings.specs.declared.standings.Drivers.{Drivers}
use Rattle.vme_standings.specs.declared.standings.Probed.{Probed}
use Rattle.vme_standings.specs.declared.standings.Standings.{Standings}
use Rattle.vme_samples.specs.declared.makers.Makers.{Makers}
use Rattle.vme_samples.specs.declared.places.Places.{Places}
use Rattle.vme_samples.specs.declared.samples.SeenChange.{SeenChange}
use Rattle.vme_samples.specs.Makers.{by_at}
use Rattle.vme_samples.specs.Places.{has_place}
use Rattle.vme_samples.specs.Samples.{comes_next}
use Rattle.vme_samples.specs.Ways.{AreWays, Gathered, IsFurthest, Known as Ways, hidden_behind}
use Rattle.vme_trace.specs.declared.Fault.{Fault}
use Rattle.vme_reading.specs.declared.Status.{Status}
use Rattle.vme_probe.specs.declared.judging.Known.{Known}
use Rattle.vme_probe.specs.Lines.{change_line}
use Rattle.vme_probe.specs.Sampled.{AddsRefused, Refuses, all_places, placed_line, placed_lines}
use Rattle.vme_probe.specs.Steps.{ChangeTaken, IsOfChange, IsOfSample, SampleTaken, SeveralTaken}

-- the line of one change more
pub placed_more : (sample : List SeenChange) (set : Places) (makers : Makers) (n : ℕ) (s : SeenChange) (there : Bool) (d : Drivers) (old new : List ℕ) → slice_get sample n ≡ Some s
    → there ≡ has_place set n → d ≡ by_at makers n → old ≡ placed_lines sample set makers n → new ≡ old ++ placed_line (Some s) there d → new ≡ placed_lines sample set makers (n + 1)
placed_more sample set makers n s there d old new at is by so added =
    rw (add-one n) (added ∙ ap (λ (l : List ℕ). l ++ placed_line (Some s) there d) so
    ∙ ap (λ (o : Option SeenChange). placed_lines sample set makers n ++ placed_line o there d) (sym at)
    ∙ ap (λ b. placed_lines sample set makers n ++ placed_line (slice_get sample n) b d) is
    ∙ ap (λ (e : Drivers). placed_lines sample set makers n ++ placed_line (slice_get sample n) (has_place set n) e) by)

pub none_refused : (p : Plan) (v : Version) (hidden : Standings) (sample : List SeenChange) (set : Places) (old : List ℕ) → AddsRefused p v hidden sample set 0 old old false
none_refused p v hidden sample set old = record { text = []; added = sym (append-nil old); refuses = (refl, refl) }

-- what stands in the way of one change more
pub refused_more : (p : Plan) (v : Version) (hidden : Standings) (sample : List SeenChange) (set : Places) (n : ℕ) (s : SeenChange) (there here so_far ours : Bool) (first old new : List ℕ)
    → slice_get sample n ≡ Some s → there ≡ comes_next sample set n
    → AddsRefused p v hidden sample set n first old so_far → ((text : List ℕ) × (new ≡ old ++ text) × Refuses p v hidden (Some s) there text here) → ours ≡ (so_far || here)
    → AddsRefused p v hidden sample set (n + 1) first new ours
refused_more p v hidden sample set n s there here so_far ours first old new at is before one so = record {
  text = before.text ++ one.0;
  added = one.1 ∙ ap (λ (l : List ℕ). l ++ one.0) before.added ∙ append_assoc first before.text one.0;
  refuses = rw (add-one n) (
    before.text,
    one.0,
    so_far,
    here,
    before.refuses,
    subst (λ (o : Option SeenChange). Refuses p v hidden o (comes_next sample set n) one.0 here) (sym at)
        (subst (λ b. Refuses p v hidden (Some s) b one.0 here) is one.2),
    refl,
    so,
  );
}

-- something is known behind the furthest set
pub furthest_known : (p : Plan) (probed : Probed) (start : Standings) (sample : List SeenChange) (known : Ways) (set : Places) → AreWays p probed start sample known
    → IsFurthest known (length sample) set → (st : Standings) × (hidden_behind known set ≡ Some st)
furthest_known p probed start sample known set ways f = by_order (cases_lt 0 set.bits)
  where
    same_set : (a b : Places) → a.bits ≡ b.bits → a ≡ b
    same_set a b e = ap (λ (n : ℕ). let r : Places = record { bits = n } in r) e

    by_order : (0 < set.bits) ⊎ (set.bits ≤ 0) → (st : Standings) × (hidden_behind known set ≡ Some st)
    by_order (inl l) = f.reached l
    by_order (inr l) =
        let b = ways.begins in
        (b.0, ap (hidden_behind known) (same_set set (record { bits = 0 }) (omega (arith, l))) ∙ b.2)

-- ---- a sample that was judged

-- the first places are all of them
pub all_first : (sample : List SeenChange) (set : Places) → set.bits ≡ 2 ^ length sample - 1 → set ≡ all_places sample
all_first sample set e = ap (λ (n : ℕ). let r : Places = record { bits = n } in r) e

-- what is known behind them
pub gathered_all : (p : Plan) (probed : Probed) (sample : List SeenChange) (known : Ways) (set : Places) (o r : Option Standings) → set.bits ≡ 2 ^ length sample - 1 → o ≡ r
    → Gathered p probed sample known set (length sample) o → Gathered p probed sample known (all_places sample) (length sample) r
gathered_all p probed sample known set o r e is h =
    subst (λ (x : Option Standings). Gathered p probed sample known (all_places sample) (length sample) x) is
    (subst (λ (x : Places). Gathered p probed sample known x (length sample) o) (all_first sample set e) h)

-- a list of one
pub single : (sample : List SeenChange) (d : SeenChange) → 1 ≤ length sample → length sample < 2 → sample ≡ get_or sample 0 d ∷ []
single [] d some few = absurd (omega (arith, some))
single (s ∷ []) d some few = refl
single (s ∷ t ∷ others) d some few = absurd (omega (arith, few))

-- of one change the sample is that change
pub one_taken : (p : Plan) (sample : List SeenChange) (s : SeenChange) (old new : Known) (from to : Option (List ℕ)) (r : Result (Option Status) Fault) → sample ≡ s ∷ []
    → ChangeTaken p s.moment s.change old new from to r → SampleTaken p sample old new from to r
one_taken p sample s old new from to r is h = subst (λ (l : List SeenChange). SampleTaken p l old new from to r) (sym is) (by r h)
  where
    of_one : (text : List ℕ) → IsOfChange p old s.moment s.change text → IsOfSample p old (s ∷ []) text
    of_one text (inl x) = inl (x.0, (x.1, x.2, x.3))
    of_one text (inr x) = inr x

    by : (r : Result (Option Status) Fault) → ChangeTaken p s.moment s.change old new from to r → SampleTaken p (s ∷ []) old new from to r
    by (Ok None) x = (change_line s.moment s.change x.0, (x.0, x.1, refl), x.2)
    by (Ok (Some status)) x = x
    by (Err f) x = (x.0, x.1, of_one x.1 x.2, x.3)

pub several_taken : (p : Plan) (sample : List SeenChange) (old new : Known) (from to : Option (List ℕ)) (r : Result (Option Status) Fault) → 2 ≤ length sample → SeveralTaken p sample old new from to r
    → SampleTaken p sample old new from to r
several_taken p [] old new from to r some h = absurd (omega (arith, some))
several_taken p (s ∷ []) old new from to r some h = absurd (omega (arith, some))
several_taken p (s ∷ t ∷ others) old new from to (Ok None) some h = h
several_taken p (s ∷ t ∷ others) old new from to (Ok (Some status)) some h = h
several_taken p (s ∷ t ∷ others) old new from to (Err f) some h = h
