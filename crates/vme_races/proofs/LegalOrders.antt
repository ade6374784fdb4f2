-- What the trace of the other order of a race is.
use Rattle.std.proofs.Common.{◌≡◌, ◌≢◌, ◌==◌, ◌<◌, ◌≤◌, ◌++◌, ◌∷◌, [], ℕ, Bool, true, false, List, None, Ok, Err, All, IsTrue, is_ok, length, reverse, if◌then◌else◌, refl, sym, ◌∙◌, ap, subst, arith, append-nil, ne_eqb}
use Rattle.std.specs.Prelude.{not}
use mathlib.Core.List.{reverse-cons, reverse-reverse}
use Rattle.std.proofs.lemmas.Bool.Decides.{nat_tests}
use Rattle.std.proofs.lemmas.List.{length-append, map-append}
use Rattle.std.proofs.lemmas.List.Elements.{All-push}
use Rattle.vme_model.specs.declared.refusals.Refused.TheVariants.{NoSuchDriver, TraceFull}
use Rattle.vme_model.specs.declared.signals.Edge.{Edge}
use Rattle.vme_model.specs.declared.signals.Version.{Version}
use Rattle.vme_model.specs.Accepted.{IsAccepted}
use Rattle.vme_model.specs.History.{in_order}
use Rattle.vme_model.specs.Numbered.{Numbered, edges_in}
use Rattle.vme_model.specs.Plan.{Plan, has_driver}
use Rattle.vme_model.specs.Report.{trace_limit}
use Rattle.vme_model.specs.Signals.{is_well_formed}
use Rattle.vme_model.specs.Text.{read_of, text}
use Rattle.vme_model.specs.Guards.{holds}
use Rattle.vme_model.specs.Verdict.{IsLegal, Judgement, State, after, check, kept, made, room_guard, verdict, verdict_but_full}
use Rattle.vme_model.proofs.AllowedEdges.{checked}
use Rattle.vme_model.proofs.Bools.{and_left}
use Rattle.vme_histories.proofs.Judged as judging
use Rattle.vme_trace.specs.Texts.{whole}
use Rattle.vme_trace.proofs.ReadBack.{text_read}
use Rattle.vme_reading.specs.LegalTraces.{IsLegalTrace}
use Rattle.vme_reading.specs.Refusals.{first_refusal}
use Rattle.vme_reading.specs.Outcomes.{bench}
use Rattle.vme_reading.proofs.FirstRefusals.{all_kept}
use Rattle.vme_reading.proofs.KeptEdges.{edges_on}
use Rattle.vme_reading.proofs.LegalTrace.{all_well_formed, legal_trace}
use Rattle.vme_swaps.specs.declared.stops.Stop.{Stop}
use Rattle.vme_swaps.specs.declared.stops.Stop.TheVariants.{Races}
use Rattle.vme_races.specs.Other.{IsLegalButLast, IsOtherOrder}
use Rattle.vme_races.specs.Walks.{Stops}
use Rattle.vme_races.proofs.TakenIn.{kept_legal, ok_by}

-- ---- what is kept fits

room_by : (t : Bool) → is_ok (check t TraceFull (Ok tt)) ≡ true → t ≡ true
room_by true ok = refl
room_by false ok = absurd (cc)

not_full : (n m : ℕ) → not (n == m) ≡ true → n ≢ m
not_full n m h = grind (arith, nat_tests)

-- an accepted edge found room
has_room : (b : State) (e : Edge) → is_ok (verdict b e) ≡ true → length b.history ≢ b.max
has_room b e ok =
    not_full (length b.history) b.max
    (room_by (holds (room_guard b))
    (ap is_ok (sym (judging.passed b.version b.plan b.history e
    (check (holds (room_guard b)) TraceFull (Ok tt))
    (ok_by b.version b.plan b.history e _ (verdict_but_full b.version b.plan b.history e) refl ok)))
    ∙ ok))

fits_by : (max : ℕ) (b : State) (e : Edge) → b.max ≡ max → length b.history ≤ max
    → (t : Bool) → is_ok (verdict b e) ≡ t → length (if t then made b e else b).history ≤ max
fits_by max b e same fits true ok = let other = has_room b e ok in omega (arith, other, same, fits)
fits_by max b e same fits false ok = fits

max_by : (b : State) (e : Edge) (t : Bool) → (if t then made b e else b).max ≡ b.max
max_by b e true = refl
max_by b e false = refl

kept_max : (b : State) (es : List Edge) → (kept b es).max ≡ b.max
kept_max b [] = refl
kept_max b (e ∷ es) = kept_max (after b e) es ∙ max_by b e (is_ok (verdict b e))

kept_fits : (max : ℕ) (b : State) (es : List Edge) → b.max ≡ max → length b.history ≤ max
    → length (kept b es).history ≤ max
kept_fits max b [] same fits = fits
kept_fits max b (e ∷ es) same fits =
    kept_fits max (after b e) es (max_by b e (is_ok (verdict b e)) ∙ same)
    (fits_by max b e same fits (is_ok (verdict b e)) refl)

legal_behind : (v : Version) (p : Plan) (newer h : List Edge) → IsLegal v p (newer ++ h)
    → IsLegal v p h
legal_behind v p [] h legal = legal
legal_behind v p (e ∷ newer) h legal = legal_behind v p newer h legal.1

-- ---- an edge behind a legal list with room

answered_by : (v : Version) (p : Plan) (h : List Edge) (e : Edge) (j : Judgement)
    → verdict_but_full v p h e ≡ j → length h ≢ trace_limit
    → verdict (record (bench p v) { history = h }) e ≡ j
answered_by v p h e (Ok u) is room =
    let free : (length h == trace_limit) ≡ false = ne_eqb (length h) trace_limit room in
    rw free is
answered_by v p h e (Err r) is room =
    judging.refused v p h e r (check (holds (room_guard (record (bench p v) { history = h }))) TraceFull (Ok tt)) is

kept_is : (p : Plan) (v : Version) (h : List Edge) → first_refusal 1 (bench p v) (reverse h) ≡ None
    → kept (bench p v) (reverse h) ≡ record (bench p v) { history = h }
kept_is p v h none =
    all_kept 1 (bench p v) (reverse h) none
    ∙ ap (λ l. record (bench p v) { history = l }) (append-nil (reverse (reverse h)) ∙ reverse-reverse h)

-- ---- the other order

met_answered : (v : Version) (p : Plan) (e : Edge) (count n m : ℕ) (met a : Edge) (k : Numbered)
    (stop : Stop) (outcome : Judgement) → stop ≡ Races n met outcome
    → Stops v p e count ((n, met) ∷ k) stop
    → (verdict_but_full v p (edges_in k) e ≡ Ok tt)
    × (outcome ≡ verdict_but_full v p (e ∷ edges_in k) met)
met_answered v p e count n m met a k stop outcome is stops =
    let h = subst (Stops v p e count ((n, met) ∷ k)) is stops in (h.2.2, h.2.3)

formed_of : (v : Version) (p : Plan) (h : List Edge) (e : Edge) → verdict_but_full v p h e ≡ Ok tt
    → is_well_formed e ≡ true
formed_of v p h e is =
    and_left (is_well_formed e) (has_driver p e.driver e.wire) (checked _ NoSuchDriver _ is).0

module _ (p : Plan) (v : Version) (before : List Edge) (e : Edge) (bytes : List ℕ)
    (order : IsOtherOrder p v before e bytes) where
  abbrev others : List Edge
  others = edges_in order.rest

  abbrev passed : List Edge
  passed = edges_in order.goes.passed

  history : (kept (bench p v) before).history ≡ passed ++ order.met ∷ others
  history =
      sym (edges_on (bench p v) 0 [] before refl)
      ∙ ap edges_in (order.goes.split ∙ ap (λ l. order.goes.passed ++ l) order.behind)
      ∙ map-append (λ m. m.1) order.goes.passed ((order.n, order.met) ∷ order.rest)

  legal_met : IsLegal v p (order.met ∷ others)
  legal_met =
      legal_behind v p passed (order.met ∷ others)
      (subst (IsLegal v p) history (kept_legal v p (bench p v) before refl refl tt))

  answers : (verdict_but_full v p others e ≡ Ok tt)
      × (order.outcome ≡ verdict_but_full v p (e ∷ others) order.met)
  answers =
      met_answered v p e (length order.goes.passed) order.n order.n order.met order.met order.rest
      order.walk.stop order.outcome order.races
      (subst (λ k. Stops v p e (length order.goes.passed) k order.walk.stop) order.behind
      order.goes.stops)

  legal_edge : IsLegal v p (e ∷ others)
  legal_edge = (answers.0, legal_met.1)

  few : length (e ∷ others) < trace_limit
  few =
      let fits = kept_fits trace_limit (bench p v) before refl (omega arith) in
      let room = has_room (kept (bench p v) before) e (ap is_ok order.accepted) in
      let max = kept_max (bench p v) before in
      let size = ap length history in
      let both = length-append passed (order.met ∷ others) in
      omega (arith, fits, room, max, size, both)

  all_formed : All (λ d. IsTrue (is_well_formed d)) (reverse (e ∷ others) ++ order.met ∷ [])
  all_formed =
      All-push (λ d. IsTrue (is_well_formed d)) (reverse (e ∷ others)) order.met
      (all_well_formed v p (e ∷ others) legal_edge) (formed_of v p others order.met legal_met.0)

  spelled : read_of bytes ≡ whole v (reverse (e ∷ others) ++ order.met ∷ [])
  spelled =
      ap read_of (order.trace ∙ ap (text v) (reverse-cons order.met (e ∷ others)))
      ∙ text_read v (reverse (e ∷ others) ++ order.met ∷ []) all_formed

  pub legal_but_last : IsAccepted p
      → IsLegalButLast p v (in_order (e ∷ others)) order.met order.outcome bytes
  legal_but_last fit =
      let size = few in
      let legal : IsLegalTrace p (whole v (reverse (e ∷ others))) =
      subst (IsLegalTrace p) (text_read v (reverse (e ∷ others)) (all_well_formed v p (e ∷ others) legal_edge))
      (legal_trace p v (e ∷ others) fit legal_edge (omega (arith, size))) in
      record {
        reads = spelled;
        legal = legal;
        answered =
            ap (λ (s : State). verdict s order.met) (kept_is p v (e ∷ others) legal.unrefused)
            ∙ answered_by v p (e ∷ others) order.met order.outcome (sym answers.1)
            (λ full. omega (arith, size, full));
      }
