-- The other order of a race.
use Rattle.std.proofs.Common.{◌≡◌, inl, inr, ◌+◌, ◌-◌, ◌++◌, ◌∷◌, [], ℕ, true, false, List, Some, Result, Ok, Err, is_ok, length, take, reverse, refl, sym, ◌∙◌, ap, subst, append_assoc, arith}
use mathlib.Core.List.{reverse-cons}
use Rattle.std.proofs.lemmas.List.{length-append, length-map, length-reverse, map-append, reverse-append}
use Rattle.std.proofs.Math.Seq.{take-append_seam}
use Rattle.vme_model.specs.declared.signals.Edge.{Edge}
use Rattle.vme_model.specs.declared.signals.Version.{Version}
use Rattle.vme_model.specs.History.{in_order}
use Rattle.vme_model.specs.Numbered.{Numbered, edges_in, numbered}
use Rattle.vme_model.specs.Plan.{Plan}
use Rattle.vme_model.specs.Text.{text}
use Rattle.vme_model.specs.Verdict.{Judgement, State, kept, verdict}
use Rattle.vme_trace.specs.declared.Fault.TheVariants.{Memory}
use Rattle.vme_reading.specs.Outcomes.{bench}
use Rattle.vme_reading.specs.declared.EngineFault.{EngineFault}
use Rattle.vme_reading.specs.declared.EngineFault.TheVariants as fault
use Rattle.vme_reading.specs.declared.seeking.Found.{Found}
use Rattle.vme_reading.specs.declared.seeking.Found.TheVariants.{At}
use Rattle.vme_reading.specs.declared.seeking.Found.TheVariants as found
use Rattle.vme_reading.specs.Readings.{ReadsInput, ReadsLent}
use Rattle.vme_reading.specs.Seeking.{SeeksEdge}
use Rattle.vme_reading.specs.Streams.{Streams}
use Rattle.vme_reading.proofs.KeptEdges.{edges_on, kept_version}
use Rattle.vme_races.specs.declared.other.OtherOrder.{OtherOrder}
use Rattle.vme_races.specs.declared.other.OtherOrder.TheVariants.{Beyond, NoRace, Written}
use Rattle.vme_races.specs.declared.racing.Racing.{Racing}
use Rattle.vme_swaps.specs.declared.stops.Stop.{Stop}
use Rattle.vme_swaps.specs.declared.stops.Stop.TheVariants.{Races}
use Rattle.vme_races.specs.declared.walks.Walk.{Walk}
use Rattle.vme_swaps.specs.Stops.{is_race}
use Rattle.vme_races.specs.Listed.{AreListed, before_met}
use Rattle.vme_races.specs.Other.{HasNoRace, IsOtherOrder, Orders, WritesOrder}
use Rattle.vme_races.specs.Walks.{IsWalk, Stops}

-- ---- the edge that is met

pub met_behind : (v : Version) (p : Plan) (e : Edge) (count : ℕ) (k : Numbered) (stop : Stop) (n : ℕ)
    (met : Edge) (outcome : Judgement) → stop ≡ Races n met outcome → Stops v p e count k stop
    → (rest : Numbered) × (k ≡ (n, met) ∷ rest)
met_behind v p e count [] stop n met outcome is stops = absurd (cc)
met_behind v p e count ((m, a) ∷ k) stop n met outcome is stops =
    let h = subst (Stops v p e count ((m, a) ∷ k)) is stops in
    (k, λ i. (sym h.2.0 i, sym h.2.1 i) ∷ k)

-- ---- the trace of the other order

before_is : (xs rest : List Edge) (m : Edge)
    → before_met (reverse (xs ++ m ∷ rest)) (length xs) ≡ reverse rest
before_is xs rest m =
    let all = reverse (xs ++ m ∷ rest) in
    let whole : all ≡ reverse rest ++ (m ∷ reverse xs) =
    reverse-append xs (m ∷ rest) ∙ ap (λ l. l ++ reverse xs) (reverse-cons m rest)
    ∙ append_assoc (reverse rest) (m ∷ []) (reverse xs) in
    let a = length-reverse (xs ++ m ∷ rest) in
    let b = length-append xs (m ∷ rest) in
    let c = length-reverse rest in
    let size : length all - (length xs + 1) ≡ length (reverse rest) = omega (arith, a, b, c) in
    ap (λ n. take n all) size ∙ ap (take (length (reverse rest))) whole
    ∙ take-append_seam (reverse rest) (m ∷ reverse xs)

in_other_order : (h : List Edge) (e m : Edge) → in_order (m ∷ e ∷ h) ≡ reverse h ++ e ∷ m ∷ []
in_other_order h e m =
    reverse-cons m (e ∷ h) ∙ ap (λ l. l ++ m ∷ []) (reverse-cons e h)
    ∙ append_assoc (reverse h) (e ∷ []) (m ∷ [])

module _ (p : Plan) (v : Version) (before : List Edge) (e : Edge) (racing : Racing)
    (list : List Edge) (are : AreListed p v before racing list) where
  pub same_verdict : verdict racing.bus e ≡ verdict (kept (bench p v) before) e
  same_verdict = ap (λ (s : State). verdict s e) are.0.1.bus

  -- it is refused
  pub refused_none : is_ok (verdict racing.bus e) ≡ false → HasNoRace p v before e
  refused_none refused = inl (ap is_ok (sym same_verdict) ∙ refused)

  version_is : racing.bus.version ≡ v
  version_is = ap (λ (s : State). s.version) are.0.1.bus ∙ kept_version (bench p v) before

  list_is : list ≡ reverse (edges_in (numbered (bench p v) before))
  list_is =
      are.1 ∙ ap (λ (s : State). reverse s.history) are.0.1.bus
      ∙ ap reverse (sym (edges_on (bench p v) 0 [] before refl))

  module _ (walk : Walk) (goes : IsWalk v p e (numbered (bench p v) before) walk) where
    -- it does not race
    pub raceless_none : is_race walk.stop ≡ false → HasNoRace p v before e
    raceless_none none = inr (walk, goes, none)

    -- it races
    pub ordered : is_ok (verdict racing.bus e) ≡ true → (n : ℕ) (met : Edge) (outcome : Judgement)
        → walk.stop ≡ Races n met outcome
        → IsOtherOrder p v before e
        (text racing.bus.version (before_met list walk.passed ++ e ∷ met ∷ []))
    ordered ok n met outcome races =
        let found = met_behind v p e (length goes.passed) goes.rest walk.stop n met outcome races
        goes.stops in
        let rest : List Edge = edges_in found.0 in
        let passed : List Edge = edges_in goes.passed in
        let edges : edges_in (numbered (bench p v) before) ≡ passed ++ met ∷ rest =
        ap edges_in (goes.split ∙ ap (λ l. goes.passed ++ l) found.1)
        ∙ map-append (λ m. m.1) goes.passed ((n, met) ∷ found.0) in
        let count : walk.passed ≡ length passed =
        goes.count ∙ sym (length-map goes.passed (λ m. m.1)) in
        let front : before_met list walk.passed ≡ reverse rest =
        ap (before_met list) count
        ∙ ap (λ l. before_met l (length passed)) (list_is ∙ ap reverse edges)
        ∙ before_is passed rest met in
        record {
          accepted = sym same_verdict ∙ ok_is (verdict racing.bus e) ok;
          walk = walk;
          goes = goes;
          n = n;
          met = met;
          outcome = outcome;
          races = races;
          rest = found.0;
          behind = found.1;
          trace = ap (λ w. text w (before_met list walk.passed ++ e ∷ met ∷ [])) version_is
              ∙ ap (λ l. text v (l ++ e ∷ met ∷ [])) front
              ∙ ap (text v) (sym (in_other_order rest e met));
        }
      where
        ok_is : (j : Judgement) → is_ok j ≡ true → j ≡ Ok tt
        ok_is (Ok u) is = refl
        ok_is (Err r) is = absurd (cc)

-- ---- what is answered

module _ (edge : ℕ) (text : List ℕ) (nothing : Type 0) (s : Streams) where
  abbrev pub Sought : Result (Found OtherOrder) EngineFault → Type 0
  Sought r =
      ReadsLent text nothing
      (λ p. ReadsInput (SeeksEdge (WritesOrder p) (λ g. g ≡ Memory) (Some edge) p) s) r

  abbrev pub Ordered : Result OtherOrder EngineFault → Type 0
  Ordered r = ReadsLent text nothing (λ p. ReadsInput (Orders edge p) s) r

  pub orders_at : (order : OtherOrder) → Sought (Ok (At order)) → Ordered (Ok order)
  orders_at Written h = h
  orders_at NoRace h = h
  orders_at (Beyond n) h = absurd h.3.2.holds
