-- How an edge goes back through the last accepted edges.
use Rattle.std.proofs.Common.{◌≡◌, ◌+◌, ◌<◌, ◌++◌, ◌∷◌, [], ℕ, Bool, true, false, List, Option, Some, None, length, unwrap_or, refl, sym, ◌∙◌, ap, append_assoc, subst, arith}
use Rattle.std.specs.Prelude.{if◌then◌else◌}
use Rattle.std.proofs.Math.ListN.{length-append}
use Rattle.vme_model.specs.declared.signals.Edge.{Edge}
use Rattle.vme_model.specs.declared.signals.Version.{Version}
use Rattle.vme_model.specs.Plan.{Plan}
use Rattle.vme_model.specs.Numbered.{Numbered, edges_in}
use Rattle.vme_model.specs.Verdict.{IsLegal}
use Rattle.vme_bus.specs.declared.states.BusState.{BusState}
use Rattle.vme_swaps.specs.Swaps.{IsFree}
use Rattle.vme_races.specs.declared.earlier.Earlier.{Earlier}
use Rattle.vme_races.specs.declared.recent.Recent.{Recent}
use Rattle.vme_swaps.specs.declared.stops.Stop.{Stop}
use Rattle.vme_swaps.specs.declared.stops.Stop.TheVariants.{Begins, Far, Waits, Races}
use Rattle.vme_races.specs.Walks.{IsWalk, Passes, Stops, oldest}
use Rattle.vme_swaps.specs.Stops.{Meets, most_passed}
use Rattle.vme_races.specs.Kinds.{IsKindOf, IsOnPlan, OfKind}
use Rattle.vme_races.specs.Kept.{AreHeld, AreLast}

-- the edge came back over so many of k, the oldest of which has this number; these are held behind
pub record IsBack
    (v : Version) (p : Plan) (e : Edge) (k : Numbered) (count : ℕ) (from : Option ℕ)
    (others : List Earlier)
    : Type 0 where
  pub passed : Numbered
  pub rest : Numbered
  pub split : k ≡ passed ++ rest
  pub many : length passed ≡ count
  pub passes : Passes v p e passed rest
  pub since : from ≡ oldest passed
  pub legal : IsLegal v p (e ∷ edges_in rest)
  pub held : AreHeld v p rest others

module _ (v : Version) (p : Plan) (e : Edge) where
  passes_more : (xs rest : Numbered) (n : ℕ) (a : Edge) → Passes v p e xs ((n, a) ∷ rest)
      → IsFree v p (edges_in rest) a e → Passes v p e (xs ++ (n, a) ∷ []) rest
  passes_more [] rest n a h free = (free, tt)
  passes_more ((m, b) ∷ xs) rest n a h free = (
    subst (λ (l : Numbered). IsFree v p (edges_in l) b e) (sym (append_assoc xs ((n, a) ∷ []) rest)) h.0,
    passes_more xs rest n a h.1 free,
  )

  oldest_more : (xs : Numbered) (n : ℕ) (a : Edge) → oldest (xs ++ (n, a) ∷ []) ≡ Some n
  oldest_more [] n a = refl
  oldest_more ((m, b) ∷ xs) n a = ap (λ o. Some (unwrap_or o m)) (oldest_more xs n a)

  stops_by : (count n : ℕ) (b : Edge) (k : Numbered) (stop : Stop) → count < most_passed
      → ¬ IsFree v p (edges_in k) b e → Meets v p e n b (edges_in k) stop
      → Stops v p e count ((n, b) ∷ k) stop
  stops_by count n b k Begins less fixed meets = absurd meets
  stops_by count n b k Far less fixed meets = absurd meets
  stops_by count n b k (Waits m c refused) less fixed meets = (less, fixed, meets)
  stops_by count n b k (Races m c outcome) less fixed meets = (less, fixed, meets)

  module _ (k : Numbered) where
    pub back_first : (others : List Earlier) → AreHeld v p k others → IsLegal v p (e ∷ edges_in k)
        → IsBack v p e k 0 None others
    back_first others held legal = record {
      passed = [];
      rest = k;
      split = refl;
      many = refl;
      passes = tt;
      since = refl;
      legal = legal;
      held = held;
    }

    -- the bus before the next one that is held
    held_by : (a : Earlier) (others : List Earlier) (rest : Numbered) → AreHeld v p rest (a ∷ others)
        → (h : List Edge) × IsKindOf v p h a.before
    held_by a others [] held = absurd held
    held_by a others ((n, d) ∷ rest) held = (edges_in rest, held.2)

    pub held_here : (count : ℕ) (a : Earlier) (others : List Earlier) (from : Option ℕ)
        → IsBack v p e k count from (a ∷ others) → (h : List Edge) × IsKindOf v p h a.before
    held_here count a others from is = held_by a others is.rest is.held

    module _ (count : ℕ) (a : Earlier) (others : List Earlier) (b : BusState) (on : IsOnPlan v p b) where
      more_by : (passed rest : Numbered) → k ≡ passed ++ rest → length passed ≡ count
          → Passes v p e passed rest → IsLegal v p (e ∷ edges_in rest) → AreHeld v p rest (a ∷ others)
          → OfKind b a.before (λ w q h. IsLegal w q (e ∷ a.edge ∷ h) → IsFree w q h a.edge e)
          → IsBack v p e k (count + 1) (Some a.number) others
      more_by passed [] split many passes legal held free = absurd held
      more_by passed ((n, d) ∷ rest) split many passes legal held free =
          let goes : IsFree v p (edges_in rest) d e =
          subst (λ (x : Edge). IsFree v p (edges_in rest) x e) held.1
          (free v p (edges_in rest) on held.2
          (subst (λ (x : Edge). IsLegal v p (e ∷ x ∷ edges_in rest)) (sym held.1) legal)) in
          record {
            passed = passed ++ (n, d) ∷ [];
            rest = rest;
            split = split ∙ sym (append_assoc passed ((n, d) ∷ []) rest);
            many = length-append passed ((n, d) ∷ []) ∙ ap (λ m. m + 1) many;
            passes = passes_more passed rest n d passes goes;
            since = ap (λ m. Some m) held.0 ∙ sym (oldest_more passed n d);
            legal = goes.swapped.1;
            held = held.3;
          }

      -- over one more
      pub back_more : (from : Option ℕ) → IsBack v p e k count from (a ∷ others)
          → OfKind b a.before (λ w q h. IsLegal w q (e ∷ a.edge ∷ h) → IsFree w q h a.edge e)
          → IsBack v p e k (count + 1) (Some a.number) others
      back_more from is free =
          more_by is.passed is.rest is.split is.many is.passes is.legal is.held free

      stop_by : (from : Option ℕ) (stop : Stop) (passed rest : Numbered) → k ≡ passed ++ rest
          → length passed ≡ count → Passes v p e passed rest → IsLegal v p (e ∷ edges_in rest)
          → AreHeld v p rest (a ∷ others) → from ≡ oldest passed → count < most_passed
          → OfKind b a.before (λ w q h. IsLegal w q (e ∷ a.edge ∷ h) → ¬ IsFree w q h a.edge e
          × Meets w q e a.number a.edge h stop)
          → IsWalk v p e k (record { passed = count; since = from; stop = stop })
      stop_by from stop passed [] split many passes legal held since less stops = absurd held
      stop_by from stop passed ((n, d) ∷ rest) split many passes legal held since less stops =
          let meets = stops v p (edges_in rest) on held.2
          (subst (λ (x : Edge). IsLegal v p (e ∷ x ∷ edges_in rest)) (sym held.1) legal) in
          record {
            passed = passed;
            rest = (n, d) ∷ rest;
            split = split;
            passes = passes;
            most = omega (arith, many, less);
            count = sym many;
            since = since;
            stops = stops_by (length passed) n d rest stop (omega (arith, many, less))
                (λ free. meets.0 (subst (λ (x : Edge). IsFree v p (edges_in rest) x e) (sym held.1) free))
                (subst (λ (x : Edge). Meets v p e n x (edges_in rest) stop) held.1
                (subst (λ (m : ℕ). Meets v p e m a.edge (edges_in rest) stop) held.0 meets.1));
          }

      -- the next one stops it
      pub back_stops : (from : Option ℕ) (stop : Stop) → IsBack v p e k count from (a ∷ others)
          → count < most_passed
          → OfKind b a.before (λ w q h. IsLegal w q (e ∷ a.edge ∷ h) → ¬ IsFree w q h a.edge e
          × Meets w q e a.number a.edge h stop)
          → IsWalk v p e k (record { passed = count; since = from; stop = stop })
      back_stops from stop is less stops =
          stop_by from stop is.passed is.rest is.split is.many is.passes is.legal is.held is.since less
          stops

    module _ (now : Recent) (last : AreLast v p k now) where
      end_by : (t : Bool) → now.has_more ≡ t → (passed rest : Numbered) → k ≡ passed ++ rest
          → length passed ≡ length now.edges.items
          → Stops v p e (length passed) rest (if t then Far else Begins)
      end_by true is passed [] split many =
          let all = ap length split ∙ length-append passed [] in
          let count = last.count in
          let more = last.more is in
          absurd (omega (arith, all, count, more, many))
      end_by true is passed ((n, b) ∷ rest) split many =
          let count = last.count in
          let more = last.more is in
          omega (arith, count, more, many)
      end_by false is passed [] split many = refl
      end_by false is passed ((n, b) ∷ rest) split many =
          let all = ap length split ∙ length-append passed ((n, b) ∷ rest) in
          let count = last.count in
          let whole = last.whole is in
          absurd (omega (arith, all, count, whole, many))

      -- it passed them all
      pub back_ends : (count : ℕ) (from : Option ℕ) (stop : Stop) (others : List Earlier)
          → IsBack v p e k count from others → count ≡ length now.edges.items
          → stop ≡ (if now.has_more then Far else Begins)
          → IsWalk v p e k (record { passed = count; since = from; stop = stop })
      back_ends count from stop others is whole at =
          let many = is.many in
          let all = last.count in
          record {
            passed = is.passed;
            rest = is.rest;
            split = is.split;
            passes = is.passes;
            most = omega (arith, many, whole, all);
            count = sym many;
            since = is.since;
            stops = subst (Stops v p e (length is.passed) is.rest) (sym at)
                (end_by now.has_more refl is.passed is.rest is.split (many ∙ whole));
          }
