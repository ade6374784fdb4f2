-- What is found of all, from what is found of the rest.
use Rattle.std.proofs.Common.{◌≡◌, inl, inr, ◌+◌, ◌<◌, ◌≤◌, ◌^◌, ◌++◌, ◌∷◌, [], ℕ, Bool, true, false, List, Option, Some, None, Result, Ok, Err, length, refl, sym, ◌∙◌, ap, append_assoc, append-nil, subst, arith}
use Rattle.std.specs.Prelude.{◌⊎◌, ◌≢◌, OnOk}
use Rattle.std.proofs.Math.ListN.{length-append}
use Rattle.vme_model.specs.declared.signals.Edge.{Edge}
use Rattle.vme_model.specs.declared.signals.Version.{Version}
use Rattle.vme_model.specs.declared.signals.Version.TheVariants.{One, Two}
use Rattle.vme_model.specs.Plan.{Plan}
use Rattle.vme_model.specs.Numbered.{Numbered, edges_in}
use Rattle.vme_model.specs.Verdict.{IsLegal, verdict_but_full}
use Rattle.vme_bus.specs.States.{IsStateOf, OfHistory}
use Rattle.vme_swaps.specs.Swaps.{AreOneButForSwaps}
use Rattle.vme_swaps.proofs.Behind.{same_by_swaps}
use Rattle.vme_trace.specs.declared.Fault.{Fault}
use Rattle.vme_swaps.specs.declared.stops.Stop.{Stop}
use Rattle.vme_swaps.specs.declared.stops.Stop.TheVariants.{Begins, Far, Waits, Races}
use Rattle.vme_swaps.specs.Stops.{Meets, most_passed}
use Rattle.vme_same.specs.declared.comparisons.Comparison.{Comparison}
use Rattle.vme_same.specs.declared.comparisons.Comparison.TheVariants.{Same, OtherVersion, Differs, Leaves}
use Rattle.vme_same.specs.declared.comparisons.Why.{Why}
use Rattle.vme_same.specs.declared.comparisons.Why.TheVariants.{Missing, Stops}
use Rattle.vme_same.specs.declared.edges.Left.{Left}
use Rattle.vme_same.specs.declared.edges.Next.{Next}
use Rattle.vme_same.specs.declared.progress.Sought.{Sought}
use Rattle.vme_same.specs.declared.progress.Progress.{Progress}
use Rattle.vme_same.specs.declared.progress.Progress.TheVariants.{Open, Finds}
use Rattle.vme_same.specs.declared.rest.Rest.{Rest}
use Rattle.vme_same.specs.Comparing.{Compares, GoesBack, HasNoneOf, IsFirstOf, IsMissing, IsOutcome, IsOver, IsPlace, StaysBack}
use Rattle.vme_same.specs.Kept.{GoesBy, IsAt, IsOpen, IsSought, IsSure, Leads, edges_of, numbers}
use Rattle.vme_same.proofs.Lists.{before_count, first_on, has_some, numbers_append, place_of, split_of}
use Rattle.vme_same.proofs.Brought.{brought_at, legal_taken, swaps_none, swaps_on, swaps_under}

-- ---- an edge that does not come to the front

-- what an edge meets is not that it is far
never_far : (v : Version) (p : Plan) (e : Edge) (taken before : Numbered)
    → GoesBack v p e taken before (Some Far) → ⊥
never_far v p e taken [] goes = absurd (cc)
never_far v p e taken ((n, a) ∷ before) (inl goes) = never_far v p e taken before goes.1
never_far v p e taken ((n, a) ∷ before) (inr stops) = by_stop stops.1 stops.2 stops.3
  where
    by_stop : (met : Stop) → Some Far ≡ Some met → Meets v p e n a (edges_in (before ++ taken)) met → ⊥
    by_stop Far is meets = meets
    by_stop Begins is meets = meets
    by_stop (Waits m b refused) is meets = absurd (cc)
    by_stop (Races m b outcome) is meets = absurd (cc)

pub stays_by : (v : Version) (p : Plan) (e : Edge) (taken left : Numbered) (met : Stop)
    (place : IsPlace e left) → length place.before ≤ most_passed
    → GoesBack v p e taken place.before (Some met) → StaysBack v p e taken left (Stops met)
stays_by v p e taken left Begins place near goes = (place, near, goes)
stays_by v p e taken left Far place near goes = absurd (never_far v p e taken place.before goes)
stays_by v p e taken left (Waits m b refused) place near goes = (place, near, goes)
stays_by v p e taken left (Races m b outcome) place near goes = (place, near, goes)

-- ---- before the first edge

by_versions : (v w : Version) → (v ≡ w) ⊎ (v ≢ w)
by_versions One One = inl refl
by_versions Two Two = inl refl
by_versions One Two = inr (λ e. absurd (cc))
by_versions Two One = inr (λ e. absurd (cc))

module _ (p : Plan) (v w : Version) where
  open_first : (rest : Rest) (waiting : List Next) (taken : ℕ) → v ≡ w → rest.edges.items ≡ []
      → IsStateOf v p [] rest.behind → waiting ≡ [] → taken ≡ 0
      → IsOpen p v w [] [] (edges_of waiting) rest taken
  open_first rest waiting taken same none state idle first =
      let left : [] ≡ numbers rest.edges.items = ap numbers (sym none) in
      let next : [] ≡ edges_of waiting = ap edges_of (sym idle) in
      record {
        taken = [];
        state = state;
        legal = subst (λ k. IsLegal v p (edges_in (k ++ []))) left tt;
        swaps = subst (λ k. AreOneButForSwaps v p [] (edges_in (k ++ []))) left (swaps_none v p []);
        leads = subst (λ k. Leads p v w [] [] [] k taken (edges_of waiting)) left
            (subst (λ es. Leads p v w [] [] [] [] taken es) next
            (subst (λ n. Leads p v w [] [] [] [] n []) (sym first)
            (λ more later found compares. inr (
              same,
              subst (λ k. Compares v p [] k 0 later found) refl compares,
            ))));
        all = subst (λ es. taken + length es ≡ 0) next (omega (arith, first));
        few = omega arith;
      }

  pub going_first : (progress : Progress) (waiting : List Next) (rest : Rest) (taken : ℕ)
      → (v ≡ w → progress ≡ Open) → (¬ (v ≡ w) → progress ≡ Finds OtherVersion)
      → rest.edges.items ≡ [] → IsStateOf v p [] rest.behind → waiting ≡ [] → taken ≡ 0
      → GoesBy p v w [] [] false false waiting rest taken progress
  going_first progress waiting rest taken same other none state idle first =
      by_cases (by_versions v w)
    where
      by_cases : (v ≡ w) ⊎ (v ≢ w) → GoesBy p v w [] [] false false waiting rest taken progress
      by_cases (inl is) = subst (GoesBy p v w [] [] false false waiting rest taken) (sym (same is))
          (open_first rest waiting taken is none state idle first)
      by_cases (inr is) = subst (GoesBy p v w [] [] false false waiting rest taken) (sym (other is))
          (λ more later ends over. inl (is, refl))

-- ---- one more edge of either trace

module _ (p : Plan) (v w : Version) (k : Numbered) (fs : List Edge) where
  module _ (taken left : Numbered) (n : ℕ) (next : List Edge)
      (leads : Leads p v w k fs taken left n next) where
    pub leads_more : (x : ℕ × Edge) → Leads p v w (x ∷ k) fs taken (x ∷ left) n next
    leads_more x more later found compares =
        subst (λ l. IsOutcome p v w l (fs ++ later) found) (append_assoc more (x ∷ []) k)
        (leads (more ++ x ∷ []) later found
        (subst (λ l. Compares v p taken l n (next ++ later) found)
        (sym (append_assoc more (x ∷ []) left)) compares))

    pub leads_later : (e : Edge) → Leads p v w k (fs ++ e ∷ []) taken left n (next ++ e ∷ [])
    leads_later e more later found compares =
        subst (λ l. IsOutcome p v w (more ++ k) l found) (sym (append_assoc fs (e ∷ []) later))
        (leads more (e ∷ later) found
        (subst (λ l. Compares v p taken (more ++ left) n l found)
        (append_assoc next (e ∷ []) later) compares))

  module _ (ended over : Bool) (found : Comparison) (sure : IsSure p v w k fs ended over found) where
    pub sure_more : (x : ℕ × Edge) → ended ≡ false → IsSure p v w (x ∷ k) fs ended over found
    sure_more x goes more later first second =
        subst (λ l. IsOutcome p v w l (fs ++ later) found) (append_assoc more (x ∷ []) k)
        (sure (more ++ x ∷ []) later (λ is. absurd (cc (goes, is))) second)

    pub sure_later : (e : Edge) → over ≡ false
        → IsSure p v w k (fs ++ e ∷ []) ended over found
    sure_later e goes more later first second =
        subst (λ l. IsOutcome p v w (more ++ k) l found) (sym (append_assoc fs (e ∷ []) later))
        (sure more (e ∷ later) first (λ is. absurd (cc (goes, is))))

    -- it is still so when a trace has ended
    pub sure_ended : IsSure p v w k fs true over found
    sure_ended more later first second = sure more later (λ is. first refl) second

    pub sure_over : IsSure p v w k fs ended true found
    sure_over more later first second = sure more later first (λ is. second refl)

  -- ---- an edge that is looked for

  module _ (e : Edge) (next : List Edge) (rest : Rest) (n number : ℕ)
      (ready : IsOpen p v w k fs (e ∷ next) rest n) (is : number ≡ n + 1) where
    -- it stays back for this reason, whatever comes
    stays_sure : (ended over : Bool) (why : Why) (own : Option (ℕ × Edge))
        → ((more : Numbered) → StaysBack v p e ready.taken (more ++ numbers rest.edges.items) why)
        → ((more : Numbered) → IsFirstOf e.driver (more ++ numbers rest.edges.items) own)
        → IsSure p v w k fs ended over (Differs number e why own)
    stays_sure ended over why own stays firsts more later first second =
        ready.leads more later (Differs number e why own)
        (inl (why, own, stays more, firsts more, ap (λ m. Differs m e why own) is))

    -- its driver has an edge that is left, and the first one stays the first
    first_there : (place : ℕ) → IsAt e place rest.edges.items → (own : Option (ℕ × Edge))
        → IsFirstOf e.driver (numbers rest.edges.items) own → (more : Numbered)
        → IsFirstOf e.driver (more ++ numbers rest.edges.items) own
    first_there place at own first more =
        first_on e.driver more (numbers rest.edges.items) own (λ none.
        has_some (numbers at.behind) at.left.number e (numbers at.before)
        (subst (HasNoneOf e.driver) (split_of e place rest.edges.items at []) none)) first

    pub far_sure : (ended over : Bool) (place : ℕ) → IsAt e place rest.edges.items
        → most_passed < place → (own : Option (ℕ × Edge))
        → IsFirstOf e.driver (numbers rest.edges.items) own
        → IsSure p v w k fs ended over (Differs number e (Stops Far) own)
    far_sure ended over place at far own first = stays_sure ended over (Stops Far) own (λ more. (
      place_of e place rest.edges.items at more,
      subst (λ m. most_passed < m) (sym (before_count e place rest.edges.items at)) far,
    )) (first_there place at own first)

    module _ (place : ℕ) (at : IsAt e place rest.edges.items) (near : place ≤ most_passed)
        (stop : Option Stop)
        (back : (u : Version) (q : Plan) (taken : Numbered) → IsStateOf u q (edges_in taken) rest.behind
        → IsLegal u q (edges_in (numbers rest.edges.items ++ taken))
        → GoesBack u q e taken (numbers at.before) stop) where
      within : length (numbers at.before) ≤ most_passed
      within = subst (λ m. m ≤ most_passed) (sym (before_count e place rest.edges.items at)) near

      goes : GoesBack v p e ready.taken (numbers at.before) stop
      goes = back v p ready.taken ready.state ready.legal

      pub stops_sure : (ended over : Bool) (met : Stop) → stop ≡ Some met
          → (own : Option (ℕ × Edge)) → IsFirstOf e.driver (numbers rest.edges.items) own
          → IsSure p v w k fs ended over (Differs number e (Stops met) own)
      stops_sure ended over met meets own first = stays_sure ended over (Stops met) own (λ more.
          stays_by v p e ready.taken (more ++ numbers rest.edges.items) met
          (place_of e place rest.edges.items at more) within
          (subst (GoesBack v p e ready.taken (numbers at.before)) meets goes))
          (first_there place at own first)

      -- it comes to the front, and is taken out
      module _ (after : Rest) (none : stop ≡ None)
          (out : after.edges.items ≡ at.behind ++ at.before)
          (moves : OfHistory rest.behind (λ u q h. verdict_but_full u q h e ≡ Ok tt
          → IsStateOf u q (e ∷ h) after.behind)) where
        abbrev x : ℕ × Edge
        x = (at.left.number, e)

        abbrev left : Numbered
        left = numbers at.behind ++ numbers at.before

        left_is : left ≡ numbers after.edges.items
        left_is = sym (ap numbers out ∙ numbers_append at.behind at.before)

        clear : GoesBack v p e ready.taken (numbers at.before) None
        clear = subst (GoesBack v p e ready.taken (numbers at.before)) none goes

        swaps : AreOneButForSwaps v p (edges_in (numbers rest.edges.items ++ ready.taken))
            (edges_in (left ++ x ∷ ready.taken))
        swaps = brought_at v p e ready.taken (numbers rest.edges.items)
            (place_of e place rest.edges.items at []) clear

        legal : IsLegal v p (edges_in (left ++ x ∷ ready.taken))
        legal = (same_by_swaps v p (edges_in (numbers rest.edges.items ++ ready.taken))
            (edges_in (left ++ x ∷ ready.taken)) ready.state.accepted ready.legal swaps).legal

        front : IsLegal v p (e ∷ edges_in ready.taken)
        front = legal_taken v p left at.left.number e ready.taken legal

        leads : Leads p v w k fs (x ∷ ready.taken) left number next
        leads more later found compares =
            ready.leads more later found (inr (
              place_of e place rest.edges.items at more,
              within,
              clear,
              subst (λ l. Compares v p (x ∷ ready.taken) l (n + 1) (next ++ later) found)
                  (sym (append_assoc more (numbers at.behind) (numbers at.before)))
                  (subst (λ m. Compares v p (x ∷ ready.taken) (more ++ left) m (next ++ later) found) is compares),
            ))

        pub open_next : IsOpen p v w k fs next after number
        open_next =
            let all = ready.all in
            record {
              taken = x ∷ ready.taken;
              state = moves v p (edges_in ready.taken) ready.state front.0;
              legal = subst (λ l. IsLegal v p (edges_in (l ++ x ∷ ready.taken))) left_is legal;
              swaps = subst (λ l. AreOneButForSwaps v p (edges_in k) (edges_in (l ++ x ∷ ready.taken)))
                  left_is
                  (swaps_on v p (edges_in k) (edges_in (numbers rest.edges.items ++ ready.taken))
                  (edges_in (left ++ x ∷ ready.taken)) ready.swaps swaps);
              leads = subst (λ l. Leads p v w k fs (x ∷ ready.taken) l number next) left_is leads;
              all = omega (arith, all, is);
              few = ready.few;
            }

  -- ---- an edge that is none of those that are left

  module _ (sought : Sought) (taken left : Numbered) (n : ℕ) (next : List Edge)
      (is : sought.number ≡ n + 1) (missing : IsMissing sought.edge left)
      (own : IsFirstOf sought.edge.driver left sought.own)
      (leads : Leads p v w k fs taken left n (sought.edge ∷ next)) where
    pub missing_sure : (ended over : Bool) → ended ≡ true
        → IsSure p v w k fs ended over (Differs sought.number sought.edge Missing sought.own)
    missing_sure ended over ends more later first second =
        leads more later (Differs sought.number sought.edge Missing sought.own) (inl (
          Missing,
          sought.own,
          subst (λ l. IsMissing sought.edge (l ++ left)) (sym (first ends)) missing,
          subst (λ l. IsFirstOf sought.edge.driver (l ++ left) sought.own) (sym (first ends)) own,
          ap (λ m. Differs m sought.edge Missing sought.own) is,
        ))

    pub is_sought : most_passed < length left → IsSought p v w k fs sought
    is_sought many = record {
      taken = taken;
      left = left;
      next = next;
      count = n;
      number = is;
      missing = missing;
      own = own;
      leads = leads;
      many = many;
    }

  module _ (sought : Sought) (seeks : IsSought p v w k fs sought) (m : ℕ) (a : Edge)
      (own : Option (ℕ × Edge))
      (firsts : (left : Numbered) → IsFirstOf sought.edge.driver left sought.own
      → IsFirstOf sought.edge.driver ((m, a) ∷ left) own) where
    pub sought_far : (ended over : Bool) → a ≡ sought.edge
        → IsSure p v w ((m, a) ∷ k) fs ended over (Differs sought.number sought.edge (Stops Far) own)
    sought_far ended over same more later first second =
        let left = (m, a) ∷ seeks.left in
        leads_more seeks.taken seeks.left seeks.count (sought.edge ∷ seeks.next) seeks.leads (m, a)
        more later (Differs sought.number sought.edge (Stops Far) own) (inl (
          Stops Far,
          own,
          (
            record {
              behind = more;
              number = m;
              before = seeks.left;
              split = ap (λ b. more ++ (m, b) ∷ seeks.left) same;
              first = seeks.missing;
            },
            seeks.many,
          ),
          first_on sought.edge.driver more left own
              (λ none. none.0 (ap (λ (b : Edge). b.driver) same)) (firsts seeks.left seeks.own),
          ap (λ i. Differs i sought.edge (Stops Far) own) seeks.number,
        ))

    pub sought_on : a ≢ sought.edge
        → IsSought p v w ((m, a) ∷ k) fs
        (record { number = sought.number; edge = sought.edge; own = own })
    sought_on other =
        let many = seeks.many in
        record {
          taken = seeks.taken;
          left = (m, a) ∷ seeks.left;
          next = seeks.next;
          count = seeks.count;
          number = seeks.number;
          missing = (other, seeks.missing);
          own = firsts seeks.left seeks.own;
          leads = leads_more seeks.taken seeks.left seeks.count (sought.edge ∷ seeks.next) seeks.leads (m, a);
          many = omega (arith, many);
        }

  pub sought_later : (sought : Sought) (a : Edge) → IsSought p v w k fs sought
      → IsSought p v w k (fs ++ a ∷ []) sought
  sought_later sought a seeks = record {
    taken = seeks.taken;
    left = seeks.left;
    next = seeks.next ++ a ∷ [];
    count = seeks.count;
    number = seeks.number;
    missing = seeks.missing;
    own = seeks.own;
    leads = leads_later seeks.taken seeks.left seeks.count (sought.edge ∷ seeks.next) seeks.leads a;
    many = seeks.many;
  }

  -- ---- more edges while all came to the front

  module _ (next : List Edge) (rest : Rest) (n : ℕ) (ready : IsOpen p v w k fs next rest n) where
    pub open_more : (m : ℕ) (a : Edge) (after : Rest) → IsLegal v p (a ∷ edges_in k)
        → numbers after.edges.items ≡ (m, a) ∷ numbers rest.edges.items
        → after.behind ≡ rest.behind → IsOpen p v w ((m, a) ∷ k) fs next after n
    open_more m a after legal is same =
        let swaps = swaps_under v p a (edges_in k)
        (edges_in (numbers rest.edges.items ++ ready.taken)) ready.swaps in
        let left : (m, a) ∷ numbers rest.edges.items ≡ numbers after.edges.items = sym is in
        record {
          taken = ready.taken;
          state = subst (IsStateOf v p (edges_in ready.taken)) (sym same) ready.state;
          legal = subst (λ l. IsLegal v p (edges_in (l ++ ready.taken))) left
              (same_by_swaps v p (a ∷ edges_in k)
              (a ∷ edges_in (numbers rest.edges.items ++ ready.taken)) ready.state.accepted legal swaps).legal;
          swaps = subst (λ l. AreOneButForSwaps v p (a ∷ edges_in k) (edges_in (l ++ ready.taken))) left swaps;
          leads = subst (λ l. Leads p v w ((m, a) ∷ k) fs ready.taken l n next) left
              (leads_more ready.taken (numbers rest.edges.items) n next ready.leads (m, a));
          all = ready.all;
          few = ready.few;
        }

    pub open_later : (e : Edge) → length fs + 1 < 2 ^ 64
        → IsOpen p v w k (fs ++ e ∷ []) (next ++ e ∷ []) rest n
    open_later e room =
        let all = ready.all in
        let one = length-append fs (e ∷ []) in
        let more = length-append next (e ∷ []) in
        record {
          taken = ready.taken;
          state = ready.state;
          legal = ready.legal;
          swaps = ready.swaps;
          leads = leads_later ready.taken (numbers rest.edges.items) n next ready.leads e;
          all = omega (arith, all, one, more);
          few = omega (arith, one, room);
        }

  -- ---- the second trace is over, and nothing of it waits

  module _ (next : List Edge) (rest : Rest) (n : ℕ) (ready : IsOpen p v w k fs next rest n)
      (idle : next ≡ []) where
    leads_end : (more : Numbered) (later : List Edge) (found : Comparison) → later ≡ []
        → IsOver n (more ++ numbers rest.edges.items) found
        → IsOutcome p v w (more ++ k) (fs ++ later) found
    leads_end more later found last over =
        let end : [] ≡ next ++ later = sym (ap (λ l. l ++ later) idle ∙ last) in
        ready.leads more later found
        (subst (λ l. Compares v p ready.taken (more ++ numbers rest.edges.items) n l found) end over)

    module _ (behind : List Left) (x : Left) (is : rest.edges.items ≡ behind ++ x ∷ []) where
      left_over : (more : Numbered) → IsOver n (more ++ numbers rest.edges.items) (Leaves x.number x.edge)
      left_over more = inr (
        more ++ numbers behind,
        x.number,
        x.edge,
        ap (λ l. more ++ l) (ap numbers is ∙ numbers_append behind (x ∷ []))
            ∙ sym (append_assoc more (numbers behind) ((x.number, x.edge) ∷ [])),
        refl,
      )

      pub left_sure : (ended over : Bool) → over ≡ true
          → IsSure p v w k fs ended over (Leaves x.number x.edge)
      left_sure ended over ends more later first second =
          leads_end more later (Leaves x.number x.edge) (second ends) (left_over more)

      pub left_found : IsOutcome p v w k fs (Leaves x.number x.edge)
      left_found = subst (λ l. IsOutcome p v w k l (Leaves x.number x.edge)) (append-nil fs)
          (leads_end [] [] (Leaves x.number x.edge) refl (left_over []))

    pub same_found : rest.edges.items ≡ [] → IsOutcome p v w k fs (Same n)
    same_found none = subst (λ l. IsOutcome p v w k l (Same n)) (append-nil fs)
        (leads_end [] [] (Same n) refl (inl (ap numbers none, refl)))

  pub sure_found : (found : Comparison) (ended over : Bool) → IsSure p v w k fs ended over found
      → IsOutcome p v w k fs found
  sure_found found ended over sure =
      subst (λ l. IsOutcome p v w k l found) (append-nil fs) (sure [] [] (λ is. refl) (λ is. refl))

-- ---- results of calls

pub on_ok : {P Q : Type 0} (r : Result (Unit {0}) Fault) → (P → Q) → OnOk r P → OnOk r Q
on_ok (Ok u) to h = to h
on_ok (Err f) to h = tt
