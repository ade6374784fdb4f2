-- What is kept of the edges so far, with the next one.
use Rattle.std.proofs.Common.{◌≡◌, ◌+◌, ◌<◌, ◌≤◌, ◌^◌, ◌++◌, ◌∷◌, [], ℕ, Bool, true, false, List, Ok, Err, is_ok, length, refl, sym, ◌∙◌, ap, append-nil, subst, arith}
use Rattle.std.specs.Prelude.{if◌then◌else◌}
use Rattle.vme_model.specs.declared.signals.Edge.{Edge}
use Rattle.vme_model.specs.declared.signals.Version.{Version}
use Rattle.vme_model.specs.Plan.{Plan}
use Rattle.vme_model.specs.Numbered.{Numbered, edges_in, numbered, numbered_on, numbered_with}
use Rattle.vme_model.specs.Verdict.{IsLegal, Judgement, State, after, judged, kept, made, verdict, verdict_but_full}
use Rattle.vme_histories.proofs.Judged as judging
use Rattle.vme_bus.specs.declared.states.BusState.{BusState}
use Rattle.vme_bus.specs.declared.kinds.BusKind.{BusKind}
use Rattle.vme_bus.specs.Kinds.{kind_of}
use Rattle.vme_bus.specs.States.{IsStateOf}
use Rattle.vme_reading.specs.Outcomes.{bench}
use Rattle.vme_reading.proofs.KeptEdges.{edges_on, kept_plan, kept_version, numbered_append}
use Rattle.vme_reading.proofs.WrittenLines.{kept_append}
use Rattle.vme_races.specs.declared.racing.Counts.{Counts}
use Rattle.vme_races.specs.declared.racing.Racing.{Racing}
use Rattle.vme_races.specs.declared.walks.Walk.{Walk}
use Rattle.vme_races.specs.Walks.{AreWalks, IsWalk}
use Rattle.vme_races.specs.Lines.{count_if, free_in, is_back, race_line, race_lines, races_in, waits_in}
use Rattle.vme_swaps.specs.Stops.{is_race, is_wait}
use Rattle.vme_races.specs.Kinds.{IsKindOf, IsOnPlan}
use Rattle.vme_races.specs.Kept.{Advances, AreLast, IsCounted, IsKept}

-- ---- how many walks there are

one_at_most : (t : Bool) → count_if t ≤ 1
one_at_most true = omega arith
one_at_most false = omega arith

races_within : (walks : List Walk) → races_in walks ≤ length walks
races_within [] = omega arith
races_within (walk ∷ walks) =
    let one = one_at_most (is_race walk.stop) in
    let others = races_within walks in omega (arith, one, others)

waits_within : (walks : List Walk) → waits_in walks ≤ length walks
waits_within [] = omega arith
waits_within (walk ∷ walks) =
    let one = one_at_most (is_wait walk.stop) in
    let others = waits_within walks in omega (arith, one, others)

free_within : (walks : List Walk) → free_in walks ≤ length walks
free_within [] = omega arith
free_within (walk ∷ walks) =
    let one = one_at_most (is_back walk) in
    let others = free_within walks in omega (arith, one, others)

pub counts_within : (walks : List Walk) (now : Counts) → IsCounted walks now
    → (now.races ≤ length walks) × (now.waits ≤ length walks) × (now.free ≤ length walks)
counts_within walks now is =
    let races = races_within walks in
    let waits = waits_within walks in
    let free = free_within walks in
    let r = is.races in
    let w = is.waits in
    let f = is.free in
    (omega (arith, races, r), omega (arith, waits, w), omega (arith, free, f))

-- one more was counted
pub noted : (walks : List Walk) (walk : Walk) (old : Counts) (races waits free : ℕ)
    → IsCounted walks old → length walks + 1 < 2 ^ 64
    → (old.races + 1 < 2 ^ 64 → races ≡ old.races + count_if (is_race walk.stop))
    → (old.waits + 1 < 2 ^ 64 → waits ≡ old.waits + count_if (is_wait walk.stop))
    → (old.free + 1 < 2 ^ 64 → free ≡ old.free + count_if (is_back walk))
    → IsCounted (walk ∷ walks) (record { races = races; waits = waits; free = free })
noted walks walk old races waits free is few one two three =
    let within = counts_within walks old is in
    let races_room : old.races + 1 < 2 ^ 64 = (let w = within.0 in omega (arith, w, few)) in
    let waits_room : old.waits + 1 < 2 ^ 64 = (let w = within.1 in omega (arith, w, few)) in
    let free_room : old.free + 1 < 2 ^ 64 = (let w = within.2 in omega (arith, w, few)) in
    record {
      races = one races_room ∙ ap (λ n. n + count_if (is_race walk.stop)) is.races;
      waits = two waits_room ∙ ap (λ n. n + count_if (is_wait walk.stop)) is.waits;
      free = three free_room ∙ ap (λ n. n + count_if (is_back walk)) is.free;
    }

walks_count : (v : Version) (p : Plan) (k : Numbered) (walks : List Walk) → AreWalks v p k walks
    → length walks ≡ length k
walks_count v p [] [] h = refl
walks_count v p [] (walk ∷ walks) h = absurd h
walks_count v p ((n, e) ∷ k) [] h = absurd h
walks_count v p ((n, e) ∷ k) (walk ∷ walks) h =
    let others = walks_count v p k walks h.1 in omega (arith, others)

within_one : (t : Bool) (n : ℕ) (e : Edge) (k : Numbered) → length (if t then (n, e) ∷ k else k) ≤ length k + 1
within_one true n e k = omega arith
within_one false n e k = omega arith

numbered_on_within : (b : State) (n : ℕ) (k : Numbered) (es : List Edge) → length (numbered_on b n k es) ≤ length k + length es
numbered_on_within b n k [] = omega arith
numbered_on_within b n k (e ∷ es) =
    let one = within_one (is_ok (verdict b e)) (n + 1) e k in
    let others = numbered_on_within (after b e) (n + 1) (numbered_with b (n + 1) e k) es in omega (arith, one, others)

-- no more walks than edges
pub walks_within : (p : Plan) (v : Version) (es : List Edge) (walks : List Walk)
    → AreWalks v p (numbered (bench p v) es) walks → length walks ≤ length es
walks_within p v es walks h =
    let count = walks_count v p (numbered (bench p v) es) walks h in
    let all = numbered_on_within (bench p v) 0 [] es in omega (arith, count, all)

-- ---- where the bus stands

pub ok_by : (v : Version) (p : Plan) (h : List Edge) (e : Edge) (rest j : Judgement)
    → verdict_but_full v p h e ≡ j → is_ok (judged v p h e rest) ≡ true → verdict_but_full v p h e ≡ Ok tt
ok_by v p h e rest (Ok u) is ok = is
ok_by v p h e rest (Err r) is ok = absurd (cc (ap is_ok (judging.refused v p h e r rest is), ok))

legal_by : (v : Version) (p : Plan) (b : State) (e : Edge) → b.version ≡ v → b.plan ≡ p
    → IsLegal v p b.history → (t : Bool) → is_ok (verdict b e) ≡ t
    → IsLegal v p (if t then made b e else b).history
legal_by v p b e version plan legal true ok = (
  subst (λ (w : Version). verdict_but_full w p b.history e ≡ Ok tt) version
      (subst (λ (q : Plan). verdict_but_full b.version q b.history e ≡ Ok tt) plan
      (ok_by b.version b.plan b.history e _ (verdict_but_full b.version b.plan b.history e) refl ok)),
  legal,
)
legal_by v p b e version plan legal false ok = legal

pub kept_legal : (v : Version) (p : Plan) (b : State) (es : List Edge) → b.version ≡ v → b.plan ≡ p
    → IsLegal v p b.history → IsLegal v p (kept b es).history
kept_legal v p b [] version plan legal = legal
kept_legal v p b (e ∷ es) version plan legal =
    kept_legal v p (after b e) es (kept_version b (e ∷ []) ∙ version) (kept_plan b (e ∷ []) ∙ plan)
    (legal_by v p b e version plan legal (is_ok (verdict b e)) refl)

module _ (p : Plan) (v : Version) (es : List Edge) (e : Edge) where
  edges_are : edges_in (numbered (bench p v) es) ≡ (kept (bench p v) es).history
  edges_are = edges_on (bench p v) 0 [] es refl

  ok_there : is_ok (verdict (kept (bench p v) es) e) ≡ true
      → verdict_but_full v p (edges_in (numbered (bench p v) es)) e ≡ Ok tt
  ok_there ok =
      let b = kept (bench p v) es in
      subst (λ (w : Version). verdict_but_full w p (edges_in (numbered (bench p v) es)) e ≡ Ok tt) (kept_version (bench p v) es)
      (subst (λ (q : Plan). verdict_but_full b.version q (edges_in (numbered (bench p v) es)) e ≡ Ok tt) (kept_plan (bench p v) es)
      (subst (λ (h : List Edge). verdict_but_full b.version b.plan h e ≡ Ok tt) (sym edges_are)
      (ok_by b.version b.plan b.history e _ (verdict_but_full b.version b.plan b.history e) refl ok)))

  -- the next edge is legal behind those that are kept
  pub legal_there : is_ok (verdict (kept (bench p v) es) e) ≡ true
      → IsLegal v p (e ∷ edges_in (numbered (bench p v) es))
  legal_there ok = (
    ok_there ok,
    subst (IsLegal v p) (sym edges_are) (kept_legal v p (bench p v) es refl refl tt),
  )

  from_start : 0 + length es ≡ length es
  from_start = omega arith

  numbered_next : numbered (bench p v) (es ++ e ∷ []) ≡ numbered_with (kept (bench p v) es) (length es + 1) e (numbered (bench p v) es)
  numbered_next = numbered_append (bench p v) 0 [] es (e ∷ []) ∙ ap (λ m. numbered_with (kept (bench p v) es) (m + 1) e (numbered (bench p v) es)) from_start

  numbered_by : (t : Bool) (n : ℕ) → is_ok (verdict (kept (bench p v) es) e) ≡ t → n ≡ length es + 1
      → (if t then (n, e) ∷ numbered (bench p v) es else numbered (bench p v) es) ≡ numbered (bench p v) (es ++ e ∷ [])
  numbered_by t n is count =
      let k = numbered (bench p v) es in
      ap (λ m. if t then (m, e) ∷ k else k) count ∙ ap (λ b. if b then (length es + 1, e) ∷ k else k) (sym is) ∙ sym numbered_next

  module _ (walks : List Walk) (old now : Racing) (is : IsKept p v es walks old)
      (bus : now.bus ≡ after old.bus e) (n : ℕ) (number : n ≡ length es + 1) where
    bus_next : now.bus ≡ kept (bench p v) (es ++ e ∷ [])
    bus_next = bus ∙ ap (λ s. after s e) is.bus ∙ sym (kept_append (bench p v) es (e ∷ []))

    judged_there : (t : Bool) → is_ok (verdict old.bus e) ≡ t → is_ok (verdict (kept (bench p v) es) e) ≡ t
    judged_there t ok = ap (λ s. is_ok (verdict s e)) (sym is.bus) ∙ ok

    -- the next edge is accepted
    pub advances_accepted : (walk : Walk) (line : List ℕ) → is_ok (verdict old.bus e) ≡ true
        → AreLast v p ((n, e) ∷ numbered (bench p v) es) now.recent
        → IsOnPlan v p now.passing
        → IsCounted (walk ∷ walks) now.counts → IsWalk v p e (numbered (bench p v) es) walk
        → line ≡ race_line n e walk.stop → Advances p v es walks e line now
    advances_accepted walk line ok last passing counts goes text =
        let k = numbered (bench p v) es in
        let there = judged_there true ok in
        let all : (n, e) ∷ k ≡ numbered (bench p v) (es ++ e ∷ []) = numbered_by true n there number in (
          walk ∷ walks,
          record {
            bus = bus_next;
            last = subst (λ (m : Numbered). AreLast v p m now.recent) all last;
            passing = passing;
            counts = counts;
            walked = subst (λ (m : Numbered). AreWalks v p m (walk ∷ walks)) all (goes, is.walked);
          },
          ap (λ m. race_lines m (walk ∷ walks)) (sym all) ∙ ap (λ l. race_lines k walks ++ l) (sym text),
        )

    -- it is refused
    pub advances_refused : (line : List ℕ) → line ≡ [] → is_ok (verdict old.bus e) ≡ false
        → now.recent ≡ old.recent → now.passing ≡ old.passing → now.counts ≡ old.counts
        → Advances p v es walks e line now
    advances_refused line empty refused recent passing counts =
        let k = numbered (bench p v) es in
        let all : k ≡ numbered (bench p v) (es ++ e ∷ []) = numbered_by false n (judged_there false refused) number in (
          walks,
          record {
            bus = bus_next;
            last = subst (λ (m : Numbered). AreLast v p m now.recent) all (subst (AreLast v p k) (sym recent) is.last);
            passing = subst (IsOnPlan v p) (sym passing) is.passing;
            counts = subst (IsCounted walks) (sym counts) is.counts;
            walked = subst (λ (m : Numbered). AreWalks v p m walks) all is.walked;
          },
          ap (λ m. race_lines m walks) (sym all) ∙ sym (append-nil (race_lines k walks))
              ∙ ap (λ l. race_lines k walks ++ l) (sym empty),
        )

-- a bus after an edge that it refuses, and after one that it accepts
pub refused_same : (b : State) (e : Edge) → is_ok (verdict b e) ≡ false → b ≡ after b e
refused_same b e refused = sym (ap (λ (t : Bool). if t then made b e else b) refused)

pub accepted_made : (b : State) (e : Edge) → is_ok (verdict b e) ≡ true → after b e ≡ made b e
accepted_made b e accepted = ap (λ (t : Bool). if t then made b e else b) accepted

-- where the bus stands is kept of its edges
state_there : (p : Plan) (v : Version) (es : List Edge) (b : State) (s : BusState)
    → b ≡ kept (bench p v) es → IsStateOf b.version b.plan b.history s
    → IsStateOf v p (edges_in (numbered (bench p v) es)) s
state_there p v es b s is state =
    subst (λ (w : Version). IsStateOf w p (edges_in (numbered (bench p v) es)) s)
    (ap (λ (c : State). c.version) is ∙ kept_version (bench p v) es)
    (subst (λ (q : Plan). IsStateOf b.version q (edges_in (numbered (bench p v) es)) s)
    (ap (λ (c : State). c.plan) is ∙ kept_plan (bench p v) es)
    (subst (λ (h : List Edge). IsStateOf b.version b.plan h s)
    (ap (λ (c : State). c.history) is ∙ sym (edges_on (bench p v) 0 [] es refl)) state))

-- it is one of the plan, and its kind is kept of the edges too
pub plan_there : (p : Plan) (v : Version) (es : List Edge) (b : State) (s : BusState)
    → b ≡ kept (bench p v) es → IsStateOf b.version b.plan b.history s → IsOnPlan v p s
plan_there p v es b s is state = (_, state_there p v es b s is state)

pub kind_there : (p : Plan) (v : Version) (es : List Edge) (b : State) (s : BusState) (kind : BusKind)
    → b ≡ kept (bench p v) es → IsStateOf b.version b.plan b.history s → kind ≡ kind_of s
    → IsKindOf v p (edges_in (numbered (bench p v) es)) kind
kind_there p v es b s kind is state of = (s, state_there p v es b s is state, sym of)
