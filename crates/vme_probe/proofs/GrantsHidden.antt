-- What is known of the grants stays fitting together with the edges that no probe sees: `hindered_laws`.
use Rattle.std.proofs.Common.{◌≡◌, ◌≢◌, ◌∙◌, ◌&&◌, ◌||◌, ◌<◌, ◌≤◌, ℕ, Bool, true, false, not, Option, Some, None, is_some, refl, sym, ap, subst, inl, inr, arith}
use Rattle.std.proofs.lemmas.Bool.{and_parts, cases_Bool}
use Rattle.std.proofs.lemmas.Bool.Decides.{nat_tests}
use Rattle.std.specs.Prelude.{nat_lt, nat_le, ◌==◌, if◌then◌else◌, slice_index_or}
use Rattle.std.specs.Option.{option_map_or}
use Rattle.vme_model.specs.declared.boards.RequesterRow.{RequesterRow}
use Rattle.vme_model.specs.declared.sets.BusLevels.{BusLevels}
use Rattle.vme_model.specs.Accepted.{IsAccepted}
use Rattle.vme_model.specs.Plan.{Plan}
use Rattle.vme_model.specs.Rules.{is_pick}
use Rattle.vme_model.specs.Sets.{has_bus_level}
use Rattle.vme_model.specs.Signals.{is_two}
use Rattle.vme_model.proofs.Bools.{same_number}
use Rattle.vme_model.proofs.Members.{one_chain}
use Rattle.vme_bus.specs.Sets.{has}
use Rattle.vme_captures.specs.declared.signals.Line.TheVariants as line
use Rattle.vme_captures.specs.Levels.{is_line_left_low}
use Rattle.vme_standings.specs.declared.phases.GrantPhase.{GrantPhase}
use Rattle.vme_standings.specs.declared.phases.GrantPhase.TheVariants.{Idle, Granting, Held, Expired}
use Rattle.vme_standings.specs.declared.phases.GrantPhases.{GrantPhases}
use Rattle.vme_standings.specs.declared.standings.Probed.{Probed}
use Rattle.vme_standings.specs.declared.standings.Standings.{Standings}
use Rattle.vme_standings.specs.Driving.{is_left_low}
use Rattle.vme_standings.specs.GrantChains.{end_place, is_follower, is_of_level, requester_at}
use Rattle.vme_standings.specs.Grants.{is_picked}
use Rattle.vme_standings.specs.Hidden.{HasMoved}
use Rattle.vme_standings.specs.InPhase.{is_named}
use Rattle.vme_standings.specs.LowSegments.{is_in_run, is_low_in, is_segment}
use Rattle.vme_standings.specs.Moving.{asked}
use Rattle.vme_standings.specs.Phases.{has_bit, has_phase, is_held, is_in_table, no_slots}
use Rattle.vme_standings.specs.Unseen.{IsReached, has_row_for, is_unseen, leads}
use Rattle.vme_standings.specs.Unseen.IsReached.{Here, Further}
use Rattle.vme_standings.proofs.GrantPlaces.{IsBefore, board_segment, end_last, follower_before, follower_on, near}
use Rattle.vme_standings.proofs.Tests.{both, is_false, never}
use Rattle.vme_probe.specs.ChainsFit.{AgreesWithProbes, GrantsFit, is_expired}
use Rattle.vme_probe.proofs.PhaseLemmas.{of_requester}

-- ---- numbers

pub few_of : (n : ℕ) → nat_lt n 4 ≡ true → n < 4
few_of n h = grind (arith, nat_tests)

pub is_few : (n : ℕ) → n < 4 → nat_lt n 4 ≡ true
is_few n h = grind (arith, nat_tests)

pub is_near : (n : ℕ) → n < 22 → nat_lt n 22 ≡ true
is_near n h = grind (arith, nat_tests)

-- between a segment and the next one there is none: up to both alike, but for the next one itself
pub up_to_next : (x t s : ℕ) → x < t → s ≢ t → (s < t → s ≤ x) → nat_le s t ≡ nat_le s x
up_to_next x t s less other next = elim (cases_Bool (nat_lt s t)) [
  | inl below ↦ (let b : s < t = grind (arith, nat_tests) in let c : s ≤ x = next b in grind (arith, nat_tests))
  | inr above ↦ (let b : t ≤ s = grind (arith, nat_tests) in let c : t < s = apart b in grind (arith, nat_tests))
]
  where
    apart : t ≤ s → t < s
    apart h = elim (cases_Bool (nat_lt t s)) [
      | inl less ↦ (grind (arith, nat_tests))
      | inr least ↦ absurd (other (grind (arith, nat_tests)))
    ]

-- from both on alike, but for the first one itself
pub from_next : (x t s : ℕ) → x < t → s ≢ x → (s < t → s ≤ x) → nat_le t s ≡ nat_le x s
from_next x t s less other next = elim (cases_Bool (nat_lt s t)) [
  | inl below ↦ (let b : s < t = grind (arith, nat_tests) in let c : s < x = apart (next b) in grind (arith, nat_tests))
  | inr above ↦ (let b : t ≤ s = grind (arith, nat_tests) in grind (arith, nat_tests))
]
  where
    apart : s ≤ x → s < x
    apart h = elim (cases_Bool (nat_lt s x)) [
      | inl less ↦ (grind (arith, nat_tests))
      | inr least ↦ absurd (other (grind (arith, nat_tests)))
    ]

pub and_same : (a x y : Bool) → (a ≡ true → x ≡ y) → (a && x) ≡ (a && y)
and_same true x y h = h refl
and_same false x y h = refl

contrary : (b : Bool) → b ≡ true → not b ≡ true → ⊥
contrary true h k = never false k refl
contrary false h k = never false h refl

-- what is picked is one of four levels
one_of_four : (b : Bool) (n c : ℕ) (rest : Option ℕ) → n < 4 → (option_map_or (λ m. m == c) rest false ≡ true → c < 4) → option_map_or (λ m. m == c) (if b then Some n else rest) false ≡ true → c < 4
one_of_four true n c rest l next e = subst (λ m. m < 4) (same_number n c e) l
one_of_four false n c rest l next e = next e

picked_few : (p : Plan) (requests : BusLevels) (last c : ℕ) → is_picked p requests last c ≡ true → c < 4
picked_few p requests last c e =
    one_of_four (f 0) 0 c _ (omega arith) (one_of_four (f 1) 1 c _ (omega arith) (one_of_four (f 2) 2 c _ (omega arith) (one_of_four (f 3) 3 c None (omega arith) (λ n. absurd (cc))))) e
  where
    f : ℕ → Bool
    f = is_pick p.arbiter (has_bus_level requests) last

-- ---- from a phase to the next

module _ (p : Plan) (ok : IsAccepted p) (probed : Probed) (st : Standings) (requests : BusLevels) where
  -- a probed segment is not one without a probe
  not_unseen : (c s x : ℕ) → has (slice_index_or probed.segments.grants c no_slots) s ≡ true → is_unseen probed.segments.grants c x ≡ true → s ≢ x
  not_unseen c s x seen unseen same =
      contrary (has (slice_index_or probed.segments.grants c no_slots) x) (subst (λ k. has (slice_index_or probed.segments.grants c no_slots) k ≡ true) same seen) unseen

  -- the same segments that have a probe are low in the two
  abbrev Alike : GrantPhase → GrantPhase → Type 0
  Alike r q = (c s : ℕ) → c < 4 → s < 22 → has (slice_index_or probed.segments.grants c no_slots) s ≡ true → is_segment p c s ≡ true → is_in_run p c s r ≡ is_in_run p c s q

  led : (q r : GrantPhase) → AgreesWithProbes p probed st q → is_in_table r ≡ true → is_named p r ≡ true → (is_expired r ≡ true → is_two probed.version ≡ true) → is_held r ≡ is_held q → Alike r q
      → AgreesWithProbes p probed st r
  led q r fit near named two held alike = record {
    near = near;
    named = named;
    two = two;
    bbsy = held ∙ fit.bbsy;
    shown = λ c few s to seen. and_same (is_segment p c s) (is_in_run p c s r) (is_in_run p c s q) (λ seg. alike c s few to seen seg) ∙ fit.shown c few s to seen;
  }

  not_expired : (b : Bool) → false ≡ true → b ≡ true
  not_expired b h = absurd (never false h refl)

  leads_on : (q r : GrantPhase) → leads p probed.version requests probed.segments.grants q r ≡ true → AgreesWithProbes p probed st q → AgreesWithProbes p probed st r
  leads_on (Idle last) (Granting n t) lead fit =
      let l = and_parts (is_unseen probed.segments.grants n 0) (t == 0 && is_picked p requests last n) lead in
      let k = and_parts (t == 0) (is_picked p requests last n) l.1 in
      let zero_is : t ≡ 0 = same_number t 0 k.0 in
      led (Idle last) (Granting n t) fit (both _ _ (is_few n (picked_few p requests last n k.1)) (is_near t (omega (arith, zero_is)))) (subst (λ x. is_segment p n x ≡ true) (sym zero_is) refl)
      (not_expired (is_two probed.version)) refl
      (λ c s few to seen seg. is_false (n == c && nat_le s t) (λ h.
      let m = and_parts (n == c) (nat_le s t) h in
      not_unseen c s 0 seen (subst (λ x. is_unseen probed.segments.grants x 0 ≡ true) (same_number n c m.0) l.0) (none s t zero_is m.1)))
    where
      none : (s t : ℕ) → t ≡ 0 → nat_le s t ≡ true → s ≡ 0
      none s t e h = let l : s ≤ t = grind (arith, nat_tests) in omega (arith, l, e)
  leads_on (Granting n x) (Granting m t) lead fit =
      let l = and_parts (m == n && is_follower p n x t) ((is_two probed.version || not (t == end_place p n)) && is_unseen probed.segments.grants n t) lead in
      let k = and_parts (m == n) (is_follower p n x t) l.0 in
      let same : m ≡ n = same_number m n k.0 in
      let unseen = (and_parts (is_two probed.version || not (t == end_place p n)) (is_unseen probed.segments.grants n t) l.1).1 in
      let few_n = few_of n (and_parts (nat_lt n 4) (nat_lt x 22) fit.near).0 in
      let on = follower_on p ok n few_n x t k.1 in
      let before = follower_before p ok n few_n x t k.1 in
      subst (λ k. AgreesWithProbes p probed st (Granting k t)) (sym same)
      (led (Granting n x) (Granting n t) fit (both _ _ (is_few n few_n) (is_near t (near p ok n t on))) (board_segment p n t on) (not_expired (is_two probed.version)) refl
      (λ c s few to seen seg. and_same (n == c) (nat_le s t) (nat_le s x) (λ e.
      let is = same_number n c e in
      up_to_next x t s before.below (not_unseen c s t seen (subst (λ k. is_unseen probed.segments.grants k t ≡ true) is unseen))
      (λ less. before.greatest s (subst (λ k. is_segment p k s ≡ true) (sym is) seg) less))))
  leads_on (Granting n x) (Expired m t) lead fit =
      let l = and_parts (m == n && is_follower p n 0 t) (is_two probed.version && (is_unseen probed.segments.grants n 0 && x == end_place p n)) lead in
      let k = and_parts (m == n) (is_follower p n 0 t) l.0 in
      let same : m ≡ n = same_number m n k.0 in
      let u = and_parts (is_two probed.version) (is_unseen probed.segments.grants n 0 && x == end_place p n) l.1 in
      let w = and_parts (is_unseen probed.segments.grants n 0) (x == end_place p n) u.1 in
      let last : x ≡ end_place p n = same_number x (end_place p n) w.1 in
      let few_n = few_of n (and_parts (nat_lt n 4) (nat_lt x 22) fit.near).0 in
      let on = follower_on p ok n few_n 0 t k.1 in
      let before = follower_before p ok n few_n 0 t k.1 in
      subst (λ k. AgreesWithProbes p probed st (Expired k t)) (sym same)
      (led (Granting n x) (Expired n t) fit (both _ _ (is_few n few_n) (is_near t (near p ok n t on))) on (λ _. u.0) refl
      (λ c s few to seen seg. and_same (n == c) (nat_le t s) (nat_le s x) (λ e.
      let is = same_number n c e in
      let own = subst (λ k. is_segment p k s ≡ true) (sym is) seg in
      behind t s (not_unseen c s 0 seen (subst (λ k. is_unseen probed.segments.grants k 0 ≡ true) is w.0)) (λ less. before.greatest s own less)
      ∙ sym (inside s x (subst (λ k. s ≤ k) (sym last) (end_last p ok n few_n s own))))))
    where
      behind : (t s : ℕ) → s ≢ 0 → (s < t → s ≤ 0) → nat_le t s ≡ true
      behind t s other next = elim (cases_Bool (nat_lt s t)) [
        | inl below ↦ absurd (let b : s < t = grind (arith, nat_tests) in let c = next b in other (omega (arith, c)))
        | inr above ↦ (grind (arith, nat_tests))
      ]

      inside : (s x : ℕ) → s ≤ x → nat_le s x ≡ true
      inside s x h = grind (arith, nat_tests)
  leads_on (Held b x) (Held k t) lead fit = by_row (requester_at p b) refl (and_parts (k == b && nat_le t b) _ lead)
    where
      by_row : (o : Option RequesterRow) → requester_at p b ≡ o → ((k == b && nat_le t b) ≡ true)
          × (option_map_or (λ q. is_follower p q.level x t && is_unseen probed.segments.grants q.level x) o false ≡ true)
          → AgreesWithProbes p probed st (Held k t)
      by_row None found l = absurd (never false l.1 refl)
      by_row (Some r) found l =
          let j = and_parts (k == b) (nat_le t b) l.0 in
          let m = and_parts (is_follower p r.level x t) (is_unseen probed.segments.grants r.level x) l.1 in
          let same : k ≡ b = same_number k b j.0 in
          let of = of_requester p ok b r found in
          let on = follower_on p ok r.level of.few x t m.0 in
          let before = follower_before p ok r.level of.few x t m.0 in
          let named : is_named p (Held b t) ≡ true =
          both _ _ (subst (λ o. option_map_or (λ q. is_segment p q.level t) o false ≡ true) (sym found) (board_segment p r.level t on)) j.1 in
          subst (λ k. AgreesWithProbes p probed st (Held k t)) (sym same)
          (led (Held b x) (Held b t) fit (both _ _ (and_parts (nat_lt b 22) (nat_lt x 22) fit.near).0 (is_near t (near p ok r.level t on))) named (not_expired (is_two probed.version)) refl
          (λ c s few to seen seg. and_same (is_of_level p c b) (nat_le t s && nat_lt s b) (nat_le x s && nat_lt s b) (λ e.
          let is : r.level ≡ c = one_chain p r.level c b of.on e in
          ap (λ z. z && nat_lt s b)
          (from_next x t s before.below (not_unseen c s x seen (subst (λ k. is_unseen probed.segments.grants k x ≡ true) is m.1))
          (λ less. before.greatest s (subst (λ k. is_segment p k s ≡ true) (sym is) seg) less)))))
  leads_on (Expired n x) (Expired m t) lead fit =
      let l = and_parts (m == n && is_follower p n x t) (is_two probed.version && is_unseen probed.segments.grants n x) lead in
      let k = and_parts (m == n) (is_follower p n x t) l.0 in
      let same : m ≡ n = same_number m n k.0 in
      let u = and_parts (is_two probed.version) (is_unseen probed.segments.grants n x) l.1 in
      let few_n = few_of n (and_parts (nat_lt n 4) (nat_lt x 22) fit.near).0 in
      let on = follower_on p ok n few_n x t k.1 in
      let before = follower_before p ok n few_n x t k.1 in
      subst (λ k. AgreesWithProbes p probed st (Expired k t)) (sym same)
      (led (Expired n x) (Expired n t) fit (both _ _ (is_few n few_n) (is_near t (near p ok n t on))) on (λ _. u.0) refl
      (λ c s few to seen seg. and_same (n == c) (nat_le t s) (nat_le x s) (λ e.
      let is = same_number n c e in
      from_next x t s before.below (not_unseen c s x seen (subst (λ k. is_unseen probed.segments.grants k x ≡ true) is u.1))
      (λ less. before.greatest s (subst (λ k. is_segment p k s ≡ true) (sym is) seg) less))))
  leads_on (Expired n x) (Idle m) lead fit =
      let l = and_parts (m == n) (is_two probed.version && (is_unseen probed.segments.grants n x && x == end_place p n)) lead in
      let same : m ≡ n = same_number m n l.0 in
      let u = and_parts (is_two probed.version) (is_unseen probed.segments.grants n x && x == end_place p n) l.1 in
      let w = and_parts (is_unseen probed.segments.grants n x) (x == end_place p n) u.1 in
      let last : x ≡ end_place p n = same_number x (end_place p n) w.1 in
      let few_n = few_of n (and_parts (nat_lt n 4) (nat_lt x 22) fit.near).0 in
      subst (λ k. AgreesWithProbes p probed st (Idle k)) (sym same)
      (led (Expired n x) (Idle n) fit (is_few n few_n) refl (not_expired (is_two probed.version)) refl
      (λ c s few to seen seg. sym (is_false (n == c && nat_le x s) (λ h.
      let j = and_parts (n == c) (nat_le x s) h in
      let is = same_number n c j.0 in
      let most = end_last p ok n few_n s (subst (λ k. is_segment p k s ≡ true) (sym is) seg) in
      not_unseen c s x seen (subst (λ k. is_unseen probed.segments.grants k x ≡ true) is w.0) (meet s x j.1 (subst (λ k. s ≤ k) (sym last) most))))))
    where
      meet : (s x : ℕ) → nat_le x s ≡ true → s ≤ x → s ≡ x
      meet s x h k = grind (arith, nat_tests)
  leads_on q r lead fit = absurd (never false lead refl)

  -- whatever is reached agrees with the probes
  reached : (phases : GrantPhases) (q : GrantPhase) → IsReached p probed.version requests probed.segments.grants phases q
      → ((r : GrantPhase) → has_phase phases r ≡ true → AgreesWithProbes p probed st r)
      → AgreesWithProbes p probed st q
  reached phases _ (Here q there) each = each q there
  reached phases _ (Further q r before lead) each = leads_on q r lead (reached phases q before each)

row_of : (q : GrantPhase) → has_bit q ≡ true → has_row_for q ≡ true
row_of (Idle c) h = h
row_of (Granting c t) h = (and_parts (nat_lt c 4) (nat_lt t 32) h).0
row_of (Held b t) h = (and_parts (nat_lt b 22) (nat_lt t 32) h).0
row_of (Expired c t) h = (and_parts (nat_lt c 4) (nat_lt t 32) h).0

row_in : (q : GrantPhase) → is_in_table q ≡ true → has_row_for q ≡ true
row_in (Idle c) h = h
row_in (Granting c t) h = (and_parts (nat_lt c 4) (nat_lt t 22) h).0
row_in (Held b t) h = (and_parts (nat_lt b 22) (nat_lt t 22) h).0
row_in (Expired c t) h = (and_parts (nat_lt c 4) (nat_lt t 22) h).0

-- the same of a record with the same lines and segments
pub carried : (p : Plan) (probed : Probed) (old new : Standings) → new.lines ≡ old.lines → new.low ≡ old.low → (q : GrantPhase) → AgreesWithProbes p probed old q → AgreesWithProbes p probed new q
carried p probed old new lines low q fit = record {
  near = fit.near;
  named = fit.named;
  two = fit.two;
  bbsy = fit.bbsy ∙ ap (λ l. is_line_left_low l line.Bbsy) (sym lines);
  shown = λ c few s to seen. fit.shown c few s to seen ∙ ap (λ l. has (slice_index_or l.grants c no_slots) s) (sym low);
}

pub hidden : (p : Plan) (probed : Probed) (old new : Standings) → IsAccepted p → HasMoved p probed old new → GrantsFit p probed old → GrantsFit p probed new
hidden p probed old new ok h fits = record {
  some = (fits.some.0, h.phases.kept fits.some.0 (row_in fits.some.0 (fits.each fits.some.0 fits.some.1).near) fits.some.1);
  each = λ q there.
      carried p probed old new h.lines h.low q
      (reached p ok probed old (asked old.lines) old.phases q (h.phases.only q (row_of q (h.phases.bits q there)) there) fits.each);
}
