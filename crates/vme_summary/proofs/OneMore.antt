-- A tally before the first edge, and after one more.
use Rattle.std.proofs.Common.{◌≡◌, ◌∙◌, refl, sym, ap, subst, ℕ, ◌+◌, ◌<◌, ◌^◌, Bool, true, false, List, [], ◌∷◌, length, get_or, set, replicate, inl, inr, Option, Ok, Err, arith}
use Rattle.std.specs.Prelude.{◌==◌, ◌&&◌, is_ok, is_some}
use Rattle.std.proofs.lemmas.Bool.{cases_eq}
use Rattle.std.proofs.lemmas.Bool.Decides.{nat_tests}
use Rattle.std.proofs.lemmas.List.{get_or-replicate, length-replicate, length-set, get_or-set_same, get_or-set_other}
use Rattle.vme_model.specs.declared.refusals.Refused.{Refused}
use Rattle.vme_model.specs.declared.refusals.Refused.TheVariants.{NoSuchDriver, AlreadyThere, Rule, NotSettled, TraceFull}
use Rattle.vme_summary.specs.declared.refusals.Refusals.{Refusals}
use Rattle.vme_model.specs.declared.deliveries.Delivery.{Delivery}
use Rattle.vme_model.specs.declared.signals.Cycle.{Cycle}
use Rattle.vme_model.specs.declared.signals.Version.{Version}
use Rattle.vme_model.specs.declared.signals.Driver.{Driver}
use Rattle.vme_model.specs.declared.signals.Driver.TheVariants.{Controller, Slot}
use Rattle.vme_model.specs.declared.signals.Wire.{Wire}
use Rattle.vme_model.specs.declared.signals.Wire.TheVariants.{Bg, Bclr, Iack, Berr, Br, BgOut, Bbsy, Addr, AddressStrobe, DataStrobe, Irq, IackOut, Dtack}
use Rattle.vme_model.specs.declared.signals.Edge.{Edge}
use Rattle.vme_model.specs.Readings.{Readings, readings}
use Rattle.vme_model.specs.Rules.{rule}
use Rattle.vme_model.specs.Verdict.{State}
use Rattle.vme_goals.specs.declared.events.Event.{Event}
use Rattle.vme_events.specs.Events.{events_of}
use Rattle.vme_summary.specs.declared.boards.BoardTally.{BoardTally}
use Rattle.vme_summary.specs.declared.tallies.Tally.{Tally}
use Rattle.vme_summary.specs.Tally.{Answered, Answers, answered_edge, is_accepted, is_refusal, refused_for, board_tally}
use Rattle.vme_summary.specs.Tallied.{more, idle, board_after, boards_after, rule_number, met_after, IsRefusalsOf, IsMetOf, IsTallyOf}
use Rattle.vme_summary.proofs.Situations.{events_came, nothing_came}
use Rattle.vme_summary.proofs.Counted.{more_one, count_no, counted}
use Rattle.vme_summary.proofs.OneBoard.{unmoved, refused_moves_none, other_moves_none, own_moves}

pub nothing_refused : (r : Refusals) → r.rules ≡ replicate 27 0 → r.settlings ≡ replicate 5 0 → r.no_such_driver ≡ 0 → r.already_there ≡ 0 → r.trace_full ≡ 0 → IsRefusalsOf [] r
nothing_refused r rules settlings no_such_driver already_there trace_full = record {
  places = (ap length rules ∙ length-replicate {A = ℕ} 27 0, ap length settlings ∙ length-replicate {A = ℕ} 5 0);
  rules = λ k within. ap (λ xs. get_or xs k 0) rules ∙ get_or-replicate {A = ℕ} 27 k 0 0 within;
  settlings = λ k within. ap (λ xs. get_or xs k 0) settlings ∙ get_or-replicate {A = ℕ} 5 k 0 0 within;
  no_such_driver = no_such_driver;
  already_there = already_there;
  trace_full = trace_full;
}

-- an edge that is refused otherwise
other_refusal : (r q : Refused) (a : Answered) (t : Answers) → a.answer ≡ Err q → is_refusal r (Err q) ≡ false → refused_for r (a ∷ t) ≡ refused_for r t
other_refusal r q a t is otherwise = count_no (λ b. is_refusal r b.answer) a t (ap (is_refusal r) is ∙ otherwise)

pub rule_refused : (r s : Refusals) (a : Answered) (t : Answers) (i : ℕ) → IsRefusalsOf t r → a.answer ≡ Err (Rule i) → length t + 1 < 2 ^ 64
    → s ≡ record r { rules = set r.rules i (more (get_or r.rules i 0) 1) } → IsRefusalsOf (a ∷ t) s
rule_refused r s a t i is refused few after = rw after (record {
  places = (length-set r.rules i (more (get_or r.rules i 0) 1) ∙ is.places.0, is.places.1);
  rules = λ k within. counted (λ b. is_refusal (Rule k) b.answer) a t r.rules i k (rw is.places.0 within) few (is.rules k within) (ap (is_refusal (Rule k)) refused);
  settlings = λ k within. is.settlings k within ∙ sym (other_refusal (NotSettled k) (Rule i) a t refused refl);
  no_such_driver = is.no_such_driver ∙ sym (other_refusal NoSuchDriver (Rule i) a t refused refl);
  already_there = is.already_there ∙ sym (other_refusal AlreadyThere (Rule i) a t refused refl);
  trace_full = is.trace_full ∙ sym (other_refusal TraceFull (Rule i) a t refused refl);
})

pub settling_refused : (r s : Refusals) (a : Answered) (t : Answers) (i : ℕ) → IsRefusalsOf t r → a.answer ≡ Err (NotSettled i) → length t + 1 < 2 ^ 64
    → s ≡ record r { settlings = set r.settlings i (more (get_or r.settlings i 0) 1) } → IsRefusalsOf (a ∷ t) s
settling_refused r s a t i is refused few after = rw after (record {
  places = (is.places.0, length-set r.settlings i (more (get_or r.settlings i 0) 1) ∙ is.places.1);
  rules = λ k within. is.rules k within ∙ sym (other_refusal (Rule k) (NotSettled i) a t refused refl);
  settlings = λ k within. counted (λ b. is_refusal (NotSettled k) b.answer) a t r.settlings i k (rw is.places.1 within) few (is.settlings k within) (ap (is_refusal (NotSettled k)) refused);
  no_such_driver = is.no_such_driver ∙ sym (other_refusal NoSuchDriver (NotSettled i) a t refused refl);
  already_there = is.already_there ∙ sym (other_refusal AlreadyThere (NotSettled i) a t refused refl);
  trace_full = is.trace_full ∙ sym (other_refusal TraceFull (NotSettled i) a t refused refl);
})

-- an edge that is accepted
accepted_refuses_none : (r : Refusals) (a : Answered) (t : Answers) (d : Option Delivery) → IsRefusalsOf t r → a.answer ≡ Ok d → IsRefusalsOf (a ∷ t) r
accepted_refuses_none r a t d is accepted = record {
  places = is.places;
  rules = λ k within. is.rules k within ∙ sym (none (Rule k) refl);
  settlings = λ k within. is.settlings k within ∙ sym (none (NotSettled k) refl);
  no_such_driver = is.no_such_driver ∙ sym (none NoSuchDriver refl);
  already_there = is.already_there ∙ sym (none AlreadyThere refl);
  trace_full = is.trace_full ∙ sym (none TraceFull refl);
}
  where
    none : (q : Refused) → is_refusal q (Ok d) ≡ false → refused_for q (a ∷ t) ≡ refused_for q t
    none q otherwise = count_no (λ b. is_refusal q b.answer) a t (ap (is_refusal q) accepted ∙ otherwise)

-- a wire and a direction have one rule, whatever is read
pub numbered : (version : Version) (r : Readings) (w : Wire) (fall : Bool) (v : Option Cycle) → (rule version r w fall v).0 ≡ rule_number w fall
numbered version r (Bg n) true v = refl
numbered version r (Bg n) false v = refl
numbered version r Bclr true v = refl
numbered version r Bclr false v = refl
numbered version r Iack true v = refl
numbered version r Iack false v = refl
numbered version r Berr true v = refl
numbered version r Berr false v = refl
numbered version r Br true v = refl
numbered version r Br false v = refl
numbered version r BgOut true v = refl
numbered version r BgOut false v = refl
numbered version r Bbsy true v = refl
numbered version r Bbsy false v = refl
numbered version r Addr true v = refl
numbered version r Addr false v = refl
numbered version r AddressStrobe true v = refl
numbered version r AddressStrobe false v = refl
numbered version r DataStrobe true v = refl
numbered version r DataStrobe false v = refl
numbered version r Irq true v = refl
numbered version r Irq false v = refl
numbered version r IackOut true v = refl
numbered version r IackOut false v = refl
numbered version r Dtack true v = refl
numbered version r Dtack false v = refl

-- the boards after it
boards_length : (boards : List BoardTally) (u : Driver) (e : Edge) (n : ℕ) (delivers : Bool) → length (boards_after boards u e n delivers) ≡ length boards
boards_length boards Controller e n delivers = refl
boards_length boards (Slot s) e n delivers = length-set boards s (board_after (get_or boards s idle) e.wire e.fall n delivers)

module _ (b : State) (w : Wire) (fall : Bool) (v : Option Cycle) (d : Option Delivery) (t : Answers) (few : length t + 1 < 2 ^ 64) where
  abbrev pub edge : Driver → Edge
  edge u = record { driver = u; wire = w; fall = fall; value = v }

  own_board : (boards : List BoardTally) (u : ℕ) → (answered_edge b (edge (Slot u))).answer ≡ Ok d → length boards ≡ 22 → ((s : ℕ) → s < 22 → get_or boards s idle ≡ board_tally s t) → u < 22
      → get_or (boards_after boards (Slot u) (edge (Slot u)) (length t + 1) (is_some d)) u idle ≡ board_tally u (answered_edge b (edge (Slot u)) ∷ t)
  own_board boards u accepted places is within =
      get_or-set_same boards u (board_after (get_or boards u idle) w fall (length t + 1) (is_some d)) idle (rw places within)
      ∙ ap (λ x. board_after x w fall (length t + 1) (is_some d)) (is u within)
      ∙ own_moves u (answered_edge b (edge (Slot u))) w fall d t few accepted refl refl refl

  boards_are : (boards : List BoardTally) (u : Driver) → (answered_edge b (edge u)).answer ≡ Ok d → length boards ≡ 22 → ((s : ℕ) → s < 22 → get_or boards s idle ≡ board_tally s t)
      → (s : ℕ) → s < 22 → get_or (boards_after boards u (edge u) (length t + 1) (is_some d)) s idle ≡ board_tally s (answered_edge b (edge u) ∷ t)
  boards_are boards Controller accepted places is s within =
      is s within ∙ sym (unmoved s (answered_edge b (edge Controller)) t few (other_moves_none s (answered_edge b (edge Controller)) refl))
  boards_are boards (Slot u) accepted places is s within = elim (cases_eq u s) [
    | inl same ↦ subst (λ x. get_or (boards_after boards (Slot u) (edge (Slot u)) (length t + 1) (is_some d)) x idle ≡ board_tally x (answered_edge b (edge (Slot u)) ∷ t)) same
        (own_board boards u accepted places is (rw same within))
    | inr other ↦
        let apart : (u == s) ≡ false = grind (arith, nat_tests, other) in
        get_or-set_other boards u s (board_after (get_or boards u idle) w fall (length t + 1) (is_some d)) idle (λ e. other (sym e)) ∙ is s within
        ∙ sym (unmoved s (answered_edge b (edge (Slot u))) t few (other_moves_none s (answered_edge b (edge (Slot u))) apart))
  ]

  pub edge_accepted : (x y : Tally) (u : Driver) (n : ℕ) (vs : List Event) → IsTallyOf t x → (answered_edge b (edge u)).answer ≡ Ok d → n ≡ x.edges + 1 → vs ≡ events_of b.plan b.history (edge u)
      → y ≡ record x {
        edges = n;
        accepted = more x.accepted 1;
        passed = set x.passed (rule_number w fall) (more (get_or x.passed (rule_number w fall) 0) 1);
        met = met_after n x.met vs;
        boards = boards_after x.boards u (edge u) n (is_some d);
      }
      → IsTallyOf (answered_edge b (edge u) ∷ t) y
  edge_accepted x y u n vs is accepted next comes after =
      let a = answered_edge b (edge u) in
      let passes : is_accepted a ≡ true = ap is_ok accepted in
      let count : n ≡ length t + 1 = next ∙ ap (λ m. m + 1) is.edges in
      rw (after, count, comes) (record {
        edges = omega arith;
        accepted = more_one is_accepted a t x.accepted few is.accepted passes;
        places = (length-set x.passed (rule_number w fall) (more (get_or x.passed (rule_number w fall) 0) 1) ∙ is.places.0, boards_length x.boards u (edge u) (length t + 1) (is_some d) ∙ is.places.1);
        passed = λ k within. counted (λ c. is_accepted c && c.rule == k) a t x.passed (rule_number w fall) k (rw is.places.0 within) few (is.passed k within)
            (ap (λ (o : Bool). o && (a.rule == k)) passes ∙ ap (λ m. m == k) (numbered b.version (readings b.plan b.history u) w fall v));
        refusals = accepted_refuses_none x.refusals a t d is.refusals accepted;
        met = events_came a t x.met few passes is.met;
        boards = boards_are x.boards u accepted is.places.1 is.boards;
      })

-- an edge that is refused
pub edge_refused : (b : State) (e : Edge) (q : Refused) (t : Answers) (x y : Tally) (r : Refusals) (n : ℕ) → length t + 1 < 2 ^ 64 → IsTallyOf t x → (answered_edge b e).answer ≡ Err q
    → n ≡ x.edges + 1
    → IsRefusalsOf (answered_edge b e ∷ t) r → y ≡ record x { edges = n; refusals = r } → IsTallyOf (answered_edge b e ∷ t) y
edge_refused b e q t x y r n few is refused next counts after =
    let a = answered_edge b e in
    let fails : is_accepted a ≡ false = ap is_ok refused in
    let count : n ≡ length t + 1 = next ∙ ap (λ m. m + 1) is.edges in
    rw (after, count) (record {
      edges = omega arith;
      accepted = is.accepted ∙ sym (count_no is_accepted a t fails);
      places = is.places;
      passed = λ k within. is.passed k within ∙ sym (count_no (λ c. is_accepted c && c.rule == k) a t (ap (λ (o : Bool). o && (a.rule == k)) fails));
      refusals = counts;
      met = nothing_came a t x.met fails is.met;
      boards = λ s within. is.boards s within ∙ sym (unmoved s a t few (refused_moves_none s a fails));
    })

-- before the first edge
pub no_edge : (x : Tally) → x.edges ≡ 0 → x.accepted ≡ 0 → x.passed ≡ replicate 27 0 → IsRefusalsOf [] x.refusals → IsMetOf [] x.met → x.boards ≡ replicate 22 idle → IsTallyOf [] x
no_edge x edges accepted passed refusals met boards = record {
  edges = edges;
  accepted = accepted;
  places = (ap length passed ∙ length-replicate {A = ℕ} 27 0, ap length boards ∙ length-replicate {A = BoardTally} 22 idle);
  passed = λ k within. ap (λ xs. get_or xs k 0) passed ∙ get_or-replicate {A = ℕ} 27 k 0 0 within;
  refusals = refusals;
  met = met;
  boards = λ s within. ap (λ xs. get_or xs s idle) boards ∙ get_or-replicate {A = BoardTally} 22 s idle idle within;
}
