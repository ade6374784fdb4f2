-- A bench that draws on all wires makes the walk of its seed.
use Rattle.std.proofs.Common.{◌≡◌, ◌∙◌, refl, sym, ap, subst, ℕ, zero, suc, ◌+◌, ◌<◌, ◌≤◌, Bool, true, false, List, [], ◌∷◌, length, arith}
use Rattle.std.proofs.lemmas.Bool.{ne_eqb}
use Rattle.std.proofs.lemmas.List.Sums.{length-filter, count_by-le-length}
use Rattle.std.specs.Prelude.{Option, Some, None, Ok, is_ok, if◌then◌else◌, ◌==◌, not, sum}
use Rattle.std.specs.Option.{option_map_or}
use Rattle.vme_model.specs.declared.refusals.Refused.TheVariants.{NoSuchDriver, TraceFull}
use Rattle.vme_model.specs.declared.signals.Edge.{Edge}
use Rattle.vme_model.specs.declared.signals.Version.{Version}
use Rattle.vme_model.specs.Accepted.{IsAccepted}
use Rattle.vme_model.specs.Plan.{Plan, has_driver}
use Rattle.vme_model.specs.Signals.{is_well_formed}
use Rattle.vme_model.specs.Verdict.{Judgement, check, judged, verdict, verdict_but_full}
use Rattle.vme_model.proofs.AllowedEdges.{checked}
use Rattle.vme_model.proofs.Bools.{and_left}
use Rattle.vme_seeds.specs.declared.draws.Draws.{Draws}
use Rattle.vme_seeds.specs.declared.kinds.Kind.{Kind}
use Rattle.vme_seeds.specs.Choices.{chances, choices}
use Rattle.vme_seeds.specs.Draws.{IsCountedIn, made_of, next_by, numbers_of}
use Rattle.vme_seeds.specs.Kinds.{count, has_board, is_of, kind_of}
use Rattle.vme_seeds.specs.Laws.{EachIsOpen, FollowOn, Follows, OneOfThese, SomeIsDrawn}
use Rattle.vme_seeds.specs.Numbers.{after_words, generator, scaled, word}
use Rattle.vme_seeds.specs.Tallies.{CountsIn}
use Rattle.vme_seeds.specs.Walks.{Walk, drawn, next_edge, walked, weights, with_edge}
use Rattle.vmebus_c.specs.Laws.{DrawsTheWalk, PlaysAll, stepped_by}
use Rattle.vmebus_c.specs.Played.{AreWeighed, drawn_edge, played}
use Rattle.vmebus_c.specs.Stepped.{followed}
use Rattle.vmebus_c.proofs.EdgeWords.{word_names}
use Rattle.vmebus_c.proofs.NoneOpen.{none_drawn, none_of_none, some_weight}

few : (boards : ℕ → Bool) (k : Kind) (es : List Edge) → count boards k es ≤ length es
few boards k es = omega (arith, length-filter (is_of boards k) es, count_by-le-length (is_of boards k) es)

-- from where a walk stands, a bench goes on
pub record GoesOn (w : Walk) (wires : List ℕ) (h : ℕ → List Edge) (d : ℕ → Draws) : Type 0 where
  pub begins : h 0 ≡ w.state.history
  pub follows : Follows w (d 0)
  pub stepped : (n : ℕ) → h (suc n)
      ≡ stepped_by w.state.version w.state.plan (h n) (drawn_edge w.state.version w.state.plan (h n) wires (d n))
  pub moved : (n : ℕ) → numbers_of (d (suc n)) ≡ after_words 2 (numbers_of (d n))
  pub kept : (n : ℕ) → (d (suc n)).weights ≡ (d n).weights
  pub counted : (n : ℕ) → IsCountedIn (has_board w.state.plan)
      (drawn_edge w.state.version w.state.plan (h n) wires (d n)) (d n) (d (suc n))

module _ (next : DrawsTheWalk) (on : FollowOn) (allowed : EachIsOpen) (one : OneOfThese) (some : SomeIsDrawn) (wires : List ℕ) (all : PlaysAll wires) where
  -- where no edge is open, none is made
  stays : (version : Version) (p : Plan) (es : List Edge) (h : ℕ → List Edge) (d : ℕ → Draws) → h 0 ≡ es → played version p es wires ≡ []
      → ((n : ℕ) → h (suc n) ≡ stepped_by version p (h n) (drawn_edge version p (h n) wires (d n))) → (n : ℕ) → h n ≡ es
  stays version p es h d begins none stepped zero = begins
  stays version p es h d begins none stepped (suc n) =
      stepped n
      ∙ ap (λ (x : List Edge). stepped_by version p x (drawn_edge version p x wires (d n))) (stays version p es h d begins none stepped n)
      ∙ ap (λ (x : List Edge). stepped_by version p es (next_by (d n) (has_board p) x)) none
      ∙ ap (stepped_by version p es) (none_of_none one some (d n) (has_board p))

  -- one draw and step
  module _ (w : Walk) (h : ℕ → List Edge) (d : ℕ → Draws) (accepted : IsAccepted w.state.plan) (at : GoesOn w wires h d) (room : length w.state.history < w.state.max)
      (most : w.state.max ≤ 1048576) where
    abbrev drawn_on : List Edge → Option Edge
    drawn_on x = drawn_edge w.state.version w.state.plan x wires (d 0)

    has_room : (length w.state.history == w.state.max) ≡ false
    has_room = ne_eqb (length w.state.history) w.state.max (λ e. omega (arith, room, e))

    drawn_is : drawn_on (h 0) ≡ next_edge w
    drawn_is = ap drawn_on at.begins ∙ next w (d 0) wires accepted has_room all at.follows

    first : h 1 ≡ stepped_by w.state.version w.state.plan w.state.history (next_edge w)
    first =
        at.stepped 0
        ∙ ap (λ (x : List Edge). stepped_by w.state.version w.state.plan x (drawn_on (h 0))) at.begins
        ∙ ap (stepped_by w.state.version w.state.plan w.state.history) drawn_is

    weighed : AreWeighed (d 0)
    weighed k = subst (λ n. 0 < n) (sym (at.follows.weighed k)) (some_weight _)

    none_open : next_edge w ≡ None → played w.state.version w.state.plan w.state.history wires ≡ []
    none_open none =
        (none_drawn one some (d 0) (has_board w.state.plan) weighed (played w.state.version w.state.plan w.state.history wires)).0
        (sym (ap drawn_on at.begins) ∙ drawn_is ∙ none)

    module _ (e : Edge) (is : next_edge w ≡ Some e) where
      ok : verdict w.state e ≡ Ok tt
      ok =
          let x = scaled (word w.numbers) (sum (chances (weights w) w.state)) in
          allowed (generator w.seed) w.state x (scaled (word (after_words 1 w.numbers)) (choices (weights w) w.state x)) e is

      ok_but_full : verdict_but_full w.state.version w.state.plan w.state.history e ≡ Ok tt
      ok_but_full = sym (ap (λ (x : Bool). judged w.state.version w.state.plan w.state.history e (check (not x) TraceFull (Ok tt))) has_room) ∙ ok

      well_formed : is_well_formed e ≡ true
      well_formed = and_left (is_well_formed e) (has_driver w.state.plan e.driver e.wire) (checked _ NoSuchDriver _ ok).0

      made_next : h 1 ≡ e ∷ w.state.history
      made_next =
          first ∙ ap (stepped_by w.state.version w.state.plan w.state.history) is
          ∙ ap (followed w.state.version w.state.plan w.state.history) (word_names e well_formed)
          ∙ ap (λ (v : Judgement). if is_ok v then e ∷ w.state.history else w.state.history) ok_but_full

      below : made_of (d 0) (kind_of (has_board w.state.plan) e) < 4294967295
      below =
          let k = kind_of (has_board w.state.plan) e in
          omega (arith, at.follows.counted k, few (has_board w.state.plan) k w.state.history, room, most)

      counts : CountsIn (has_board w.state.plan) e (d 0).made.counts (d 1).made.counts
      counts = subst (λ (o : Option Edge). IsCountedIn (has_board w.state.plan) o (d 0) (d 1)) (drawn_is ∙ is) (at.counted 0) below

      goes_on : GoesOn (with_edge (drawn w) e) wires (λ n. h (suc n)) (λ n. d (suc n))
      goes_on = record {
        begins = made_next;
        follows = on w (d 0) (d 1) e at.follows (at.moved 0) (at.kept 0) counts;
        stepped = λ n. at.stepped (suc n);
        moved = λ n. at.moved (suc n);
        kept = λ n. at.kept (suc n);
        counted = λ n. at.counted (suc n);
      }

  abbrev pub Walks : ℕ → Type 0
  Walks n = (w : Walk) (h : ℕ → List Edge) (d : ℕ → Draws) → IsAccepted w.state.plan → GoesOn w wires h d
      → length w.state.history + n ≤ w.state.max → w.state.max ≤ 1048576 → h n ≡ (walked n w).state.history

  one_more : (n : ℕ) → Walks n → Walks (suc n)
  one_more n rest w h d accepted at enough most = by (next_edge w) refl
    where
      room : length w.state.history < w.state.max
      room = omega (arith, enough)

      by : (o : Option Edge) → next_edge w ≡ o → h (suc n) ≡ (option_map_or (λ e. walked n (with_edge (drawn w) e)) o (drawn w)).state.history
      by None is = stays w.state.version w.state.plan w.state.history h d at.begins (none_open w h d accepted at room most is) at.stepped (suc n)
      by (Some e) is = rest (with_edge (drawn w) e) (λ k. h (suc k)) (λ k. d (suc k)) accepted (goes_on w h d accepted at room most e is) (omega (arith, enough)) most

  pub walks : (n : ℕ) → Walks n
  walks zero w h d accepted at enough most = at.begins
  walks (suc n) w h d accepted at enough most = one_more n (walks n) w h d accepted at enough most
