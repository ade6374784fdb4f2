-- A walk that seeks a goal, turn by turn.
use Rattle.std.proofs.Common.{◌≡◌, ◌∙◌, refl, sym, ap, subst, length, ◌+◌, ℕ, zero, suc, Bool, true, false, List, [], ◌∷◌}
use Rattle.std.specs.Prelude.{◌&&◌, Option, Some, None, find, if◌then◌else◌}
use Rattle.std.specs.Option.{option_map_or}
use Rattle.vme_model.specs.declared.conditions.Condition.{Condition}
use Rattle.vme_model.specs.declared.refusals.Refused.TheVariants.{NoSuchDriver}
use Rattle.vme_model.specs.declared.signals.Edge.{Edge}
use Rattle.vme_model.specs.declared.signals.Version.{Version}
use Rattle.vme_model.specs.Plan.{Plan, has_driver}
use Rattle.vme_model.specs.Signals.{is_well_formed}
use Rattle.vme_model.specs.Verdict.{State, Judgement, check, verdict}
use Rattle.vme_model.specs.declared.signals.Cycle.{Cycle}
use Rattle.vme_model.specs.Failing.{unmet}
use Rattle.vme_model.specs.History.{shown}
use Rattle.vme_model.specs.Numbered.{Numbered, edges_in}
use Rattle.vme_model.proofs.Bools.{and_left, and_right}
use Rattle.vme_seeds.specs.Walks.{Walk, next_edge, drawn, with_edge}
use Rattle.vme_seeds.proofs.Walked.{IsOn, stays_on}
use Rattle.vme_goals.specs.declared.goals.Goal.{Goal}
use Rattle.vme_goals.specs.declared.goals.Aim.{Aim}
use Rattle.vme_goals.specs.declared.goals.Aim.TheVariants as aim
use Rattle.vme_goals.specs.Goals.{counts, is_due}
use Rattle.vme_goals.specs.declared.misses.Miss.{Miss}
use Rattle.vme_goals.specs.declared.misses.Miss.TheVariants as miss
use Rattle.vme_goals.specs.declared.events.Event.{Event}
use Rattle.vme_events.specs.Events.{comes}
use Rattle.vme_events.specs.Ordered.{OfOrdered}
use Rattle.vme_events.specs.Places.{by_place}
use Rattle.vme_events.proofs.Places.{places_below, edges_placed}
use Rattle.vme_explain.specs.declared.marks.Marks.{Marks}
use Rattle.vme_explain.specs.Marked.{IsMarksOf}
use Rattle.vme_events.specs.Misses.{all_moves, fails_rule, fails_settling, is_edge_of, is_lone, is_missed, misses, refuses}
use Rattle.vme_drive.specs.declared.seeks.Ending.{Ending}
use Rattle.vme_drive.specs.declared.seeks.Ending.TheVariants.{Over, Came, Missed}
use Rattle.vme_drive.specs.Seeking.{Ended, is_counted, missed_by, missed_for, brings, ends_by, ends_at, drawn_on, turned, sought, walk_to}
use Rattle.vme_drive.specs.Drawing.{IsRefusedBy, IsRefusedFor, IsWellFormed}

-- ---- a turn

module _ (g : Goal) (w : Walk) where
  abbrev ends_with : Option Edge → Option Ending
  ends_with o = option_map_or (λ e. Some (Missed e)) o (ends_by g w.state (next_edge w))

  abbrev turned_with : Option Edge → Walk
  turned_with o = option_map_or (λ _. w) o (drawn_on w)

  module _ (unmissed : None ≡ missed_by g w.state) where
    -- no edge is open
    pub over_ends : None ≡ next_edge w → Some Over ≡ ends_at g w
    over_ends none = ap (ends_by g w.state) none ∙ ap ends_with unmissed

    pub over_turns : None ≡ next_edge w → drawn w ≡ turned g w
    over_turns none = ap (λ o. option_map_or (with_edge (drawn w)) o (drawn w)) none ∙ ap turned_with unmissed

    -- an edge is made
    module _ (e : Edge) (drew : Some e ≡ next_edge w) where
      pub made_turns : with_edge (drawn w) e ≡ turned g w
      made_turns = ap (λ o. option_map_or (with_edge (drawn w)) o (drawn w)) drew ∙ ap turned_with unmissed

      pub came_ends : brings g w.state e ≡ true → Some Came ≡ ends_at g w
      came_ends came = sym (ap (λ t. if t then Some Came else None) came) ∙ ap (ends_by g w.state) drew ∙ ap ends_with unmissed

      pub goes_on : brings g w.state e ≡ false → None ≡ ends_at g w
      goes_on not = sym (ap (λ t. if t then Some Came else None) not) ∙ ap (ends_by g w.state) drew ∙ ap ends_with unmissed

  -- ---- turns

  module _ (more : ℕ) (v : Walk) (is : v ≡ turned g w) where
    abbrev sought_with : Option Ending → Ended
    sought_with o = option_map_or (λ x. record { walk = turned g w; ending = x }) o (sought g more (turned g w))

    pub seek_ends : (x : Ending) → Some x ≡ ends_at g w → (let r : Ended = record { walk = v; ending = x } in r) ≡ sought g (suc more) w
    seek_ends x ends = ap (λ (u : Walk). (let r : Ended = record { walk = u; ending = x } in r)) is ∙ ap sought_with ends

    pub seek_goes_on : None ≡ ends_at g w → sought g (suc more) w ≡ sought g more v
    seek_goes_on on = sym (ap sought_with on) ∙ sym (ap (sought g more) is)

-- ---- the version and the plan stay

module _ (version : Version) (p : Plan) (g : Goal) where
  drawn_stays : (w : Walk) (o : Option Edge) → IsOn version p w → IsOn version p (option_map_or (with_edge (drawn w)) o (drawn w))
  drawn_stays w None on = record { version = on.version; plan = on.plan }
  drawn_stays w (Some e) on = record { version = on.version; plan = on.plan }

  turned_stays : (w : Walk) (o : Option Edge) → IsOn version p w → IsOn version p (option_map_or (λ _. w) o (drawn_on w))
  turned_stays w None on = drawn_stays w (next_edge w) on
  turned_stays w (Some e) on = on

  ended_stays : (w : Walk) (o : Option Ending) (rest : Ended) → IsOn version p w → IsOn version p rest.walk
      → IsOn version p (option_map_or (λ x. (let r : Ended = record { walk = w; ending = x } in r)) o rest).walk
  ended_stays w None rest on later = later
  ended_stays w (Some x) rest on later = on

  sought_stays : (n : ℕ) (w : Walk) → IsOn version p w → IsOn version p (sought g n w).walk
  sought_stays zero w on = on
  sought_stays (suc more) w on =
      let next = turned_stays w (missed_by g w.state) on in
      ended_stays (turned g w) (ends_at g w) (sought g more (turned g w)) next (sought_stays more (turned g w) next)

pub walk_stays : (version : Version) (p : Plan) (g : Option Goal) (n : ℕ) (w : Walk) → IsOn version p w → IsOn version p (walk_to g n w).walk
walk_stays version p None n w on = stays_on version p n w on
walk_stays version p (Some g) n w on = sought_stays version p g n w on

-- ---- what is missed

module _ (g : Goal) where
  abbrev IsMissed : Ended → Type 0
  IsMissed x = (e : Edge) → x.ending ≡ Missed e → missed_by g x.walk.state ≡ Some e

  by_brought : (w v : Walk) (t : Bool) (rest : Ended) → IsMissed rest → IsMissed (option_map_or (λ x. (let r : Ended = record { walk = v; ending = x } in r)) (if t then Some Came else None) rest)
  by_brought w v true rest later e is = absurd (cc)
  by_brought w v false rest later e is = later e is

  by_drawn : (w : Walk) (q : Option Edge) (more : ℕ) → ((v : Walk) → IsMissed (sought g more v))
      → IsMissed (option_map_or (λ x. (let r : Ended = record { walk = option_map_or (with_edge (drawn w)) q (drawn w); ending = x } in r)) (ends_by g w.state q)
      (sought g more (option_map_or (with_edge (drawn w)) q (drawn w))))
  by_drawn w None more later e is = absurd (cc)
  by_drawn w (Some d) more later e is = by_brought w (with_edge (drawn w) d) (brings g w.state d) (sought g more (with_edge (drawn w) d)) (later (with_edge (drawn w) d)) e is

  by_missed : (w : Walk) (o : Option Edge) (more : ℕ) → missed_by g w.state ≡ o → ((v : Walk) → IsMissed (sought g more v))
      → IsMissed (option_map_or (λ x. (let r : Ended = record { walk = option_map_or (λ _. w) o (drawn_on w); ending = x } in r))
      (option_map_or (λ e. Some (Missed e)) o (ends_by g w.state (next_edge w))) (sought g more (option_map_or (λ _. w) o (drawn_on w))))
  by_missed w None more is later e same = by_drawn w (next_edge w) more later e same
  by_missed w (Some d) more is later e same = let one : d ≡ e = cc in is ∙ ap (λ x. Some x) one

  sought_missed : (n : ℕ) (w : Walk) → IsMissed (sought g n w)
  sought_missed zero w e is = absurd (cc)
  sought_missed (suc more) w e is = by_missed w (missed_by g w.state) more refl (sought_missed more) e is

found_by : {X : Type 0} (test : X → Bool) (y : X) (b : Bool) (ys : List X) (x : X) → test y ≡ b → (if b then Some y else find test ys) ≡ Some x
    → (find test ys ≡ Some x → test x ≡ true) → test x ≡ true
found_by test y true ys x holds is later = let same : y ≡ x = cc in sym (ap test same) ∙ holds
found_by test y false ys x holds is later = later is

found_passes : {X : Type 0} (test : X → Bool) (xs : List X) (x : X) → find test xs ≡ Some x → test x ≡ true
found_passes test [] x is = absurd (cc)
found_passes test (y ∷ ys) x is = found_by test y (test y) ys x refl is (found_passes test ys x)

both : (a b : Bool) → a ≡ true → b ≡ true → (a && b) ≡ true
both a b x y = ap (λ t. t && b) x ∙ y

refused_when : (g : Goal) (m : Miss) (b : State) (e : Edge) (due : Bool) → is_due g (length b.history) ≡ due → (if due then misses b g.driver m else None) ≡ Some e
    → (is_counted g b e ≡ true) × (refuses b m e ≡ true)
refused_when g m b e true due is =
    let passes : (counts g.driver e.driver && refuses b m e) ≡ true = found_passes (is_missed b g.driver m) (all_moves b) e is in
    (both (counts g.driver e.driver) (is_due g (length b.history)) (and_left (counts g.driver e.driver) (refuses b m e) passes) due, and_right (counts g.driver e.driver) (refuses b m e) passes)
refused_when g m b e false due is = absurd (cc)

refused_for : (g : Goal) (a : Aim) (b : State) (e : Edge) → missed_for g a b ≡ Some e → (is_counted g b e ≡ true) × IsRefusedFor a b e
refused_for g (aim.Event v) b e is = absurd (cc)
refused_for g (aim.Miss m) b e is = refused_when g m b e (is_due g (length b.history)) refl is

is_refused : (g : Goal) (b : State) (e : Edge) → missed_by g b ≡ Some e → IsRefusedBy (Some g) b e
is_refused g b e is = refused_for g g.aim b e is

-- ---- an edge that is missed is well formed

formed_rule : (k : ℕ) (a : Bool) (rest : Judgement) → fails_rule k (check a NoSuchDriver rest) ≡ true → a ≡ true
formed_rule k true rest fails = refl
formed_rule k false rest fails = absurd (cc)

formed_settling : (k : ℕ) (a : Bool) (rest : Judgement) → fails_settling k (check a NoSuchDriver rest) ≡ true → a ≡ true
formed_settling k true rest fails = refl
formed_settling k false rest fails = absurd (cc)

formed_lone : (a : Bool) (rest : Judgement) (cs : List Condition) → is_lone (check a NoSuchDriver rest) cs ≡ true → a ≡ true
formed_lone true rest cs fails = refl
formed_lone false rest cs fails = absurd (cc)

module _ (b : State) (e : Edge) where
  abbrev exists : Bool
  exists = is_well_formed e && has_driver b.plan e.driver e.wire

  formed : (m : Miss) → refuses b m e ≡ true → exists ≡ true
  formed (miss.Rule k c) is = formed_rule k exists _ (and_left (fails_rule k (verdict b e)) _ is)
  formed (miss.Unserved kind) is = formed_rule 22 exists _ (and_left (fails_rule 22 (verdict b e)) _ is)
  formed (miss.Settling k) is = formed_settling k exists _ is
  formed (miss.AnyOf r) is = formed_lone exists _ (unmet b e) (and_right (is_edge_of r e) _ is)

  pub is_formed : (m : Miss) → refuses b m e ≡ true → is_well_formed e ≡ true
  is_formed m is = and_left (is_well_formed e) (has_driver b.plan e.driver e.wire) (formed m is)

-- the ending of a walk
pub refused_end : (g : Option Goal) (n : ℕ) (w : Walk) (e : Edge) → (walk_to g n w).ending ≡ Missed e → IsRefusedBy g (walk_to g n w).walk.state e
refused_end None n w e is = absurd (cc)
refused_end (Some g) n w e is = is_refused g (sought g n w).walk.state e (sought_missed g n w e is)

formed_for : (a : Aim) (b : State) (e : Edge) → IsRefusedFor a b e → is_well_formed e ≡ true
formed_for (aim.Event v) b e is = absurd is
formed_for (aim.Miss m) b e is = is_formed b e m is

formed_by : (g : Option Goal) (b : State) (e : Edge) → IsRefusedBy g b e → is_well_formed e ≡ true
formed_by None b e is = absurd is
formed_by (Some g) b e is = formed_for g.aim b e is.1

formed_ending : (g : Option Goal) (n : ℕ) (w : Walk) (x : Ending) → (walk_to g n w).ending ≡ x → IsWellFormed x
formed_ending g n w Over is = tt
formed_ending g n w Came is = tt
formed_ending g n w (Missed e) is = formed_by g (walk_to g n w).walk.state e (refused_end g n w e is)

pub formed_end : (g : Option Goal) (n : ℕ) (w : Walk) → IsWellFormed (walk_to g n w).ending
formed_end g n w = formed_ending g n w (walk_to g n w).ending refl

-- ---- the marks of a walk, by the places of its edges

pub printed_comes : (b s : State) (m : Marks) (e : Edge) (v : Event) (r : Bool) → b ≡ s → IsMarksOf s.plan (by_place s.history) m → OfOrdered b m (λ _. r ≡ comes b.plan b.history e v) → r
    ≡ comes s.plan s.history e v
printed_comes b s m e v r same marked printed =
    printed (by_place s.history) (length s.history + 1) (edges_placed s.history ∙ sym (ap (λ (x : State). x.history) same))
    (subst (λ (p : Plan). IsMarksOf p (by_place s.history) m) (sym (ap (λ (x : State). x.plan) same)) marked) (places_below s.history)
    ∙ ap (λ (x : State). comes x.plan x.history e v) same

pub marked_more : (b s : State) (m next : Marks) (e : Edge) (n : ℕ) (v : Option Cycle) → b ≡ s → n ≡ length b.history + 1 → v ≡ shown b.plan b.history → IsMarksOf s.plan (by_place s.history) m
    → ((p : Plan) (k : Numbered) → IsMarksOf p k m → v ≡ shown p (edges_in k) → IsMarksOf p ((n, e) ∷ k) next) → IsMarksOf s.plan (by_place (e ∷ s.history)) next
marked_more b s m next e n v same at is marked noted =
    let place : n ≡ length s.history + 1 = at ∙ ap (λ (x : State). length x.history + 1) same in
    let showing : v ≡ shown s.plan (edges_in (by_place s.history)) = is ∙ ap (λ (x : State). shown x.plan x.history) same ∙ ap (shown s.plan) (sym (edges_placed s.history)) in
    subst (λ i. IsMarksOf s.plan ((i, e) ∷ by_place s.history) next) place (noted s.plan (by_place s.history) marked showing)
