-- Seeds that are tried one after the other.
use Rattle.std.proofs.Common.{◌≡◌, ◌∙◌, refl, sym, ap, subst, ℕ, ◌+◌, ◌≤◌, ◌<◌, ◌⊎◌, ⊎_elim, ◌++◌, Bool, true, false, not, List, length, Option, Some, None, Ok, Err, arith}
use Rattle.std.specs.Prelude.{IfOk, IfSome, OnOk}
use Rattle.std.specs.Io.KnownBytes.{Appends, Keeps}
use Rattle.vme_model.specs.declared.signals.Version.{Version}
use Rattle.vme_model.specs.Plan.{Plan}
use Rattle.vme_model.specs.Verdict.{State}
use Rattle.vme_scenario.specs.Format.{scenario}
use Rattle.vme_seeds.specs.Walks.{Walk, at_start}
use Rattle.vme_seeds.proofs.Walked.{IsOn}
use Rattle.vme_goals.specs.declared.goals.Goal.{Goal}
use Rattle.vme_trace.specs.declared.Fault.TheVariants.{Write}
use Rattle.vme_reading.specs.declared.Status.{Status}
use Rattle.vme_reading.specs.declared.Status.TheVariants.{Done, Limit}
use Rattle.vme_reading.specs.declared.EngineFault.{EngineFault}
use Rattle.vme_reading.specs.declared.EngineFault.TheVariants as fault
use Rattle.vme_drive.specs.declared.seeks.Ending.{Ending}
use Rattle.vme_drive.specs.declared.seeks.Ending.TheVariants.{Over, Came, Missed}
use Rattle.vme_reading.specs.Outcomes.{Answer, Lent, bench, scenario_limit}
use Rattle.vme_drive.specs.Drawing.{walk, walk_text, status_to, Draws, DrawsSafely, WalksSafely}
use Rattle.vme_drive.specs.Seeking.{is_over, walk_to}
use Rattle.vme_drive.specs.Found.{Tried, NoneBelow, Attempts, Finds, Found, found_answer}
use Rattle.vme_drive.proofs.SoughtGoals.{walk_stays}
use Rattle.vme_reading.proofs.WrittenLines.{front_of_none}

-- what is kept, and then kept or grown
keeps_trans : (a b c : Option (List ℕ)) → Keeps a b → Keeps b c → Keeps a c
keeps_trans None b c k l = tt
keeps_trans (Some xs) None c k l = absurd k
keeps_trans (Some xs) (Some ys) None k l = absurd l
keeps_trans (Some xs) (Some ys) (Some zs) k l = l ∙ k

kept_append : (a b c : Option (List ℕ)) (x : List ℕ) → Keeps a b → Appends b c x → Appends a c x
kept_append None b c x k w = tt
kept_append (Some xs) None c x k w = absurd k
kept_append (Some xs) (Some ys) None x k w = absurd w
kept_append (Some xs) (Some ys) (Some zs) x k w = w ∙ ap (λ l. l ++ x) k

draws_kept : (version : Version) (seed n : ℕ) (g : Option Goal) (a b c : Option (List ℕ)) (p : Plan) (answer : Answer) → Keeps a b → Draws version seed n g b c p answer
    → Draws version seed n g a c p answer
draws_kept version seed n g a b c p (Ok status) k d = (kept_append a b c _ k d.0, d.1, d.2, d.3)
draws_kept version seed n g a b c p (Err fault.TooLong) k d = absurd d
draws_kept version seed n g a b c p (Err (fault.Scenario e)) k d = absurd d
draws_kept version seed n g a b c p (Err fault.NoMemory) k d = absurd d
draws_kept version seed n g a b c p (Err (fault.Trace f)) k d = (d.0, (d.1.0, d.1.1, d.1.2, kept_append a b c d.1.0 k d.1.3))
draws_kept version seed n g a b c p (Err (fault.Beyond e)) k d = absurd d
draws_kept version seed n g a b c p (Err fault.CannotRead) k d = absurd d

-- the status of a walk that came to its goal
pub came_to : (g : Goal) (n made : ℕ) (x : Ending) → is_over x ≡ false → Done ≡ status_to (Some g) n made x
came_to g n made Over h = absurd (cc)
came_to g n made Came h = refl
came_to g n made (Missed e) h = refl

-- ---- a try of one seed

over_not : (x : Bool) → true ≡ not x → x ≡ false
over_not true h = absurd (cc)
over_not false h = refl

-- the walk of a seed, by where it began
module _ (p : Plan) (version : Version) (seed n : ℕ) (g : Goal) (start : Walk) (is : start ≡ at_start (bench p version) seed) where
  ending_is : (walk_to (Some g) n start).ending ≡ (walk p version seed n (Some g)).ending
  ending_is = ap (λ (w : Walk). (walk_to (Some g) n w).ending) is

  over_is_of : is_over (walk_to (Some g) n start).ending ≡ is_over (walk p version seed n (Some g)).ending
  over_is_of = ap is_over ending_is

  -- it comes to it, and is drawn once more
  pub attempt_came : (a b : Option (List ℕ)) (came : Bool) (status : Status) → came ≡ not (is_over (walk_to (Some g) n start).ending) → came ≡ true
      → Draws version seed n (Some g) a b p (Ok status)
      → Attempts p version seed n g a b (Ok true)
  attempt_came a b came status seen is_true d =
      let x = walk p version seed n (Some g) in
      let away : is_over x.ending ≡ false = sym over_is_of ∙ over_not (is_over (walk_to (Some g) n start).ending) (sym is_true ∙ seen) in
      (d.0, d.1, d.2, came_to g n (length x.walk.state.history) x.ending away)

  -- its plan and its version stay
  pub attempt_kept : (b : State) → b ≡ (walk_to (Some g) n start).walk.state → (b.plan ≡ p) × (b.version ≡ version)
  attempt_kept b same =
      let on : IsOn version p (walk_to (Some g) n start).walk = walk_stays version p (Some g) n start (subst (λ (w : Walk). IsOn version p w) (sym is) (record { version = refl; plan = refl })) in
      (ap (λ (x : State). x.plan) same ∙ on.plan, ap (λ (x : State). x.version) same ∙ on.version)

  -- so what it draws when it is begun once more is what its seed draws
  module _ (b : State) (same : b ≡ (walk_to (Some g) n start).walk.state) (again : Walk) (is_again : again ≡ at_start (bench b.plan b.version) seed) where
    kept : (b.plan ≡ p) × (b.version ≡ version)
    kept = attempt_kept b same

    pub redrawn : (old new : Option (List ℕ)) (answer : Answer) → Draws again.state.version again.seed n (Some g) old new again.state.plan answer → Draws version seed n (Some g) old new p answer
    redrawn old new answer d =
        subst (λ (q : Plan). Draws version seed n (Some g) old new q answer) kept.0
        (subst (λ (v : Version). Draws v seed n (Some g) old new b.plan answer) kept.1
        (subst (λ (w : Walk). Draws w.state.version w.seed n (Some g) old new w.state.plan answer) is_again d))

    pub safely_redrawn : WalksSafely again.state.plan again.state.version again.seed n (Some g) → WalksSafely p version seed n (Some g)
    safely_redrawn safe =
        subst (λ (q : Plan). WalksSafely q version seed n (Some g)) kept.0
        (subst (λ (v : Version). WalksSafely b.plan v seed n (Some g)) kept.1
        (subst (λ (w : Walk). WalksSafely w.state.plan w.state.version w.seed n (Some g)) is_again safe))

-- it cannot be written
pub attempt_fault : (p : Plan) (version : Version) (seed n : ℕ) (g : Goal) (a : Option (List ℕ)) (f : EngineFault) → f ≡ fault.Trace Write → Attempts p version seed n g a a (Err f)
attempt_fault p version seed n g a f is =
    subst (λ (e : EngineFault). Attempts p version seed n g a a (Err e)) (sym is) (refl, front_of_none a (walk_text p version seed n (Some g)))

-- ---- one seed after the other

-- on the same plan and in the same version
module _ (p q : Plan) (version v : Version) (seed n : ℕ) (g : Goal) (one : q ≡ p) (other : v ≡ version) where
  pub tried_on : (a b : Option (List ℕ)) (t : Tried) → Attempts q v seed n g a b t → Attempts p version seed n g a b t
  tried_on a b t tried = subst (λ (x : Plan). Attempts x version seed n g a b t) one (subst (λ (x : Version). Attempts q x seed n g a b t) other tried)

  pub safe_on : WalksSafely q v seed n (Some g) → WalksSafely p version seed n (Some g)
  safe_on safe = subst (λ (x : Plan). WalksSafely x version seed n (Some g)) one (subst (λ (x : Version). WalksSafely q x seed n (Some g)) other safe)

module _ (p : Plan) (version : Version) (n first last : ℕ) (g : Goal) (a b c : Option (List ℕ)) (seed : ℕ) (k : Keeps a b)
    (from : first ≤ seed) (to : seed ≤ last) (none : NoneBelow p version n g first seed) where
  none_more : (walk p version seed n (Some g)).ending ≡ Over → NoneBelow p version n g first (seed + 1)
  none_more over s low high = ⊎_elim
      (λ (l : s < seed). none s low l)
      (λ (l : s ≡ seed). subst (λ t. (walk p version t n (Some g)).ending ≡ Over) (sym l) over)
      (below_or s seed high)
    where
      below_or : (s t : ℕ) → s < t + 1 → (s < t) ⊎ (s ≡ t)
      below_or s t h = grind arith

  -- the seed comes to the goal
  pub found_here : (came : Bool) → came ≡ true → Attempts p version seed n g b c (Ok came) → Finds version n first last g a c (Ok (Some seed)) p (Ok Done)
  found_here true is tried = (from, to, none, draws_kept version seed n (Some g) a b c p (Ok Done) k tried)
  found_here false is tried = absurd (cc)

  -- it doesn't
  pub none_still : (came : Bool) → came ≡ false → Attempts p version seed n g b c (Ok came) → NoneBelow p version n g first (seed + 1)
  none_still true is tried = absurd (cc)
  none_still false is tried = none_more tried.0

  pub still_kept : (came : Bool) → came ≡ false → Attempts p version seed n g b c (Ok came) → Keeps a c
  still_kept true is tried = absurd (cc)
  still_kept false is tried = keeps_trans a b c k tried.1

  -- it is the last
  pub none_found : (came : Bool) → came ≡ false → seed ≡ last → Attempts p version seed n g b c (Ok came) → Finds version n first last g a c (Ok None) p (Ok Limit)
  none_found came is same tried = (subst (λ s. NoneBelow p version n g first (s + 1)) same (none_still came is tried), still_kept came is tried)

  -- a fault
  pub fault_here : (f : EngineFault) → Attempts p version seed n g b c (Err f) → Finds version n first last g a c (Err f) p (Err f)
  fault_here f tried = (seed, from, to, none, draws_kept version seed n (Some g) a b c p (Err f) k tried)

-- ---- on the plan of a scenario

module _ (text : List ℕ) (p : Plan) (short : length text ≤ scenario_limit) (read : scenario text ≡ Ok p) (version : Version) (n : ℕ) (a b : Option (List ℕ)) where
  pub drawn_lent : (seed : ℕ) (g : Option Goal) (answer : Answer) → Draws version seed n g a b p answer → Lent text (Keeps a b) (Draws version seed n g a b) answer
  drawn_lent seed g (Ok status) d = (p, short, read, d)
  drawn_lent seed g (Err (fault.Trace f)) d = (p, short, read, d)
  drawn_lent seed g (Err (fault.Scenario e)) d = absurd d
  drawn_lent seed g (Err (fault.Beyond e)) d = absurd d
  drawn_lent seed g (Err fault.TooLong) d = absurd d
  drawn_lent seed g (Err fault.NoMemory) d = absurd d
  drawn_lent seed g (Err fault.CannotRead) d = absurd d

  pub drawn_safely : (seed : ℕ) (g : Option Goal) (answer : Answer) → OnOk answer (WalksSafely p version seed n g) → OnOk answer (DrawsSafely text version seed n g)
  drawn_safely seed g (Ok status) safe = (p, read, safe)
  drawn_safely seed g (Err f) safe = tt

  module _ (first last : ℕ) (g : Goal) where
    pub found_lent : (found : Found) → Finds version n first last g a b found p (found_answer found) → Lent text (Keeps a b) (Finds version n first last g a b found) (found_answer found)
    found_lent (Ok (Some seed)) f = (p, short, read, f)
    found_lent (Ok None) f = (p, short, read, f)
    found_lent (Err (fault.Trace e)) f = (p, short, read, f)
    found_lent (Err (fault.Scenario e)) f = absurd (f.4)
    found_lent (Err (fault.Beyond e)) f = absurd (f.4)
    found_lent (Err fault.TooLong) f = absurd (f.4)
    found_lent (Err fault.NoMemory) f = absurd (f.4)
    found_lent (Err fault.CannotRead) f = absurd (f.4)

    pub found_safely : (found : Found) → IfOk found (λ o. IfSome o (λ seed. WalksSafely p version seed n (Some g)))
        → IfOk found (λ o. IfSome o (λ seed. DrawsSafely text version seed n (Some g)))
    found_safely (Ok (Some seed)) safe = (p, read, safe)
    found_safely (Ok None) safe = tt
    found_safely (Err f) safe = tt
