-- Seeds that are tried one after the other.
use Rattle.std.proofs.Common.{◌≡◌, ◌∙◌, refl, sym, ap, subst, ℕ, ◌+◌, ◌≤◌, ◌<◌, ◌⊎◌, ⊎_elim, ◌++◌, Bool, true, false, not, List, length, Option, Some, None, Ok, Err, arith}
use Rattle.std.specs.Prelude.{⊤}
use Rattle.std.specs.Io.KnownBytes.{Appends, Keeps}
use Rattle.std.proofs.KnownBytes.{Keeps-refl}
use Rattle.vme_model.specs.declared.signals.Version.{Version}
use Rattle.vme_model.specs.Plan.{Plan}
use Rattle.vme_scenario.specs.Format.{scenario}
use Rattle.vme_goals.specs.declared.goals.Goal.{Goal}
use Rattle.vme_trace.specs.declared.Fault.TheVariants.{Write}
use Rattle.vme_engines.specs.declared.Status.{Status}
use Rattle.vme_engines.specs.declared.Status.TheVariants.{Done, Limit}
use Rattle.vme_engines.specs.declared.EngineFault.{EngineFault}
use Rattle.vme_engines.specs.declared.EngineFault.TheVariants as fault
use Rattle.vme_engines.specs.declared.seeks.Ending.{Ending}
use Rattle.vme_engines.specs.declared.seeks.Ending.TheVariants.{Over, Came, Missed}
use Rattle.vme_engines.specs.Outcomes.{Answer, Lent}
use Rattle.vme_engines.specs.Drawing.{walk, walk_text, status_to, Draws}
use Rattle.vme_engines.specs.Seeking.{is_over}
use Rattle.vme_engines.specs.Found.{NoneBelow, Attempts, Finds, Sees, tried_answer}
use Rattle.vme_engines.proofs.WrittenLines.{front_of_none}

-- what is kept, and then kept or grown
pub keeps_trans : (a b c : Option (List ℕ)) → Keeps a b → Keeps b c → Keeps a c
keeps_trans None b c k l = tt
keeps_trans (Some xs) None c k l = absurd k
keeps_trans (Some xs) (Some ys) None k l = absurd l
keeps_trans (Some xs) (Some ys) (Some zs) k l = l ∙ k

kept_append : (a b c : Option (List ℕ)) (x : List ℕ) → Keeps a b → Appends b c x → Appends a c x
kept_append None b c x k w = tt
kept_append (Some xs) None c x k w = absurd k
kept_append (Some xs) (Some ys) None x k w = absurd w
kept_append (Some xs) (Some ys) (Some zs) x k w = w ∙ ap (λ l. l ++ x) k

draws_kept : (version : Version) (seed n : ℕ) (g : Option Goal) (a b c : Option (List ℕ)) (p : Plan) (answer : Answer) → Keeps a b → Draws version seed n g b c p answer → Draws version seed n g a c p answer
draws_kept version seed n g a b c p (Ok status) k d = (kept_append a b c _ k d.0, d.1, d.2, d.3)
draws_kept version seed n g a b c p (Err fault.TooLong) k d = absurd d
draws_kept version seed n g a b c p (Err (fault.Scenario e)) k d = absurd d
draws_kept version seed n g a b c p (Err fault.NoMemory) k d = absurd d
draws_kept version seed n g a b c p (Err (fault.Trace f)) k d = (d.0, (d.1.0, d.1.1, d.1.2, kept_append a b c d.1.0 k d.1.3))
draws_kept version seed n g a b c p (Err (fault.Beyond e)) k d = absurd d
draws_kept version seed n g a b c p (Err fault.CannotRead) k d = absurd d

-- the status of a walk that came to its goal
pub came_to : (g : Goal) (n made : ℕ) (x : Ending) → is_over x ≡ false → Done ≡ status_to (Some g) n made x
came_to g n made Over h = absurd (cc)
came_to g n made Came h = refl
came_to g n made (Missed e) h = refl

pub over_is : (x : Ending) → is_over x ≡ true → x ≡ Over
over_is Over h = refl
over_is Came h = absurd (cc)
over_is (Missed e) h = absurd (cc)

-- ---- a try of one seed

over_not : (x : Bool) → true ≡ not x → x ≡ false
over_not true h = absurd (cc)
over_not false h = refl

module _ (version : Version) (seed n : ℕ) (g : Goal) (text : List ℕ) where
  -- a fault, before anything is written
  pub seen_fault : (a : Option (List ℕ)) (f : EngineFault) → Lent text ⊤ (Sees version seed n g (Err f)) (Err f) → Lent text (Keeps a a) (Attempts version seed n g a a (Err f)) (Err f)
  seen_fault a fault.TooLong l = (l.0, Keeps-refl a)
  seen_fault a (fault.Scenario e) l = (l.0, l.1, Keeps-refl a)
  seen_fault a fault.NoMemory l = absurd l
  seen_fault a (fault.Trace f) l = let is : f ≡ Write = let h = l.3 in cc in (l.0, l.1, l.2, (is, front_of_none a (walk_text l.0 version seed n (Some g))))
  seen_fault a (fault.Beyond e) l = let h = l.3 in absurd (cc)
  seen_fault a fault.CannotRead l = absurd l

  -- the seed comes to the goal, and is drawn once more
  pub came_done : (a b : Option (List ℕ)) (came : Bool) (status : Status) → came ≡ true → Lent text ⊤ (Sees version seed n g (Ok came)) (tried_answer (Ok came)) → Lent text (Keeps a b) (Draws version seed n (Some g) a b) (Ok status)
      → Lent text (Keeps a b) (Attempts version seed n g a b (Ok true)) (Ok Done)
  came_done a b false status is seen l = absurd (cc)
  came_done a b true status is seen l =
      let x = walk l.0 version seed n (Some g) in
      let not_over : is_over x.ending ≡ false = over_not (is_over x.ending) (subst (λ (q : Plan). true ≡ not (is_over (walk q version seed n (Some g)).ending)) (same seen.0 l.0 seen.2 l.2) seen.3) in
      (l.0, l.1, l.2, (l.3.0, l.3.1, l.3.2, came_to g n (length x.walk.state.history) x.ending not_over))
    where
      same : (q p : Plan) → scenario text ≡ Ok q → scenario text ≡ Ok p → q ≡ p
      same q p one other = cc

-- ---- one seed after the other

module _ (version : Version) (n first last : ℕ) (g : Goal) (text : List ℕ) (a b c : Option (List ℕ)) (seed : ℕ) (k : Keeps a b)
    (from : first ≤ seed) (to : seed ≤ last) (none : (p : Plan) → scenario text ≡ Ok p → NoneBelow p version n g first seed) where
  none_more : (p : Plan) → scenario text ≡ Ok p → (walk p version seed n (Some g)).ending ≡ Over → NoneBelow p version n g first (seed + 1)
  none_more p read over s low high = ⊎_elim
      (λ (l : s < seed). none p read s low l)
      (λ (l : s ≡ seed). subst (λ t. (walk p version t n (Some g)).ending ≡ Over) (sym l) over)
      (below_or s seed high)
    where
      below_or : (s t : ℕ) → s < t + 1 → (s < t) ⊎ (s ≡ t)
      below_or s t h = grind arith

  abbrev Tried_of : Bool → Type 0
  Tried_of came = Lent text (Keeps b c) (Attempts version seed n g b c (Ok came)) (tried_answer (Ok came))

  -- the seed comes to the goal
  pub found_here : (came : Bool) → came ≡ true → Tried_of came → Lent text (Keeps a c) (Finds version n first last g a c (Ok (Some seed))) (Ok Done)
  found_here true is l = (l.0, l.1, l.2, (from, to, none l.0 l.2, draws_kept version seed n (Some g) a b c l.0 (Ok Done) k l.3))
  found_here false is l = absurd (cc)

  -- it doesn't
  pub none_still : (came : Bool) → came ≡ false → Tried_of came → (p : Plan) → scenario text ≡ Ok p → NoneBelow p version n g first (seed + 1)
  none_still true is l p read = absurd (cc)
  none_still false is l p read = none_more p read (subst (λ (q : Plan). (walk q version seed n (Some g)).ending ≡ Over) (same l.0 (l.2) read) l.3.0)
    where
      same : (q : Plan) → scenario text ≡ Ok q → scenario text ≡ Ok p → q ≡ p
      same q one other = cc

  pub still_kept : (came : Bool) → came ≡ false → Tried_of came → Keeps a c
  still_kept true is l = absurd (cc)
  still_kept false is l = keeps_trans a b c k l.3.1

  -- it is the last
  pub none_found : (came : Bool) → came ≡ false → seed ≡ last → Tried_of came → Lent text (Keeps a c) (Finds version n first last g a c (Ok None)) (Ok Limit)
  none_found true is same l = absurd (cc)
  none_found false is same l = (l.0, l.1, l.2, (subst (λ s. NoneBelow l.0 version n g first (s + 1)) same (none_still false is l l.0 l.2), still_kept false is l))

  -- a fault
  pub fault_here : (f : EngineFault) → Lent text (Keeps b c) (Attempts version seed n g b c (Err f)) (Err f) → Lent text (Keeps a c) (Finds version n first last g a c (Err f)) (Err f)
  fault_here fault.TooLong l = (l.0, keeps_trans a b c k l.1)
  fault_here (fault.Scenario e) l = (l.0, l.1, keeps_trans a b c k l.2)
  fault_here fault.NoMemory l = absurd l
  fault_here (fault.Trace f) l = (l.0, l.1, l.2, (seed, from, to, none l.0 l.2, draws_kept version seed n (Some g) a b c l.0 (Err (fault.Trace f)) k l.3))
  fault_here (fault.Beyond e) l = absurd (l.3)
  fault_here fault.CannotRead l = absurd l
