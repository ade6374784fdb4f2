-- The address lines, the strobes and the answers, as four phases: what holds in each, and the phase
-- to which each edge leads.
use Rattle.std.proofs.Common.{◌≡◌, ◌≢◌, ℕ, suc, ◌<◌, ◌≤◌, Bool, true, false, List, [], ◌∷◌, Option, Some, None, refl, sym, ap, ◌∙◌, subst, arith, ⊎_elim}
use Rattle.std.specs.Prelude.{map}
use Rattle.std.proofs.lemmas.Bool.{cases_lt}
use Rattle.vme_model.specs.declared.signals.Driver.{Driver}
use Rattle.vme_model.specs.declared.signals.Driver.TheVariants.{Slot}
use Rattle.vme_model.specs.declared.signals.Cycle.{Cycle}
use Rattle.vme_model.specs.declared.signals.Cycle.TheVariants.{Acknowledge, Access}
use Rattle.vme_model.specs.Signals.{is_acknowledge}
use Rattle.vme_model.proofs.Bools.{is_true}
use Rattle.vme_model.proofs.Below.{IsBelow, low_part, same_part, more_part, same_less, none_part}
use Rattle.vme_model.proofs.GrantPhases.{Sets}

-- what the drivers of the cycles drive, and what the edges since the last acknowledge were
pub record CycleWires : Type 0 where
  pub group : ℕ → Bool
  pub strobe : ℕ → Bool
  pub dstrobe : ℕ → Bool
  pub dtack : ℕ → Bool
  pub iout : ℕ → Bool
  pub strobed : ℕ → Bool
  pub iack : Bool
  pub berr : Bool
  pub shown : Option Cycle
  pub acknowledged : Option Cycle
  pub answered : Bool
  pub passers : List (Driver × Option Cycle × Bool)

-- who answers
pub data Answer : Type 0 where
  Silent : Answer
  By : (t : ℕ) → Answer
  Error : Answer

-- No address strobe is low. Or slot s drives it, and no data strobe has fallen; or its data strobe
-- is low, with the segments of the acknowledge chain below slot hi, the controller's included if g
-- is true; or its data strobe rose again.
pub data Cyclic : Type 0 where
  Quiet : Cyclic
  Fresh : (s : ℕ) → Cyclic
  Asking : (s : ℕ) (g : Bool) (hi : ℕ) → Cyclic
  Done : (s : ℕ) → Cyclic

abbrev pub iack_before : CycleWires → Option ℕ → Bool
iack_before v None = v.iack
iack_before v (Some s) = v.iout s

-- slots that passed an acknowledge on, with no request of theirs at its level
abbrev pub unasked : Option Cycle → List ℕ → List (Driver × Option Cycle × Bool)
unasked sh ts = map (λ t. (Slot t, sh, false)) ts

module _ (on master brd : ℕ → Bool) (slots : ℕ) where
  -- slot t is the one that may answer
  abbrev pub CanAnswer : Option Cycle → Bool → ℕ → ℕ → Type 0
  CanAnswer None g hi t = ⊥
  CanAnswer (Some (Acknowledge level)) g hi t = (on t ≡ true) × (g ≡ true) × (hi ≤ t) × ((u : ℕ) → on u ≡ true → u < t → u < hi)
  CanAnswer (Some (Access x)) g hi t = t ≡ x

  -- no slot may answer
  abbrev pub NoneCan : Option Cycle → Bool → ℕ → Type 0
  NoneCan None g hi = ⊥
  NoneCan (Some (Acknowledge level)) g hi = (g ≡ true) × ((u : ℕ) → on u ≡ true → u < hi)
  NoneCan (Some (Access x)) g hi = brd x ≡ false

  abbrev pub Justified : Option Cycle → Bool → ℕ → Answer → Type 0
  Justified sh g hi Silent = Unit {0}
  Justified sh g hi (By t) = CanAnswer sh g hi t
  Justified sh g hi Error = NoneCan sh g hi

  -- at most one driver answers
  pub record IsAnswer (dtack : ℕ → Bool) (berr : Bool) (a : Answer) : Type 0 where
    pub dtack_by : (t : ℕ) → dtack t ≡ true → a ≡ By t
    pub berr_by : berr ≡ true → a ≡ Error
    pub boards : (t : ℕ) → dtack t ≡ true → brd t ≡ true

  pub record IsQuiet (group strobe dstrobe dtack : ℕ → Bool) (berr : Bool) (busy : ℕ → Bool) : Type 0 where
    pub answer : Answer
    pub answers : IsAnswer dtack berr answer
    pub strobe_high : (t : ℕ) → strobe t ≡ false
    pub dstrobe_high : (t : ℕ) → dstrobe t ≡ false
    pub group_busy : (t : ℕ) → group t ≡ true → busy t ≡ true

  pub record IsOpen (strobe group : ℕ → Bool) (s : ℕ) : Type 0 where
    pub strobe_low : strobe s ≡ true
    pub strobe_only : (t : ℕ) → strobe t ≡ true → t ≡ s
    pub group_only : (t : ℕ) → group t ≡ true → t ≡ s
    pub is_master : master s ≡ true

  -- slot s began a cycle, and the acknowledge chain is clear
  pub record IsBegun (group strobe dstrobe strobed iout : ℕ → Bool) (iack : Bool) (s : ℕ) : Type 0 where
    pub opened : IsOpen strobe group s
    pub group_on : group s ≡ true
    pub dstrobe_high : (t : ℕ) → dstrobe t ≡ false
    pub unstrobed : strobed s ≡ false
    pub iack_high : iack ≡ false
    pub iout_high : (t : ℕ) → on t ≡ true → iout t ≡ false

  pub record IsFresh (v : CycleWires) (s : ℕ) : Type 0 where
    pub answer : Answer
    pub answers : IsAnswer v.dtack v.berr answer
    pub begun : IsBegun v.group v.strobe v.dstrobe v.strobed v.iout v.iack s
    pub open begun use *

  -- the answer stands until the data strobe rises
  pub record IsGiven (dtack : ℕ → Bool) (berr : Bool) : Type 0 where
    pub answer : Answer
    pub answers : IsAnswer dtack berr answer
    pub dtack_low : (t : ℕ) → answer ≡ By t → dtack t ≡ true
    pub berr_low : answer ≡ Error → berr ≡ true

  -- the data strobe of slot s is low
  pub record IsStrobed (group strobe dstrobe strobed : ℕ → Bool) (s : ℕ) : Type 0 where
    pub opened : IsOpen strobe group s
    pub group_on : group s ≡ true
    pub dstrobe_low : dstrobe s ≡ true
    pub dstrobe_only : (t : ℕ) → dstrobe t ≡ true → t ≡ s
    pub was_strobed : strobed s ≡ true

  -- how the acknowledge reached its place
  pub record HasReached (iout : ℕ → Bool) (iack : Bool) (shown began : Option Cycle) (passes : List (Driver × Option Cycle × Bool)) (g : Bool) (hi : ℕ) : Type 0 where
    pub iack_is : iack ≡ g
    pub from_start : g ≡ false → hi ≡ 0
    pub iout_below : (t : ℕ) → on t ≡ true → iout t ≡ true → t < hi
    pub iout_each : (t : ℕ) → on t ≡ true → t < hi → iout t ≡ true
    pub acknowledged : g ≡ true → began ≡ shown
    pub passers : g ≡ true → passes ≡ unasked shown (low_part on hi slots)

  pub record IsAsking (v : CycleWires) (s : ℕ) (g : Bool) (hi : ℕ) : Type 0 where
    pub given : IsGiven v.dtack v.berr
    pub open given use *
    pub strobed : IsStrobed v.group v.strobe v.dstrobe v.strobed s
    pub open strobed use *
    pub reached : HasReached v.iout v.iack v.shown v.acknowledged v.passers g hi
    pub open reached use *
    pub justified : Justified v.shown g hi answer
    pub unanswered : g ≡ true → answer ≡ Silent → v.answered ≡ false

  -- the data strobe of slot s rose again
  pub record IsEnded (group strobe dstrobe strobed : ℕ → Bool) (s : ℕ) : Type 0 where
    pub opened : IsOpen strobe group s
    pub dstrobe_high : (t : ℕ) → dstrobe t ≡ false
    pub was_strobed : strobed s ≡ true

  pub record IsDone (v : CycleWires) (s : ℕ) : Type 0 where
    pub answer : Answer
    pub answers : IsAnswer v.dtack v.berr answer
    pub ended : IsEnded v.group v.strobe v.dstrobe v.strobed s
    pub open ended use *

  abbrev pub InCycle : CycleWires → (ℕ → Bool) → Cyclic → Type 0
  InCycle v busy Quiet = IsQuiet v.group v.strobe v.dstrobe v.dtack v.berr busy
  InCycle v busy (Fresh s) = IsFresh v s
  InCycle v busy (Asking s g hi) = IsAsking v s g hi
  InCycle v busy (Done s) = IsDone v s

  abbrev pub Cycled : CycleWires → (ℕ → Bool) → Type 0
  Cycled v busy = (c : Cyclic) × InCycle v busy c

  -- a data strobe is low
  abbrev Asks : CycleWires → Type 0
  Asks v = (s : ℕ) × (g : Bool) × (hi : ℕ) × IsAsking v s g hi

  -- every address strobe, or data strobe, of a master is high
  abbrev pub StrobesHigh : CycleWires → Type 0
  StrobesHigh v = (t : ℕ) → master t ≡ true → v.strobe t ≡ false

  abbrev pub DataHigh : CycleWires → Type 0
  DataHigh v = (t : ℕ) → master t ≡ true → v.dstrobe t ≡ false

  -- no board answers
  abbrev pub BoardsSilent : CycleWires → Type 0
  BoardsSilent v = (t : ℕ) → brd t ≡ true → v.dtack t ≡ false

  abbrev pub OneHolder : (ℕ → Bool) → Type 0
  OneHolder busy = (t u : ℕ) → busy t ≡ true → busy u ≡ true → t ≡ u

  -- the place at which a low acknowledge stands
  pub record IsFront (g : Bool) (hi s : ℕ) : Type 0 where
    pub low : g ≡ true
    pub above : hi ≤ s
    pub all : (t : ℕ) → on t ≡ true → t < s → t < hi

  -- slot s is asked
  abbrev pub IsAsked : CycleWires → Option Cycle → ℕ → Option ℕ → Type 0
  IsAsked v None s found = ⊥
  IsAsked v (Some (Acknowledge level)) s found = (on s ≡ true) × IsBelow on s found × (v.iout s ≡ false) × (iack_before v found ≡ true)
  IsAsked v (Some (Access x)) s found = s ≡ x

  -- what the second settling rule says
  abbrev pub IsUnanswerable : CycleWires → Option Cycle → Option ℕ → Type 0
  IsUnanswerable v None found = ⊥
  IsUnanswerable v (Some (Acknowledge level)) found = IsBelow on (suc slots) found × (iack_before v found ≡ true)
  IsUnanswerable v (Some (Access x)) found = brd x ≡ false

  pub record RightfulAnswer (v : CycleWires) (s : ℕ) : Type 0 where
    pub acknowledged : v.acknowledged ≡ v.shown
    pub unanswered : v.answered ≡ false
    pub passers : v.passers ≡ unasked v.shown (low_part on s slots)

  -- an acknowledge has come to slot s, and nobody has answered it
  record Reaches (v : CycleWires) (s : ℕ) : Type 0 where
    owner : ℕ
    g : Bool
    hi : ℕ
    asking : IsAsking v owner g hi
    open asking use *
    place : IsFront g hi s
    open place use *
    quiet : answer ≡ Silent

  -- ---- who may answer

  same_place : (sh : Option Cycle) (g : Bool) (hi t u : ℕ) → CanAnswer sh g hi t → CanAnswer sh g hi u → t ≡ u
  same_place None g hi t u a b = absurd a
  same_place (Some (Acknowledge level)) g hi t u a b = grind (arith, a.3 u b.0, b.3 t a.0, a.2, b.2)
  same_place (Some (Access x)) g hi t u a b = a ∙ sym b

  not_both : (sh : Option Cycle) (g : Bool) (hi t : ℕ) → CanAnswer sh g hi t → brd t ≡ true → NoneCan sh g hi → ⊥
  not_both None g hi t a b n = a
  not_both (Some (Acknowledge level)) g hi t a b n = omega (arith, a.2, n.1 t a.0)
  not_both (Some (Access x)) g hi t a b n = cc (a, b, n)

  -- nobody answers an acknowledge before the chain begins
  silent_before : (sh : Option Cycle) (g : Bool) (hi : ℕ) (a : Answer) → is_acknowledge sh ≡ true → g ≡ false → Justified sh g hi a → a ≡ Silent
  silent_before sh g hi Silent e f j = refl
  silent_before None g hi (By t) e f j = absurd j
  silent_before (Some (Acknowledge level)) g hi (By t) e f j = absurd (cc (j.1, f))
  silent_before (Some (Access x)) g hi (By t) e f j = absurd (cc)
  silent_before None g hi Error e f j = absurd j
  silent_before (Some (Acknowledge level)) g hi Error e f j = absurd (cc (j.0, f))
  silent_before (Some (Access x)) g hi Error e f j = absurd (cc)

  module _ (v : CycleWires) where
    -- ---- while a data strobe is low

    -- what a low segment before slot s says
    reaches : (m s : ℕ) (g : Bool) (hi : ℕ) (found : Option ℕ) → IsBelow on s found → iack_before v found ≡ true → IsAsking v m g hi → (g ≡ true) × ((t : ℕ) → on t ≡ true → t < s → t < hi)
    reaches m s g hi None b low i = (sym i.iack_is ∙ low, λ t w l. absurd (b t w l))
    reaches m s g hi (Some p) b low i =
        (is_true g (λ h. omega (arith, i.from_start h, i.iout_below p b.passes low)), λ t w l. omega (arith, b.greatest t w l, i.iout_below p b.passes low))

    front : (m s : ℕ) (g : Bool) (hi : ℕ) (found : Option ℕ) → on s ≡ true → IsBelow on s found → v.iout s ≡ false → iack_before v found ≡ true → IsAsking v m g hi → IsFront g hi s
    front m s g hi found o b high low i =
        let f = reaches m s g hi found b low i in
        record { low = f.0; above = ⊎_elim (λ (l : s < hi). absurd (cc (i.iout_each s o l))) (λ (l : hi ≤ s). l) (cases_lt s hi); all = f.1 }

    can_answer : (m s : ℕ) (g : Bool) (hi : ℕ) (sh : Option Cycle) (found : Option ℕ) → IsAsked v sh s found → IsAsking v m g hi → CanAnswer sh g hi s
    can_answer m s g hi None found a i = a
    can_answer m s g hi (Some (Acknowledge level)) found a i = let f = front m s g hi found a.0 a.1 a.2 a.3 i in (a.0, f.low, f.above, f.all)
    can_answer m s g hi (Some (Access x)) found a i = a

    none_can : (m : ℕ) (g : Bool) (hi : ℕ) (sh : Option Cycle) (found : Option ℕ) → ((t : ℕ) → on t ≡ true → t ≤ slots) → IsUnanswerable v sh found → IsAsking v m g hi → NoneCan sh g hi
    none_can m g hi None found within a i = a
    none_can m g hi (Some (Acknowledge level)) found within a i = let f = reaches m (suc slots) g hi found a.0 a.1 i in (f.0, λ t o. f.1 t o (omega (arith, within t o)))
    none_can m g hi (Some (Access x)) found within a i = a

    -- nobody has answered yet if a slot that has not answered is asked
    silent : (m s : ℕ) (g : Bool) (hi : ℕ) → v.dtack s ≡ false → brd s ≡ true → CanAnswer v.shown g hi s → (i : IsAsking v m g hi) → i.answer ≡ Silent
    silent m s g hi d b c i = by_answer i.answer i.dtack_low i.justified
      where
        by_answer : (a : Answer) → ((t : ℕ) → a ≡ By t → v.dtack t ≡ true) → Justified v.shown g hi a → a ≡ Silent
        by_answer Silent low j = refl
        by_answer (By t) low j = let e = same_place v.shown g hi s t c j in absurd (cc (low t refl, e))
        by_answer Error low j = absurd (not_both v.shown g hi s c b j)

    module _ (busy : ℕ → Bool) where
      -- ---- which phase it is

      quiet_of : StrobesHigh v → Cycled v busy → InCycle v busy Quiet
      quiet_of high (Quiet, i) = i
      quiet_of high (Fresh t, i) = absurd (cc (high t i.opened.is_master, i.opened.strobe_low))
      quiet_of high (Asking t g hi, i) = absurd (cc (high t i.opened.is_master, i.opened.strobe_low))
      quiet_of high (Done t, i) = absurd (cc (high t i.opened.is_master, i.opened.strobe_low))

      asking_of : (w : ℕ) → v.dstrobe w ≡ true → Cycled v busy → Asks v
      asking_of w low (Quiet, i) = absurd (cc (i.dstrobe_high w))
      asking_of w low (Fresh t, i) = absurd (cc (i.dstrobe_high w))
      asking_of w low (Asking t g hi, i) = (t, g, hi, i)
      asking_of w low (Done t, i) = absurd (cc (i.dstrobe_high w))

      -- ---- the address lines and the strobes

      still_quiet : (group' dtack' : ℕ → Bool) (berr' : Bool) (busy' : ℕ → Bool) (i : InCycle v busy Quiet) → IsAnswer dtack' berr' i.answer → ((t : ℕ) → group' t ≡ true → busy' t ≡ true)
          → IsQuiet group' v.strobe v.dstrobe dtack' berr' busy'
      still_quiet group' dtack' berr' busy' i a b = record { answer = i.answer; answers = a; strobe_high = i.strobe_high; dstrobe_high = i.dstrobe_high; group_busy = b }

      -- an address group goes on, or shows something else
      pub group_falls : (group' : ℕ → Bool) (sh : Option Cycle) (s : ℕ) → Sets group' v.group s true → busy s ≡ true → StrobesHigh v → Cycled v busy
          → Cycled (record v { group = group'; shown = sh }) busy
      group_falls group' sh s u b high c =
          let i = quiet_of high c in
          (Quiet, still_quiet group' v.dtack v.berr busy i i.answers (λ t h. grind (arith, u t, i.group_busy t, b)))

      pub group_rises : (group' : ℕ → Bool) (sh : Option Cycle) (s : ℕ) → Sets group' v.group s false → v.strobe s ≡ true → v.dstrobe s ≡ false → v.strobed s ≡ true → Cycled v busy
          → Cycled (record v { group = group'; shown = sh }) busy
      group_rises group' sh s u l d k (Quiet, i) = absurd (cc (i.strobe_high s))
      group_rises group' sh s u l d k (Fresh t, i) = let e = i.opened.strobe_only s l in absurd (cc (i.unstrobed, e))
      group_rises group' sh s u l d k (Asking t g hi, i) = let e = i.opened.strobe_only s l in absurd (cc (i.dstrobe_low, e))
      group_rises group' sh s u l d k (Done t, i) = (Done t, record { answer = i.answer; answers = i.answers; ended = over i.ended })
        where
          opened : IsOpen v.strobe v.group t → IsOpen v.strobe group' t
          opened o = record { strobe_low = o.strobe_low; strobe_only = o.strobe_only; group_only = λ w h. grind (arith, u w, o.group_only w); is_master = o.is_master }

          over : IsEnded v.group v.strobe v.dstrobe v.strobed t → IsEnded group' v.strobe v.dstrobe v.strobed t
          over e = record { opened = opened e.opened; dstrobe_high = e.dstrobe_high; was_strobed = e.was_strobed }

      -- a cycle begins
      pub strobe_falls : (strobe' strobed' : ℕ → Bool) (s : ℕ) → OneHolder busy → Sets strobe' v.strobe s true → strobed' s ≡ false → v.group s ≡ true → master s ≡ true → StrobesHigh v
          → v.iack ≡ false → ((t : ℕ) → on t ≡ true → v.iout t ≡ false) → Cycled v busy → Cycled (record v { strobe = strobe'; strobed = strobed' }) busy
      strobe_falls strobe' strobed' s one u k l m high a o c =
          let i = quiet_of high c in
          let opened : IsOpen strobe' v.group s = record {
            strobe_low = grind (arith, u s);
            strobe_only = λ t h. grind (arith, u t, i.strobe_high t);
            group_only = λ t h. one t s (i.group_busy t h) (i.group_busy s l);
            is_master = m;
          } in (
            Fresh s,
            record {
              answer = i.answer;
              answers = i.answers;
              begun = record { opened = opened; group_on = l; dstrobe_high = i.dstrobe_high; unstrobed = k; iack_high = a; iout_high = o };
            },
          )

      -- a cycle ends
      pub strobe_rises : (strobe' : ℕ → Bool) (s : ℕ) → Sets strobe' v.strobe s false → v.strobe s ≡ true → v.group s ≡ false → Cycled v busy → Cycled (record v { strobe = strobe' }) busy
      strobe_rises strobe' s u l e (Quiet, i) = absurd (cc (i.strobe_high s))
      strobe_rises strobe' s u l e (Fresh t, i) = let f = i.opened.strobe_only s l in absurd (cc (i.group_on, f))
      strobe_rises strobe' s u l e (Asking t g hi, i) = let f = i.opened.strobe_only s l in absurd (cc (i.group_on, f))
      strobe_rises strobe' s u l e (Done t, i) = (Quiet, record { answer = i.answer; answers = i.answers; strobe_high = high; dstrobe_high = i.dstrobe_high; group_busy = λ w h. absurd (gone w h) })
        where
          high : (w : ℕ) → strobe' w ≡ false
          high w = grind (arith, u w, i.opened.strobe_only w, i.opened.strobe_only s l)

          gone : (w : ℕ) → v.group w ≡ true → ⊥
          gone w h = let f = i.opened.group_only w h in let f' = i.opened.strobe_only s l in cc (f, f', e, h)

      -- no board answers, and what answers is known
      unheard : BoardsSilent v → (berr' : Bool) (a a' : Answer) → (berr' ≡ true → a' ≡ Error) → IsAnswer v.dtack v.berr a → IsAnswer v.dtack berr' a'
      unheard quiet berr' a a' e i = record { dtack_by = λ t h. absurd (cc (quiet t (i.boards t h))); berr_by = e; boards = i.boards }

      -- the data strobe falls
      pub dstrobe_falls : (dstrobe' strobed' : ℕ → Bool) (s : ℕ) → Sets dstrobe' v.dstrobe s true → strobed' s ≡ true → v.strobe s ≡ true → v.dstrobe s ≡ false → v.strobed s ≡ false
          → BoardsSilent v → v.berr ≡ false → Cycled v busy → Cycled (record v { dstrobe = dstrobe'; strobed = strobed' }) busy
      dstrobe_falls dstrobe' strobed' s u k l d n quiet fine (Quiet, i) = absurd (cc (i.strobe_high s))
      dstrobe_falls dstrobe' strobed' s u k l d n quiet fine (Asking t g hi, i) = let e = i.opened.strobe_only s l in absurd (cc (i.dstrobe_low, e))
      dstrobe_falls dstrobe' strobed' s u k l d n quiet fine (Done t, i) = let e = i.opened.strobe_only s l in absurd (cc (i.was_strobed, e))
      dstrobe_falls dstrobe' strobed' s u k l d n quiet fine (Fresh t, i) = (Asking t false 0, asks (i.opened.strobe_only s l))
        where
          asks : s ≡ t → IsAsking (record v { dstrobe = dstrobe'; strobed = strobed' }) t false 0
          asks e = record {
            given = record { answer = Silent; answers = unheard quiet v.berr i.answer Silent (λ h. absurd (cc)) i.answers; dtack_low = λ w h. absurd (cc); berr_low = λ h. absurd (cc) };
            strobed = record {
              opened = i.opened;
              group_on = i.group_on;
              dstrobe_low = grind (arith, u t, e);
              dstrobe_only = λ w h. grind (arith, u w, i.dstrobe_high w, e);
              was_strobed = subst (λ x. strobed' x ≡ true) e k;
            };
            reached = record {
              iack_is = i.iack_high;
              from_start = λ h. refl;
              iout_below = λ w o h. absurd (cc (i.iout_high w o));
              iout_each = λ w o h. absurd (omega arith);
              acknowledged = λ h. absurd (cc);
              passers = λ h. absurd (cc);
            };
            justified = tt;
            unanswered = λ h. absurd (cc);
          }

      -- the data strobe rises
      pub dstrobe_rises : (dstrobe' : ℕ → Bool) (s : ℕ) → Sets dstrobe' v.dstrobe s false → v.dstrobe s ≡ true → Cycled v busy → Cycled (record v { dstrobe = dstrobe' }) busy
      dstrobe_rises dstrobe' s u l c =
          let x = asking_of s l c in
          let i = x.3 in
          let high : (w : ℕ) → dstrobe' w ≡ false = λ w. grind (arith, u w, i.dstrobe_only w, i.dstrobe_only s l) in
          (Done x.0, record { answer = i.answer; answers = i.answers; ended = record { opened = i.opened; dstrobe_high = high; was_strobed = i.was_strobed } })

      -- ---- the answers

      -- a board answers
      pub dtack_falls : (dtack' : ℕ → Bool) (answered' : Bool) (s w : ℕ) (found : Option ℕ) → Sets dtack' v.dtack s true → v.dtack s ≡ false → brd s ≡ true → v.dstrobe w ≡ true
          → IsAsked v v.shown s found → Cycled v busy → Cycled (record v { dtack = dtack'; answered = answered' }) busy
      dtack_falls dtack' answered' s w found u d b l a c =
          let x = asking_of w l c in
          let i = x.3 in
          let can = can_answer x.0 s x.1 x.2 v.shown found a i in
          let e = silent x.0 s x.1 x.2 d b can i in (
            Asking x.0 x.1 x.2,
            record {
              given = record { answer = By s; answers = by i.answer e i.answers; dtack_low = λ t h. let f : s ≡ t = cc in grind (arith, u t, f); berr_low = λ h. absurd (cc) };
              strobed = i.strobed;
              reached = i.reached;
              justified = can;
              unanswered = λ h h'. absurd (cc);
            },
          )
        where
          by : (a : Answer) → a ≡ Silent → IsAnswer v.dtack v.berr a → IsAnswer dtack' v.berr (By s)
          by a e i = record {
            dtack_by = λ t h. ⊎_elim (λ (x : (t ≡ s) × (dtack' t ≡ true)). ap By (sym x.0)) (λ (x : (t ≢ s) × (dtack' t ≡ v.dtack t)). absurd (cc (i.dtack_by t (sym x.1 ∙ h), e))) (u t);
            berr_by = λ h. absurd (cc (i.berr_by h, e));
            boards = λ t h. grind (arith, u t, i.boards t, b);
          }

      -- the bus timer ends a cycle
      pub berr_falls : (w : ℕ) (found : Option ℕ) → ((t : ℕ) → on t ≡ true → t ≤ slots) → BoardsSilent v → v.dstrobe w ≡ true → IsUnanswerable v v.shown found → Cycled v busy
          → Cycled (record v { berr = true }) busy
      berr_falls w found within quiet l a c =
          let x = asking_of w l c in
          let i = x.3 in (
            Asking x.0 x.1 x.2,
            record {
              given = record { answer = Error; answers = unheard quiet true i.answer Error (λ h. refl) i.answers; dtack_low = λ t h. absurd (cc); berr_low = λ h. refl };
              strobed = i.strobed;
              reached = i.reached;
              justified = none_can x.0 x.1 x.2 v.shown found within a i;
              unanswered = λ h h'. absurd (cc);
            },
          )

      -- an answer ends, when every data strobe is high
      answers_change : (dtack' : ℕ → Bool) (berr' : Bool) → ((a : Answer) → IsAnswer v.dtack v.berr a → IsAnswer dtack' berr' a) → DataHigh v → Cycled v busy
          → Cycled (record v { dtack = dtack'; berr = berr' }) busy
      answers_change dtack' berr' f high (Quiet, i) = (Quiet, still_quiet v.group dtack' berr' busy i (f i.answer i.answers) i.group_busy)
      answers_change dtack' berr' f high (Fresh t, i) = (Fresh t, record { answer = i.answer; answers = f i.answer i.answers; begun = i.begun })
      answers_change dtack' berr' f high (Done t, i) = (Done t, record { answer = i.answer; answers = f i.answer i.answers; ended = i.ended })
      answers_change dtack' berr' f high (Asking t g hi, i) = absurd (cc (high t i.opened.is_master, i.dstrobe_low))

      pub dtack_rises : (dtack' : ℕ → Bool) (s : ℕ) → Sets dtack' v.dtack s false → DataHigh v → Cycled v busy → Cycled (record v { dtack = dtack' }) busy
      dtack_rises dtack' s u high c = answers_change dtack' v.berr (λ a i. record { dtack_by = λ t h. i.dtack_by t (still t h); berr_by = i.berr_by; boards = λ t h. i.boards t (still t h) }) high c
        where
          still : (t : ℕ) → dtack' t ≡ true → v.dtack t ≡ true
          still t h = grind (arith, u t)

      pub berr_rises : DataHigh v → Cycled v busy → Cycled (record v { berr = false }) busy
      berr_rises high c = answers_change v.dtack false (λ a i. record { dtack_by = i.dtack_by; berr_by = λ h. absurd (cc); boards = i.boards }) high c

      -- ---- the acknowledge chain

      -- the acknowledge chain begins
      pub iack_falls : (w : ℕ) → v.iack ≡ false → is_acknowledge v.shown ≡ true → v.dstrobe w ≡ true → Cycled v busy
          → Cycled (record v { iack = true; acknowledged = v.shown; answered = false; passers = [] }) busy
      iack_falls w h a l c =
          let x = asking_of w l c in
          let i = x.3 in
          let low = sym i.iack_is ∙ h in (
            Asking x.0 true 0,
            record {
              given = i.given;
              strobed = i.strobed;
              reached = record {
                iack_is = refl;
                from_start = λ _. refl;
                iout_below = λ t o l. omega (arith, i.iout_below t o l, i.from_start low);
                iout_each = λ t o l. absurd (omega arith);
                acknowledged = λ _. refl;
                passers = λ _. ap (unasked v.shown) (sym (none_part on slots));
              };
              justified = subst (λ x. Justified v.shown true 0 x) (sym (silent_before v.shown x.1 x.2 i.answer a low i.justified)) tt;
              unanswered = λ _ _. refl;
            },
          )

      -- the acknowledge chain rises, when no cycle goes on
      pub iack_rises : StrobesHigh v → Cycled v busy → Cycled (record v { iack = false }) busy
      iack_rises high c = (Quiet, quiet_of high c)

      pub iout_rises : (iout' : ℕ → Bool) → StrobesHigh v → Cycled v busy → Cycled (record v { iout = iout' }) busy
      iout_rises iout' high c = (Quiet, quiet_of high c)

      -- ---- who holds the bus

      holders_change : (busy' : ℕ → Bool) → (InCycle v busy Quiet → (t : ℕ) → v.group t ≡ true → busy' t ≡ true) → Cycled v busy → Cycled v busy'
      holders_change busy' b (Quiet, i) = (Quiet, still_quiet v.group v.dtack v.berr busy' i i.answers (b i))
      holders_change busy' b (Fresh t, i) = (Fresh t, i)
      holders_change busy' b (Asking t g hi, i) = (Asking t g hi, i)
      holders_change busy' b (Done t, i) = (Done t, i)

      pub taken : (busy' : ℕ → Bool) (s : ℕ) → Sets busy' busy s true → Cycled v busy → Cycled v busy'
      taken busy' s u c = holders_change busy' (λ i t h. grind (arith, u t, i.group_busy t h)) c

      pub given_up : (busy' : ℕ → Bool) (s : ℕ) → OneHolder busy → busy s ≡ true → (v.strobe s ≡ false → v.group s ≡ false) → Cycled v busy → Cycled v busy'
      given_up busy' s one b off c = holders_change busy' (λ i t h. let e = one t s (i.group_busy t h) b in absurd (cc (off (i.strobe_high s), h, e))) c

      -- ---- what each phase says about the address lines and the answers

      pub one_group : (s t : ℕ) → OneHolder busy → v.group s ≡ true → v.group t ≡ true → Cycled v busy → s ≡ t
      one_group s t one a b (Quiet, i) = one s t (i.group_busy s a) (i.group_busy t b)
      one_group s t one a b (Fresh m, i) = i.opened.group_only s a ∙ sym (i.opened.group_only t b)
      one_group s t one a b (Asking m g hi, i) = i.opened.group_only s a ∙ sym (i.opened.group_only t b)
      one_group s t one a b (Done m, i) = i.opened.group_only s a ∙ sym (i.opened.group_only t b)

      open_strobe : (s m : ℕ) → IsOpen v.strobe v.group m → v.group s ≡ true → v.strobe s ≡ true
      open_strobe s m i a = subst (λ x. v.strobe x ≡ true) (sym (i.group_only s a)) i.strobe_low

      pub group_strobe : (s : ℕ) → v.group s ≡ true → busy s ≡ false → Cycled v busy → v.strobe s ≡ true
      group_strobe s a b (Quiet, i) = absurd (cc (i.group_busy s a))
      group_strobe s a b (Fresh m, i) = open_strobe s m i.opened a
      group_strobe s a b (Asking m g hi, i) = open_strobe s m i.opened a
      group_strobe s a b (Done m, i) = open_strobe s m i.opened a

      pub answer_of : Cycled v busy → (a : Answer) × IsAnswer v.dtack v.berr a
      answer_of (Quiet, i) = (i.answer, i.answers)
      answer_of (Fresh m, i) = (i.answer, i.answers)
      answer_of (Asking m g hi, i) = (i.answer, i.answers)
      answer_of (Done m, i) = (i.answer, i.answers)

      -- an acknowledge has come to slot s, which has not answered it or passed it on
      module _ (s w level : ℕ) (found : Option ℕ) (sh : v.shown ≡ Some (Acknowledge level)) (o : on s ≡ true) (b : brd s ≡ true) (d : v.dtack s ≡ false) (f : IsBelow on s found)
          (high : v.iout s ≡ false) (low : iack_before v found ≡ true) (l : v.dstrobe w ≡ true) (c : Cycled v busy) where
        comes : Reaches v s
        comes =
            let x = asking_of w l c in
            let p = front x.0 s x.1 x.2 found o f high low x.3 in
            let can : CanAnswer v.shown x.1 x.2 s = subst (λ y. CanAnswer y x.1 x.2 s) (sym sh) (o, p.low, p.above, p.all) in
            record { owner = x.0; g = x.1; hi = x.2; asking = x.3; place = p; quiet = silent x.0 s x.1 x.2 d b can x.3 }

        pub rightful_answer : RightfulAnswer v s
        rightful_answer =
            let r = comes in
            record {
              acknowledged = r.acknowledged r.low;
              unanswered = r.unanswered r.low r.quiet;
              passers = r.passers r.low ∙ ap (unasked v.shown) (same_part on r.hi s slots (λ t x l. same_less t r.hi s (λ y. omega (arith, r.above)) (r.all t x)));
            }

  -- slot s passes the acknowledge on
  pub iout_falls : ((t : ℕ) → on t ≡ true → (1 ≤ t) × (t ≤ slots)) → (v : CycleWires) (busy : ℕ → Bool) (iout' : ℕ → Bool) (passers' : List (Driver × Option Cycle × Bool)) (s w level : ℕ)
      (found : Option ℕ) → Sets iout' v.iout s true → passers' ≡ (Slot s, v.shown, false) ∷ v.passers → v.shown ≡ Some (Acknowledge level) → on s ≡ true → brd s ≡ true → v.dtack s ≡ false
      → IsBelow on s found → v.iout s ≡ false → iack_before v found ≡ true → v.dstrobe w ≡ true → Cycled v busy → Cycled (record v { iout = iout'; passers = passers' }) busy
  iout_falls within v busy iout' passers' s w level found u tr sh o b d f high low l c =
      let r = comes v busy s w level found sh o b d f high low l c in (
        Asking r.owner r.g (suc s),
        record {
          given = r.given;
          strobed = r.strobed;
          reached = record {
            iack_is = r.iack_is;
            from_start = λ h. absurd (cc (r.low, h));
            iout_below = λ t w l. grind (arith, u t, r.iout_below t w, r.above);
            iout_each = λ t w l. grind (arith, u t, r.iout_each t w, r.all t w);
            acknowledged = r.acknowledged;
            passers = λ h. tr ∙ ap (λ ts. (Slot s, v.shown, false) ∷ ts) (r.passers h) ∙ sym (ap (unasked v.shown) (more_part on r.hi s slots o (within s o).0 (within s o).1 r.above r.all));
          };
          justified = subst (λ x. Justified v.shown r.g (suc s) x) (sym r.quiet) tt;
          unanswered = r.unanswered;
        },
      )
