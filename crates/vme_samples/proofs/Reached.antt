-- All that is known behind a set of the changes of a sample tells the same of what the probes see.
use Rattle.std.proofs.Common.{◌≡◌, ◌⊎◌, ◌∙◌, ◌<◌, ◌≤◌, ◌+◌, ◌^◌, ℕ, zero, suc, Bool, true, false, List, length, inl, inr, refl, sym, ap, subst, arith}
use Rattle.std.specs.Prelude.{◌&&◌, Option, Some, None, is_some}
use Rattle.std.proofs.lemmas.Bool.{cases_lt}
use Rattle.vme_model.specs.Accepted.{IsAccepted}
use Rattle.vme_model.specs.Plan.{Plan}
use Rattle.vme_model.proofs.Bools.{and_left, and_right}
use Rattle.vme_captures.specs.declared.signals.Line.TheVariants as line
use Rattle.vme_captures.specs.declared.signals.Pin.{Pin}
use Rattle.vme_captures.specs.declared.signals.Signal.TheVariants as signal
use Rattle.vme_captures.specs.Levels.{is_line_left_low}
use Rattle.vme_standings.specs.declared.standings.Probed.{Probed}
use Rattle.vme_standings.specs.declared.standings.Shown.{Shown}
use Rattle.vme_standings.specs.declared.standings.Standings.{Standings}
use Rattle.vme_standings.specs.Hidden.{HasMoved}
use Rattle.vme_standings.specs.Segments.{has_segment}
use Rattle.vme_standings.specs.Unions.{Unites}
use Rattle.vme_standings.proofs.Tests.{never}
use Rattle.vme_samples.specs.declared.places.Places.{Places}
use Rattle.vme_samples.specs.declared.samples.SeenChange.{SeenChange}
use Rattle.vme_samples.specs.Places.{has_place, with, without}
use Rattle.vme_samples.specs.Samples.{comes_next, is_of}
use Rattle.vme_samples.specs.Ways.{AreWays, Gathered, Hides, Joins, Known, LedTo, Steps, hidden_behind, may_be_last}
use Rattle.vme_samples.proofs.Next.{Closed, Next, closed_next, next_of}
use Rattle.vme_samples.proofs.OneMore.{none_in, same_places, taken_out, with_more, with_other}
use Rattle.vme_samples.proofs.Said.{count, count_none, said_up}
use Rattle.vme_samples.proofs.Tells.{Fits, Tells, data_strobe, is_fall_of, is_of_wire, is_rise_of, one_if, open_cycles, says_fall, says_shown, strobe}
use Rattle.vme_samples.proofs.TellsNext.{tells_next}

pub same_known : (a b : Standings) → Some a ≡ Some b → a ≡ b
same_known a b e = cc

module _ (p : Plan) (ok : IsAccepted p) (pins : List Pin) (probed : Probed) (sample : List SeenChange) (start : Standings) where
  -- with each change the set has all earlier ones of its line or pin, and the standings say what it says
  pub record Told (set : Places) (st : Standings) : Type 0 where
    pub closed : Closed sample set
    pub tells : Tells p sample start set st

  abbrev pub AllFit : Places → Type 0
  AllFit set = (j : ℕ) → has_place set j ≡ true → Fits p pins sample start j

  pub told_moved : (set : Places) (old new : Standings) → HasMoved p probed old new → Told set old → Told set new
  told_moved set old new moved told = record {
    closed = told.closed;
    tells = record {
      lines = λ l. ap (λ x. is_line_left_low x l) moved.lines ∙ told.tells.lines l;
      low = λ c t. ap (λ x. has_segment x c t) moved.low ∙ told.tells.low c t;
      shown = moved.shown ∙ told.tells.shown;
      strobed =
          told.tells.strobed
          ∙ ap (λ k. count (is_rise_of sample strobe) (has_place set) (length sample) + k)
          (sym (ap (λ (x : Option Shown). one_if (is_some x && new.strobed)) moved.shown ∙ ap (λ x. one_if (is_some old.shown && x)) moved.strobed));
    };
  }

  told_united : (set : Places) (a b new : Standings) → Unites a b new → Told set a → Told set new
  told_united set a b new unites told = record {
    closed = told.closed;
    tells = record {
      lines = λ l. ap (λ x. is_line_left_low x l) unites.lines ∙ told.tells.lines l;
      low = λ c t. ap (λ x. has_segment x c t) unites.low ∙ told.tells.low c t;
      shown = unites.shown ∙ told.tells.shown;
      strobed =
          told.tells.strobed
          ∙ ap (λ k. count (is_rise_of sample strobe) (has_place set) (length sample) + k)
          (sym (ap (λ (x : Option Shown). one_if (is_some x && new.strobed)) unites.shown ∙ ap (λ x. one_if (is_some a.shown && x)) unites.strobed));
    };
  }

  -- behind no change
  none_told : (set : Places) → set.bits ≡ 0 → Told set start
  none_told set z = record {
    closed = λ j s at on i l of. absurd (never (has_place set j) on (none_in set z j));
    tells = record {
      lines = λ l. sym (said_up (is_of sample (signal.Line l)) (says_fall sample) (is_line_left_low start.lines l) (has_place set) 0 (length sample) (omega arith) (λ j a b c. none_in set z j));
      low = λ c t. sym (said_up (is_of_wire p sample c t) (says_fall sample) (has_segment start.low c t) (has_place set) 0 (length sample) (omega arith) (λ j a b d. none_in set z j));
      shown = sym (said_up (is_of sample strobe) (says_shown sample) start.shown (has_place set) 0 (length sample) (omega arith) (λ j a b c. none_in set z j));
      strobed =
          ap (λ k. k + open_cycles start)
          (count_none (is_fall_of sample data_strobe) (has_place set) (length sample) (none_in set z) ∙ sym (count_none (is_rise_of sample strobe) (has_place set) (length sample) (none_in set z)));
    };
  }

  module _ (known : Known) where
    -- what is known behind the set without a change tells so
    abbrev pub BeforeTold : Places → Type 0
    BeforeTold set =
        (i : ℕ) → has_place set i ≡ true → Next sample (without set i) i
        → (st : Standings) → hidden_behind known (without set i) ≡ Some st → Told (without set i) st

    module _ (set : Places) (fits : AllFit set) (before : BeforeTold set) where
      pub led_told : (i : ℕ) (one : Option Standings) → LedTo p probed sample known set i one → (st : Standings) → one ≡ Some st → Told set st
      led_told i None led st is = absurd (cc)
      led_told i (Some x) led st is = by_able (may_be_last sample set i) refl
        where
          by_able : (b : Bool) → may_be_last sample set i ≡ b → Told set st
          by_able false cannot = absurd (clash (led.unable cannot))
            where
              clash : Some x ≡ None → ⊥
              clash e = cc
          by_able true can = by_known (hidden_behind known (without set i)) refl (subst (λ o. Steps p probed (hidden_behind known (without set i)) o (Some x)) n.at (led.able can))
            where
              on : has_place set i ≡ true
              on = and_left (has_place set i) (comes_next sample (without set i) i) can

              n : Next sample (without set i) i
              n = next_of sample (without set i) i (and_right (has_place set i) (comes_next sample (without set i) i) can)

              put : with (without set i) i ≡ set
              put = taken_out set i on

              by_known : (o : Option Standings) → hidden_behind known (without set i) ≡ o → Steps p probed o (Some n.seen) (Some x) → Told set st
              by_known None at e = absurd (cc)
              by_known (Some h) at makes =
                  let told = before i on n h at in
                  let now : Told (with (without set i) i) x =
                  record {
                    closed = closed_next sample (without set i) i n told.closed;
                    tells = tells_next p ok pins probed sample start (without set i) i n told.closed h told.tells (subst AllFit (sym put) fits) x makes;
                  } in
                  subst (λ y. Told set y) (same_known x st is) (subst (λ s. Told s x) put now)

      joined_told : (a b new : Option Standings) → Joins a b new → ((st : Standings) → a ≡ Some st → Told set st) → ((st : Standings) → b ≡ Some st → Told set st) → (st : Standings) → new ≡ Some st
          → Told set st
      joined_told None b new j ta tb st is = tb st (sym j ∙ is)
      joined_told (Some a) None new j ta tb st is = ta st (sym j ∙ is)
      joined_told (Some a) (Some b) new (u, unites, j) ta tb st is =
          subst (λ y. Told set y) (same_known u st (sym j ∙ is)) (told_united set a b u unites (ta a refl))

      pub gathered_told : (m : ℕ) (new : Option Standings) → Gathered p probed sample known set m new → (st : Standings) → new ≡ Some st → Told set st
      gathered_told zero new none st is = absurd (clash (sym none ∙ is))
        where
          clash : None ≡ Some st → ⊥
          clash e = cc
      gathered_told (suc m) new (others, one, gathered, led, joins) st is =
          joined_told others one new joins (gathered_told m others gathered) (led_told m one led) st is

    module _ (ways : AreWays p probed start sample known) where
      hidden_told : (set : Places) (at : Option Standings) → Hides p probed at (hidden_behind known set) → ((x : Standings) → at ≡ Some x → Told set x) → (st : Standings)
          → hidden_behind known set ≡ Some st → Told set st
      hidden_told set None none told st is = absurd (clash (sym none ∙ is))
        where
          clash : None ≡ Some st → ⊥
          clash e = cc
      hidden_told set (Some x) (hidden, moved, at) told st is =
          subst (λ y. Told set y) (same_known hidden st (sym at ∙ is)) (told_moved set x hidden moved (told x refl))

      pub fits_before : (set : Places) (i : ℕ) → has_place set i ≡ true → Next sample (without set i) i → AllFit set → AllFit (without set i)
      fits_before set i on n fits j has =
          fits j (subst (λ s. has_place s j ≡ true) (taken_out set i on)
          (with_other (without set i) i j n.off (λ e. never (has_place (without set i) j) has (subst (λ y. has_place (without set i) y ≡ false) (sym e) n.off)) ∙ has))

      pub reached_told : (m : ℕ) (set : Places) → set.bits < m → set.bits < 2 ^ length sample → AllFit set → (st : Standings) → hidden_behind known set ≡ Some st → Told set st
      reached_told zero set l near fits st is = absurd (omega (arith, l))
      reached_told (suc m) set l near fits st is = by_size (cases_lt 0 set.bits) (λ s k. reached_told m s k)
        where
          start_of : (x : Standings) → Some start ≡ Some x → start ≡ x
          start_of x e = cc

          less : (i : ℕ) → has_place set i ≡ true → (without set i).bits < set.bits
          less i on = subst (λ s. (without set i).bits < s.bits) (taken_out set i on) (with_more (without set i) i)

          by_size : (0 < set.bits) ⊎ (set.bits ≤ 0)
              → ((s : Places) → s.bits < m → s.bits < 2 ^ length sample → AllFit s → (x : Standings) → hidden_behind known s ≡ Some x → Told s x) → Told set st
          by_size (inl pos) rest =
              let k = ways.others set pos near in
              hidden_told set k.at k.hides
              (gathered_told set fits
              (λ i on n h at. let q = less i on in rest (without set i) (omega (arith, q, l)) (omega (arith, q, near)) (fits_before set i on n fits) h at)
              (length sample) k.at k.gathered) st is
          by_size (inr none) rest =
              let z : set.bits ≡ 0 = omega (arith, none) in
              let e : set ≡ record { bits = 0 } = same_places set (record { bits = 0 }) z in
              hidden_told set (Some start) (subst (λ s. Hides p probed (Some start) (hidden_behind known s)) (sym e) ways.begins)
              (λ x is. subst (λ y. Told set y) (start_of x is) (none_told set z)) st is

      -- what is known behind a set has the hidden moves
      pub moved_behind : (set : Places) → set.bits < 2 ^ length sample → (st : Standings) → hidden_behind known set ≡ Some st → (x : Standings) × HasMoved p probed x st
      moved_behind set near st is = by_size (cases_lt 0 set.bits)
        where
          of_hides : (at : Option Standings) → Hides p probed at (hidden_behind known set) → (x : Standings) × HasMoved p probed x st
          of_hides None none = absurd (clash (sym none ∙ is))
            where
              clash : None ≡ Some st → ⊥
              clash e = cc
          of_hides (Some x) (hidden, moved, at) = (x, subst (HasMoved p probed x) (same_known hidden st (sym at ∙ is)) moved)

          by_size : (0 < set.bits) ⊎ (set.bits ≤ 0) → (x : Standings) × HasMoved p probed x st
          by_size (inl pos) = let k = ways.others set pos near in of_hides k.at k.hides
          by_size (inr none) =
              let z : set.bits ≡ 0 = omega (arith, none) in
              let e : set ≡ record { bits = 0 } = same_places set (record { bits = 0 }) z in
              of_hides (Some start) (subst (λ s. Hides p probed (Some start) (hidden_behind known s)) (sym e) ways.begins)
