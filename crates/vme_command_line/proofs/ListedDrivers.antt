-- A text names drivers with a slack each, from the first part on.
use Rattle.std.proofs.Common.{◌≡◌, ◌≢◌, ◌∙◌, ◌||◌, ◌<◌, ◌++◌, ◌∷◌, [], ◌==◌, ℕ, Bool, true, false, cond, eqb, List, codes, refl, sym, ap, subst, append_assoc, append-nil, arith}
use Rattle.std.proofs.lemmas.Bool.Decides.{nat_tests}
use Rattle.clap.specs.Words.{Text}
use Rattle.vme_model.specs.declared.signals.Driver.{Driver}
use Rattle.vme_model.specs.declared.signals.Driver.TheVariants.{Controller, Slot}
use Rattle.vme_model.specs.Signals.{is_same_driver}
use Rattle.vme_trace.specs.Fronts.{IsDriver}
use Rattle.vme_moments.specs.declared.slacks.Slacks.{Slacks}
use Rattle.vme_moments.specs.Before.{names, slack_of}
use Rattle.vme_command_line.specs.Slacks.{AreApart, AreLate, HaveSlacks, IsLate, Late, is_late, late_slack}
use Rattle.vme_command_line.specs.Naming.{HasNamed, IsOnlyLate, NameApart, NameNoneApart, NamesNone, NamesOne}
use Rattle.vme_command_line.proofs.NamedDrivers.{Lacks, cut_once, late_lacks, lacks_not}

-- ---- one driver, or two

same_number : (s t : ℕ) → eqb s t ≡ true → s ≡ t
same_number s t h = grind (arith, nat_tests)

same_slots : (s : ℕ) → eqb s s ≡ true
same_slots s = grind (arith, nat_tests)

false_true : (let b : Bool = false in b ≡ true) → ⊥
false_true h = cc

same_driver : (d e : Driver) → is_same_driver d e ≡ true → d ≡ e
same_driver Controller Controller h = refl
same_driver Controller (Slot t) h = absurd (false_true h)
same_driver (Slot s) Controller h = absurd (false_true h)
same_driver (Slot s) (Slot t) h = ap (λ n. Slot n) (same_number s t h)

itself : (d : Driver) → is_same_driver d d ≡ true
itself Controller = refl
itself (Slot s) = same_slots s

other_driver : (d e : Driver) → is_same_driver d e ≡ false → e ≢ d
other_driver d e h is = false_true (sym h ∙ ap (λ f. is_same_driver d f) is ∙ itself d)

neither : (a b : Bool) → (a || b) ≡ false → (a ≡ false) × (b ≡ false)
neither true b h = absurd (false_true (sym h))
neither false b h = (refl, h)

both_false : (a b : Bool) → a ≡ false → b ≡ false → (a || b) ≡ false
both_false a b e f = rw (e, f) refl

-- who is not one driver is not the other, in either order
turned : (d e : Driver) → is_same_driver d e ≡ false → is_same_driver e d ≡ false
turned d e h = by (is_same_driver e d) refl
  where
    by : (b : Bool) → is_same_driver e d ≡ b → b ≡ false
    by true t = absurd (other_driver d e h (same_driver e d t))
    by false t = refl

-- ---- one more driver behind others

is_late_end : (lates : List Late) (late : Late) (d : Driver)
    → is_late (lates ++ late ∷ []) d ≡ (is_same_driver late.driver d || is_late lates d)
is_late_end [] late d = refl
is_late_end (l ∷ lates) late d =
    ap (λ b. is_same_driver l.driver d || b) (is_late_end lates late d)
    ∙ swapped (is_same_driver l.driver d) (is_same_driver late.driver d) (is_late lates d)
  where
    swapped : (a b c : Bool) → (a || (b || c)) ≡ (b || (a || c))
    swapped true true c = refl
    swapped true false c = refl
    swapped false true c = refl
    swapped false false c = refl

slack_end : (lates : List Late) (late : Late) (d : Driver) → is_late lates late.driver ≡ false
    → late_slack (lates ++ late ∷ []) d
    ≡ cond (is_same_driver late.driver d) late.slack (late_slack lates d)
slack_end [] late d h = refl
slack_end (l ∷ lates) late d h =
    let apart = neither (is_same_driver l.driver late.driver) (is_late lates late.driver) h in
    by apart.0 (is_same_driver l.driver d) refl (is_same_driver late.driver d) refl
    (slack_end lates late d apart.1)
  where
    by : is_same_driver l.driver late.driver ≡ false → (a : Bool) → is_same_driver l.driver d ≡ a
        → (b : Bool) → is_same_driver late.driver d ≡ b
        → late_slack (lates ++ late ∷ []) d
        ≡ cond (is_same_driver late.driver d) late.slack (late_slack lates d)
        → cond a l.slack (late_slack (lates ++ late ∷ []) d)
        ≡ cond b late.slack (cond a l.slack (late_slack lates d))
    by apart true e true f rest =
        absurd (other_driver l.driver late.driver apart
        (same_driver late.driver d f ∙ sym (same_driver l.driver d e)))
    by apart true e false f rest = refl
    by apart false e b f rest = rest ∙ ap (λ t. cond t late.slack (late_slack lates d)) f

apart_end : (lates : List Late) (late : Late) → AreApart lates → is_late lates late.driver ≡ false
    → AreApart (lates ++ late ∷ [])
apart_end [] late apart h = (refl, tt)
apart_end (l ∷ lates) late apart h =
    let two = neither (is_same_driver l.driver late.driver) (is_late lates late.driver) h in (
      is_late_end lates late l.driver
          ∙ both_false (is_same_driver late.driver l.driver) (is_late lates l.driver)
          (turned l.driver late.driver two.0) apart.0,
      apart_end lates late apart.1 two.1,
    )

-- whoever is named later is not among those before
apart_front : (lates : List Late) (late : Late) (more : List Late) → AreApart (lates ++ late ∷ more)
    → is_late lates late.driver ≡ false
apart_front [] late more h = refl
apart_front (l ∷ lates) late more h =
    both_false (is_same_driver l.driver late.driver) (is_late lates late.driver)
    (turned late.driver l.driver (not_among lates late more l.driver h.0))
    (apart_front lates late more h.1)
  where
    not_among : (ls : List Late) (late : Late) (more : List Late) (d : Driver)
        → is_late (ls ++ late ∷ more) d ≡ false → is_same_driver late.driver d ≡ false
    not_among [] late more d h =
        (neither (is_same_driver late.driver d) (is_late more d) h).0
    not_among (l ∷ ls) late more d h =
        not_among ls late more d
        (neither (is_same_driver l.driver d) (is_late (ls ++ late ∷ more) d) h).1

-- ---- part by part

module _ (text first rest : Text) (is : text ≡ first ++ 44 ∷ rest) where
  late_more : (late : Late) (lates : List Late) → IsLate first late → AreLate rest lates
      → AreLate text (late ∷ lates)
  late_more late [] one others = absurd others
  late_more late (l ∷ ls) one others =
      (first, rest, is ∙ sym (append_assoc first (codes ",") rest), one, others)

  late_parts : Lacks 44 first → (lates : List Late) → AreLate text lates
      → (late : Late) × (others : List Late) × (lates ≡ late ∷ others) × IsLate first late
      × AreLate rest others
  late_parts lacks [] h = absurd h
  late_parts lacks (l ∷ []) h =
      absurd (lacks_not 44 first rest (subst (λ t. Lacks 44 t) is (late_lacks text l h)))
  late_parts lacks (l ∷ m ∷ ls) h =
      let same = cut_once 44 h.0 h.1 first rest (late_lacks h.0 l h.3) lacks
      (sym (h.2 ∙ append_assoc h.0 (codes ",") h.1) ∙ is) in (
        l,
        m ∷ ls,
        refl,
        subst (λ t. IsLate t l) same.0 h.3,
        subst (λ t. AreLate t (m ∷ ls)) same.1 h.4,
      )

late_alone : (text : Text) → Lacks 44 text → (lates : List Late) → AreLate text lates
    → (late : Late) × (lates ≡ late ∷ []) × IsLate text late
late_alone text lacks [] h = absurd h
late_alone text lacks (l ∷ []) h = (l, refl, h)
late_alone text lacks (l ∷ m ∷ ls) h =
    absurd (lacks_not 44 h.0 h.1
    (subst (λ t. Lacks 44 t) (h.2 ∙ append_assoc h.0 (codes ",") h.1) lacks))

-- ---- a driver is named, or is not

module _ (old new : Slacks) (text : Text) (late : Late) (only : IsOnlyLate text late) where
  pub named_before : names old late.driver ≡ true → NamesNone old text
  named_before h other is =
      ap (λ (l : Late). names old l.driver) (only.1 other is) ∙ h

  pub named_now : names old late.driver ≡ false → slack_of new late.driver ≡ late.slack
      → ((d : Driver) → d ≢ late.driver → slack_of new d ≡ slack_of old d)
      → names new late.driver ≡ true
      → ((d : Driver) → d ≢ late.driver → names new d ≡ names old d) → NamesOne old text new
  named_now unnamed slack others is kept = record {
    late = late;
    only = only;
    unnamed = unnamed;
    slacks = λ d. slack_by d (is_same_driver late.driver d) refl;
    named = λ d. name_by d (is_same_driver late.driver d) refl;
  }
    where
      slack_by : (d : Driver) (b : Bool) → is_same_driver late.driver d ≡ b
          → slack_of new d ≡ cond b late.slack (slack_of old d)
      slack_by d true e =
          ap (λ f. slack_of new f) (sym (same_driver late.driver d e)) ∙ slack
      slack_by d false e = others d (other_driver late.driver d e)

      name_by : (d : Driver) (b : Bool) → is_same_driver late.driver d ≡ b
          → names new d ≡ (b || names old d)
      name_by d true e = ap (λ f. names new f) (sym (same_driver late.driver d e)) ∙ is
      name_by d false e = kept d (other_driver late.driver d e)

-- ---- the drivers so far

module _ (text rest : Text) (x y : Slacks) (had : HasNamed text rest x) (part : Text)
    (one : NamesOne x part y) where
  new_driver : is_late had.lates one.late.driver ≡ false
  new_driver = sym (had.slacks one.late.driver one.only.0.3.0).1 ∙ one.unnamed

  with_one : List Late
  with_one = had.lates ++ one.late ∷ []

  slacks_with : HaveSlacks with_one y
  unfolding with_one
  slacks_with d h = (
    one.slacks d
        ∙ ap (λ n. cond (is_same_driver one.late.driver d) one.late.slack n) (had.slacks d h).0
        ∙ sym (slack_end had.lates one.late d new_driver),
    one.named d
        ∙ ap (λ b. is_same_driver one.late.driver d || b) (had.slacks d h).1
        ∙ sym (is_late_end had.lates one.late d),
  )

  apart_with : AreApart with_one
  unfolding with_one
  apart_with = apart_end had.lates one.late had.apart new_driver

  -- more follow behind a comma
  pub goes_on : (others : Text) → rest ≡ part ++ 44 ∷ others → Lacks 44 part
      → HasNamed text others y
  unfolding with_one
  goes_on others is lacks = record {
    lates = with_one;
    apart = apart_with;
    slacks = slacks_with;
    behind = λ more h.
        subst (λ l. AreLate text l) (sym (append_assoc had.lates (one.late ∷ []) more))
        (had.behind (one.late ∷ more) (late_more rest part others is one.late more one.only.0 h));
    only = λ all h. only_with all (had.only all h);
  }
    where
      only_with : (all : List Late) → ((more : List Late) × (all ≡ had.lates ++ more) × AreLate rest more)
          → (more : List Late) × (all ≡ (had.lates ++ one.late ∷ []) ++ more) × AreLate others more
      only_with all found =
          let parts = late_parts rest part others is lacks found.0 found.2 in
          let late : parts.0 ≡ one.late = one.only.1 parts.0 parts.3 in (
            parts.1,
            found.1 ∙ ap (λ l. had.lates ++ l) (parts.2 ∙ ap (λ l. l ∷ parts.1) late)
                ∙ sym (append_assoc had.lates (one.late ∷ []) parts.1),
            parts.4,
          )

  -- it was the last
  pub ends : rest ≡ part → NameApart text y
  unfolding with_one
  ends is = (
    with_one,
    had.behind (one.late ∷ []) (subst (λ t. IsLate t one.late) (sym is) one.only.0),
    apart_with,
    slacks_with,
  )

module _ (text rest : Text) (x : Slacks) (had : HasNamed text rest x) (part : Text)
    (none : NamesNone x part) where
  refused : (late : Late) (more : List Late) → IsLate part late
      → ¬ AreApart (had.lates ++ late ∷ more)
  refused late more is apart =
      false_true (sym (apart_front had.lates late more apart)
      ∙ sym (had.slacks late.driver is.3.0).1 ∙ none late is)

  -- before a comma
  pub refused_before : (others : Text) → rest ≡ part ++ 44 ∷ others → Lacks 44 part
      → NameNoneApart text
  refused_before others is lacks all h apart =
      let found = had.only all h in
      let parts = late_parts rest part others is lacks found.0 found.2 in
      refused parts.0 parts.1 parts.3
      (subst (λ l. AreApart l) (found.1 ∙ ap (λ l. had.lates ++ l) parts.2) apart)

  -- at the end
  pub refused_last : rest ≡ part → Lacks 44 part → NameNoneApart text
  refused_last is lacks all h apart =
      let found = had.only all h in
      let last = late_alone part lacks found.0 (subst (λ t. AreLate t found.0) is found.2) in
      refused last.0 [] last.2
      (subst (λ l. AreApart l) (found.1 ∙ ap (λ l. had.lates ++ l) last.1) apart)
