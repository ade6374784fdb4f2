-- The grant chains, as four phases: what holds in each, and the phase to which each edge leads.
use Rattle.std.proofs.Common.{◌≡◌, ◌≢◌, ◌⊎◌, ℕ, zero, suc, ◌+◌, ◌-◌, ◌<◌, ◌≤◌, Bool, true, false, List, [], ◌∷◌, Option, Some, None, refl, sym, ap, ◌∙◌, subst, arith, inl, inr, ⊎_elim}
use Rattle.std.specs.Prelude.{map}
use Rattle.std.proofs.lemmas.Bool.{cases_lt}
use Rattle.vme_model.specs.declared.signals.Driver.{Driver}
use Rattle.vme_model.specs.declared.signals.Driver.TheVariants.{Slot}
use Rattle.vme_model.proofs.Bools.{is_false}
use Rattle.vme_model.proofs.Below.{IsBelow, low_part, same_part, more_part, none_part, same_less}

-- what the drivers of the grant side drive, and what the edges since the last grant were
pub record GrantWires : Type 0 where
  pub bg : ℕ → Bool
  pub out : ℕ → Bool
  pub busy : ℕ → Bool
  pub br : ℕ → Bool
  pub granted : Option ℕ
  pub taken : Bool
  pub passers : List (Driver × Bool)
  -- a slot of the level gave its request up since the last grant, without the bus
  pub withdrawn : ℕ → Bool

-- new is old except for v at s
abbrev pub Sets : (new old : ℕ → Bool) → ℕ → Bool → Type 0
Sets new old s v = (t : ℕ) → ((t ≡ s) × (new t ≡ v)) ⊎ ((t ≢ s) × (new t ≡ old t))

-- No grant is low, and nobody holds the bus. Or the controller's segment of chain c is low, with
-- those of its slots below hi. Or slot k of chain c holds the bus, and the segments from lo up to
-- it are low, the controller's included if g is true. Or, in the second version, the controller
-- took the grant of chain c back, and the segments from lo on are low.
pub data Phase : Type 0 where
  Idle : Phase
  Granting : (c hi : ℕ) → Phase
  Held : (c k lo : ℕ) (g : Bool) → Phase
  Expired : (c lo : ℕ) → Phase

abbrev pub chain_of : Phase → ℕ
chain_of Idle = 0
chain_of (Granting c hi) = c
chain_of (Held c k lo g) = c
chain_of (Expired c lo) = c

abbrev pub segment_of : GrantWires → ℕ → Option ℕ → Bool
segment_of v n None = v.bg n
segment_of v n (Some s) = v.out s

-- slots that passed with no request of their own
abbrev pub quiet : List ℕ → List (Driver × Bool)
quiet ts = map (λ t. (Slot t, false)) ts

-- the least number from a that passes
pub record IsLeast (test : ℕ → Bool) (a w s : ℕ) : Type 0 where
  pub passes : test s ≡ true
  pub from : a ≤ s
  pub to : s ≤ w
  pub least : (t : ℕ) → test t ≡ true → a ≤ t → s ≤ t

least_at : (test : ℕ → Bool) (d a w : ℕ) → a + d ≡ w → test w ≡ true → (s : ℕ) × IsLeast test a w s
least_at test zero a w e h = (w, record { passes = h; from = omega arith; to = omega arith; least = λ t _ l. omega arith })
least_at test (suc d) a w e h = here (test a) refl (least_at test d (suc a) w (omega arith) h)
  where
    here : (x : Bool) → test a ≡ x → ((s : ℕ) × IsLeast test (suc a) w s) → (s : ℕ) × IsLeast test a w s
    here true f r = (a, record { passes = f; from = omega arith; to = omega arith; least = λ t _ l. l })
    here false f (s, i) = (s, record { passes = i.passes; from = omega (arith, i.from); to = i.to; least = λ t x l. below t x l f s i })
      where
        below : (t : ℕ) → test t ≡ true → a ≤ t → test a ≡ false → (s : ℕ) → IsLeast test (suc a) w s → s ≤ t
        below t x l f s i = grind (arith, i.least t x)

least_from : (test : ℕ → Bool) (a w : ℕ) → a ≤ w → test w ≡ true → (s : ℕ) × IsLeast test a w s
least_from test a w l h = least_at test (w - a) a w (omega arith) h

module _ (on : ℕ → ℕ → Bool) (slots : ℕ) (two : Bool) where
  pub record IsIdle (bg out busy : ℕ → Bool) : Type 0 where
    pub bg_high : (n : ℕ) → bg n ≡ false
    pub out_high : (s : ℕ) → out s ≡ false
    pub free : (s : ℕ) → busy s ≡ false

  -- a board at or above the front waits
  pub record IsWanted (br : ℕ → Bool) (c hi : ℕ) : Type 0 where
    pub waiter : ℕ
    pub waiter_on : on c waiter ≡ true
    pub waiter_above : hi ≤ waiter
    pub waits : br waiter ≡ true

  -- a slot of chain c gave its request up
  pub record GaveUp (withdrawn : ℕ → Bool) (c : ℕ) : Type 0 where
    pub version : two ≡ true
    pub withdrew : withdrawn c ≡ true

  abbrev pub IsWithdrawn : GrantWires → ℕ → Type 0
  IsWithdrawn v c = GaveUp v.withdrawn c

  abbrev pub IsDue : (br withdrawn : ℕ → Bool) (c hi : ℕ) → Type 0
  IsDue br withdrawn c hi = IsWanted br c hi ⊎ GaveUp withdrawn c

  -- the controller grants chain c, and nobody has taken the bus
  pub record IsGranted (bg busy : ℕ → Bool) (last : Option ℕ) (taken : Bool) (c : ℕ) : Type 0 where
    pub few : c < 4
    pub bg_low : bg c ≡ true
    pub bg_only : (n : ℕ) → bg n ≡ true → n ≡ c
    pub free : (s : ℕ) → busy s ≡ false
    pub granted : last ≡ Some c
    pub untaken : taken ≡ false

  -- the slots below hi passed the grant on
  pub record HasReached (out : ℕ → Bool) (passes : List (Driver × Bool)) (c hi : ℕ) : Type 0 where
    pub out_on : (s : ℕ) → out s ≡ true → on c s ≡ true
    pub out_below : (s : ℕ) → out s ≡ true → s < hi
    pub out_each : (s : ℕ) → on c s ≡ true → s < hi → out s ≡ true
    pub passers : passes ≡ quiet (low_part (on c) hi slots)

  pub record IsGranting (v : GrantWires) (c hi : ℕ) : Type 0 where
    pub begun : IsGranted v.bg v.busy v.granted v.taken c
    pub open begun use *
    pub reached : HasReached v.out v.passers c hi
    pub open reached use *
    pub due : IsDue v.br v.withdrawn c hi

  pub record IsHolder (busy : ℕ → Bool) (c k : ℕ) : Type 0 where
    pub member : on c k ≡ true
    pub holds : busy k ≡ true
    pub only : (s : ℕ) → busy s ≡ true → s ≡ k

  -- the controller's segment of chain c is low if g is true, and no other
  pub record IsLed (bg : ℕ → Bool) (c lo : ℕ) (g : Bool) : Type 0 where
    pub bg_low : bg c ≡ g
    pub bg_only : (n : ℕ) → bg n ≡ true → n ≡ c
    pub from_start : g ≡ true → lo ≡ 0

  -- the segments from lo up to slot k are low
  pub record IsBetween (out : ℕ → Bool) (c lo k : ℕ) : Type 0 where
    pub out_on : (s : ℕ) → out s ≡ true → on c s ≡ true
    pub out_below : (s : ℕ) → out s ≡ true → s < k
    pub out_above : (s : ℕ) → out s ≡ true → lo ≤ s
    pub out_each : (s : ℕ) → on c s ≡ true → lo ≤ s → s < k → out s ≡ true

  pub record IsHeld (bg out busy : ℕ → Bool) (c k lo : ℕ) (g : Bool) : Type 0 where
    pub holder : IsHolder busy c k
    pub open holder use *
    pub led : IsLed bg c lo g
    pub open led use *
    pub between : IsBetween out c lo k
    pub open between use *

  -- the controller took the grant back after it had passed the last slot
  pub record IsOver (bg busy : ℕ → Bool) (c : ℕ) : Type 0 where
    pub version : two ≡ true
    pub few : c < 4
    pub bg_high : (n : ℕ) → bg n ≡ false
    pub free : (s : ℕ) → busy s ≡ false

  pub record IsExpired (bg out busy : ℕ → Bool) (c lo : ℕ) : Type 0 where
    pub over : IsOver bg busy c
    pub open over use *
    pub out_on : (s : ℕ) → out s ≡ true → on c s ≡ true
    pub out_above : (s : ℕ) → out s ≡ true → lo ≤ s
    pub out_each : (s : ℕ) → on c s ≡ true → lo ≤ s → out s ≡ true

  abbrev pub InPhase : GrantWires → Phase → Type 0
  InPhase v Idle = IsIdle v.bg v.out v.busy
  InPhase v (Granting c hi) = IsGranting v c hi
  InPhase v (Held c k lo g) = IsHeld v.bg v.out v.busy c k lo g
  InPhase v (Expired c lo) = IsExpired v.bg v.out v.busy c lo

  abbrev pub Phased : GrantWires → Type 0
  Phased v = (p : Phase) × InPhase v p

  -- a slot works one chain, and lies within the backplane
  abbrev pub OneChain : Type 0
  OneChain = (m n s : ℕ) → on m s ≡ true → on n s ≡ true → m ≡ n

  abbrev pub Within : Type 0
  Within = (n s : ℕ) → on n s ≡ true → (1 ≤ s) × (s ≤ slots)

  -- no grant is low, and nobody holds the bus
  abbrev pub NoneGranted : GrantWires → Type 0
  NoneGranted v = (m : ℕ) → m < 4 → v.bg m ≡ false

  abbrev pub AllFree : GrantWires → Type 0
  AllFree v = (m s : ℕ) → on m s ≡ true → v.busy s ≡ false

  -- in the second version, every segment of a board is high
  abbrev pub AllClear : GrantWires → Type 0
  AllClear v = two ≡ true → (m s : ℕ) → on m s ≡ true → v.out s ≡ false

  -- slot s works the chain of level m, and found is what stands before it there
  pub record IsAt (m s : ℕ) (found : Option ℕ) : Type 0 where
    pub member : on m s ≡ true
    pub before : IsBelow (on m) s found

  -- what stands before each slot of chain n, and last
  abbrev pub AllBefore : ℕ → (ℕ → Option ℕ) → Type 0
  AllBefore n before = (s : ℕ) → IsBelow (on n) s (before s)

  abbrev pub IsLast : ℕ → Option ℕ → Type 0
  IsLast n last = IsBelow (on n) (suc slots) last

  -- a grant stands at slot s
  pub record Stands (v : GrantWires) (n s : ℕ) (found : Option ℕ) : Type 0 where
    pub place : IsAt n s found
    pub low : segment_of v n found ≡ true
    pub unpassed : v.out s ≡ false
    pub untaken : v.busy s ≡ false

  -- the grant of chain n goes on, and has come to slot s
  record IsFront (v : GrantWires) (n s : ℕ) : Type 0 where
    hi : ℕ
    granting : IsGranting v n hi
    open granting use *
    above : hi ≤ s
    all : (t : ℕ) → on n t ≡ true → t < s → t < hi

  -- slot s works chain c, and its input is high
  record IsCut (v : GrantWires) (c s : ℕ) (found : Option ℕ) : Type 0 where
    place : IsAt c s found
    high : segment_of v c found ≡ false

  -- in the second version, the grant has passed the last slot
  pub record HasPassed (v : GrantWires) (n : ℕ) (found : Option ℕ) : Type 0 where
    pub version : two ≡ true
    pub last : IsLast n found
    pub low : segment_of v n found ≡ true

  -- the slot at which a grant stands, and the board that waits for it
  pub record Found (v : GrantWires) (n : ℕ) (before : ℕ → Option ℕ) : Type 0 where
    pub slot : ℕ
    pub waiter : ℕ
    pub stands : Stands v n slot (before slot)
    pub above : slot ≤ waiter
    pub waiter_on : on n waiter ≡ true
    pub waits : v.br waiter ≡ true

  -- what a take says about the grant before it
  pub record Rightful (v : GrantWires) (m k : ℕ) : Type 0 where
    pub granted : v.granted ≡ Some m
    pub untaken : v.taken ≡ false
    pub passers : v.passers ≡ quiet (low_part (on m) k slots)

  -- a segment of the chain of level n
  abbrev pub IsPart : ℕ → Option ℕ → Type 0
  IsPart n None = Unit {0}
  IsPart n (Some s) = on n s ≡ true

  abbrev pub Before : Option ℕ → Option ℕ → Type 0
  Before None None = ⊥
  Before None (Some t) = Unit {0}
  Before (Some s) None = ⊥
  Before (Some s) (Some t) = s < t

  still_wanted : (br br' : ℕ → Bool) (c hi hi' : ℕ) (w : IsWanted br c hi) → hi' ≤ w.waiter → br' w.waiter ≡ true → IsWanted br' c hi'
  still_wanted br br' c hi hi' w above low = record { waiter = w.waiter; waiter_on = w.waiter_on; waiter_above = above; waits = low }

  module _ (v : GrantWires) where
    -- ---- which phase it is

    idle_of : NoneGranted v → AllFree v → AllClear v → Phased v → IsIdle v.bg v.out v.busy
    idle_of high free clear (Idle, i) = i
    idle_of high free clear (Granting c hi, i) = absurd (cc (high c i.few, i.bg_low))
    idle_of high free clear (Held c k lo g, i) = absurd (cc (free c k i.member, i.holds))
    idle_of high free clear (Expired c lo, i) = record { bg_high = i.bg_high; out_high = λ s. is_false (v.out s) (λ h. cc (clear i.version c s (i.out_on s h), h)); free = i.free }

    -- where level n is granted, its grant goes on
    same_grant : (n c hi : ℕ) → v.bg n ≡ true → IsGranting v c hi → IsGranting v n hi
    same_grant n c hi low i = subst (λ x. IsGranting v x hi) (sym (i.bg_only n low)) i

    granting_of : AllFree v → (n : ℕ) → v.bg n ≡ true → Phased v → (hi : ℕ) × IsGranting v n hi
    granting_of free n low (Idle, i) = absurd (cc (i.bg_high n))
    granting_of free n low (Granting c hi, i) = (hi, same_grant n c hi low i)
    granting_of free n low (Held c k lo g, i) = absurd (cc (free c k i.member, i.holds))
    granting_of free n low (Expired c lo, i) = absurd (cc (i.bg_high n))

    held_of : (s : ℕ) → v.busy s ≡ true → Phased v → (c : ℕ) × (lo : ℕ) × (g : Bool) × IsHeld v.bg v.out v.busy c s lo g
    held_of s held (Idle, i) = absurd (cc (i.free s))
    held_of s held (Granting c hi, i) = absurd (cc (i.free s))
    held_of s held (Held c k lo g, i) = (c, lo, g, subst (λ x. IsHeld v.bg v.out v.busy c x lo g) (sym (i.only s held)) i)
    held_of s held (Expired c lo, i) = absurd (cc (i.free s))

    -- ---- the edges

    -- the controller grants level n, at which slot w waits
    pub grant_falls : (bg' : ℕ → Bool) (n w : ℕ) → Sets bg' v.bg n true → n < 4 → on n w ≡ true → v.br w ≡ true → NoneGranted v → AllFree v → AllClear v → Phased v
        → Phased (record v { bg = bg'; granted = Some n; taken = false; passers = []; withdrawn = λ _. false })
    grant_falls bg' n w u few o waits high free clear p =
        let i = idle_of high free clear p in (
          Granting n 0,
          record {
            begun = record { few = few; bg_low = grind (arith, u n); bg_only = λ m h. grind (arith, u m, i.bg_high m); free = i.free; granted = refl; untaken = refl };
            reached = record {
              out_on = λ s h. absurd (cc (i.out_high s));
              out_below = λ s h. absurd (cc (i.out_high s));
              out_each = λ s x h. absurd (omega arith);
              passers = ap quiet (sym (none_part (on n) slots));
            };
            due = inl (record { waiter = w; waiter_on = o; waiter_above = omega arith; waits = waits });
          },
        )

    -- the requests change, and a grant that goes on is still due
    requests_change : (br' withdrawn' : ℕ → Bool) → ((c hi : ℕ) → IsGranting v c hi → IsDue br' withdrawn' c hi) → Phased v → Phased (record v { br = br'; withdrawn = withdrawn' })
    requests_change br' withdrawn' due (Idle, i) = (Idle, i)
    requests_change br' withdrawn' due (Granting c hi, i) = (Granting c hi, record { begun = i.begun; reached = i.reached; due = due c hi i })
    requests_change br' withdrawn' due (Held c k lo g, i) = (Held c k lo g, i)
    requests_change br' withdrawn' due (Expired c lo, i) = (Expired c lo, i)

    -- slot s requests the bus
    pub asks : (br' : ℕ → Bool) (s : ℕ) → Sets br' v.br s true → Phased v → Phased (record v { br = br' })
    asks br' s u p = requests_change br' v.withdrawn (λ c hi i. due c hi i.due) p
      where
        due : (c hi : ℕ) → IsDue v.br v.withdrawn c hi → IsDue br' v.withdrawn c hi
        due c hi (inl w) = inl (still_wanted v.br br' c hi hi w w.waiter_above (grind (arith, u w.waiter, w.waits)))
        due c hi (inr w) = inr w

    -- slot s ends its request: it holds the bus, or withdraws
    pub asks_no_more : (br' withdrawn' : ℕ → Bool) (s : ℕ) → Sets br' v.br s false → (v.busy s ≡ true) ⊎ (two ≡ true) → ((n : ℕ) → v.busy s ≡ false → on n s ≡ true → withdrawn' n ≡ true)
        → ((n : ℕ) → v.withdrawn n ≡ true → withdrawn' n ≡ true) → Phased v → Phased (record v { br = br'; withdrawn = withdrawn' })
    asks_no_more br' withdrawn' s u may mine rest p = requests_change br' withdrawn' (λ c hi i. due c hi (i.free s) may i.due) p
      where
        due : (c hi : ℕ) → v.busy s ≡ false → (v.busy s ≡ true) ⊎ (two ≡ true) → IsDue v.br v.withdrawn c hi → IsDue br' withdrawn' c hi
        due c hi free (inl held) d = absurd (cc (free, held))
        due c hi free (inr e) (inr w) = inr (record { version = e; withdrew = rest c w.withdrew })
        due c hi free (inr e) (inl w) = ⊎_elim
            (λ (x : (w.waiter ≡ s) × (br' w.waiter ≡ false)). inr (record { version = e; withdrew = mine c free (subst (λ y. on c y ≡ true) x.0 w.waiter_on) }))
            (λ (x : (w.waiter ≢ s) × (br' w.waiter ≡ v.br w.waiter)). inl (still_wanted v.br br' c hi hi w w.waiter_above (x.1 ∙ w.waits)))
            (u w.waiter)

    -- ---- an input that is high

    granting_high : (c hi s : ℕ) (found : Option ℕ) → IsCut v c s found → IsGranting v c hi → hi < s
    granting_high c hi s None b i = absurd (cc (i.bg_low, b.high))
    granting_high c hi s (Some p) b i = grind (arith, i.out_each p b.place.before.passes, b.place.before.below, b.high)

    held_high : (c k lo s : ℕ) (g : Bool) (found : Option ℕ) → IsCut v c s found → s ≤ k → IsHeld v.bg v.out v.busy c k lo g → (g ≡ false) × ((t : ℕ) → on c t ≡ true → t < s → t < lo)
    held_high c k lo s g None b le i = (cc (i.bg_low, b.high), λ t w l. absurd (b.place.before t w l))
    held_high c k lo s g (Some p) b le i =
        let far : p < lo = grind (arith, i.out_each p b.place.before.passes, b.place.before.below, b.high) in
        (grind (arith, i.from_start), λ t w l. omega (arith, b.place.before.greatest t w l))

    expired_high : (c lo s : ℕ) (found : Option ℕ) → IsCut v c s found → IsExpired v.bg v.out v.busy c lo → (t : ℕ) → on c t ≡ true → t < s → t < lo
    expired_high c lo s None b i t w l = absurd (b.place.before t w l)
    expired_high c lo s (Some p) b i t w l = let far : p < lo = grind (arith, i.out_each p b.place.before.passes, b.high) in omega (arith, b.place.before.greatest t w l)

    -- ---- who holds the bus

    pub holds_once : (s t : ℕ) → v.busy s ≡ true → v.busy t ≡ true → Phased v → s ≡ t
    holds_once s t a b p = let f = held_of t b p in f.3.only s a

    -- no other slot holds the bus
    pub free_after : (busy' : ℕ → Bool) (s : ℕ) → Sets busy' v.busy s false → v.busy s ≡ true → Phased v → (t : ℕ) → busy' t ≡ false
    free_after busy' s u held p t = let f = held_of s held p in grind (arith, u t, f.3.only t)

    -- ---- where a grant stands

    front_low : (c hi s : ℕ) (found : Option ℕ) → IsBelow (on c) s found → ((t : ℕ) → on c t ≡ true → hi ≤ t → s ≤ t) → IsGranting v c hi → segment_of v c found ≡ true
    front_low c hi s None b l i = i.bg_low
    front_low c hi s (Some p) b l i = i.out_each p b.passes (⊎_elim (λ (x : p < hi). x) (λ (y : hi ≤ p). omega (arith, l p b.passes y, b.below)) (cases_lt p hi))

    module _ (n : ℕ) (before : ℕ → Option ℕ) where
      front_at : (hi : ℕ) → AllBefore n before → IsGranting v n hi → (w : ℕ) → on n w ≡ true → hi ≤ w → (s : ℕ) × Stands v n s (before s) × (s ≤ w)
      front_at hi b i w o l = at (least_from (on n) hi w l o)
        where
          at : ((s : ℕ) × IsLeast (on n) hi w s) → (s : ℕ) × Stands v n s (before s) × (s ≤ w)
          at (s, l) = (
            s,
            record {
              place = record { member = l.passes; before = b s };
              low = front_low n hi s (before s) (b s) l.least i;
              unpassed = is_false (v.out s) (λ h. omega (arith, i.out_below s h, l.from));
              untaken = i.free s;
            },
            l.to,
          )

      found_or : (hi : ℕ) → AllBefore n before → IsGranting v n hi → IsDue v.br v.withdrawn n hi → Found v n before ⊎ IsWithdrawn v n
      found_or hi b i (inl w) =
          let f = front_at hi b i w.waiter w.waiter_on w.waiter_above in
          inl (record { slot = f.0; waiter = w.waiter; stands = f.1; above = f.2; waiter_on = w.waiter_on; waits = w.waits })
      found_or hi b i (inr w) = inr w

      pub not_lost : AllBefore n before → AllFree v → v.bg n ≡ true → Phased v → Found v n before ⊎ IsWithdrawn v n
      not_lost b free low p = let f = granting_of free n low p in found_or f.0 b f.1 f.1.due

      stands_or_ends_granting : (hi : ℕ) (last : Option ℕ) → AllBefore n before → IsLast n last → IsGranting v n hi → ((s : ℕ) × Stands v n s (before s)) ⊎ (segment_of v n last ≡ true)
      stands_or_ends_granting hi None b e i = inr i.bg_low
      stands_or_ends_granting hi (Some q) b e i = ⊎_elim
          (λ (l : q < hi). inr (i.out_each q e.passes l))
          (λ (l : hi ≤ q). let f = front_at hi b i q e.passes l in inl (f.0, f.1))
          (cases_lt q hi)

      -- in every case it stands at a slot, or has passed the last one
      pub stands_or_ends : (last : Option ℕ) → AllBefore n before → IsLast n last → AllFree v → v.bg n ≡ true → Phased v → ((s : ℕ) × Stands v n s (before s)) ⊎ (segment_of v n last ≡ true)
      stands_or_ends last b e free low p = let f = granting_of free n low p in stands_or_ends_granting f.0 last b e f.1

  -- in the first version every segment is high if a grant may begin
  pub clear_before : two ≡ false → (v : GrantWires) → NoneGranted v → AllFree v → Phased v → (s : ℕ) → v.out s ≡ false
  clear_before e v high free p = (idle_of v high free (λ e'. absurd (cc (e, e'))) p).out_high

  module _ (one : OneChain) where
    module _ (within : Within) (v : GrantWires) where
      passed_each : (n hi : ℕ) (found : Option ℕ) → HasPassed v n found → IsGranting v n hi → (s : ℕ) → on n s ≡ true → v.out s ≡ true
      passed_each n hi None b i s o = absurd (b.last s o (omega (arith, (within n s o).1)))
      passed_each n hi (Some p) b i s o = i.out_each s o (omega (arith, b.last.greatest s o (omega (arith, (within n s o).1)), i.out_below p b.low))

      -- the controller takes the grant back
      pub grant_rises : (bg' : ℕ → Bool) (n : ℕ) (found : Option ℕ) → Sets bg' v.bg n false → v.bg n ≡ true → ((s : ℕ) × (v.busy s ≡ true)) ⊎ HasPassed v n found → Phased v
          → Phased (record v { bg = bg' })
      grant_rises bg' n found u e b (Idle, i) = absurd (cc (i.bg_high n))
      grant_rises bg' n found u e (inl b) (Granting c hi, i) = absurd (cc (i.free b.0, b.1))
      grant_rises bg' n found u e (inr b) (Granting c hi, i) =
          let f = same_grant v n c hi e i in
          let high : (m : ℕ) → bg' m ≡ false = λ m. is_false (bg' m) (λ h. grind (arith, u m, f.bg_only m)) in
          let over : IsOver bg' v.busy n = record { version = b.version; few = f.few; bg_high = high; free = f.free } in
          (Expired n 0, record { over = over; out_on = f.out_on; out_above = λ s h. omega arith; out_each = λ s o l. passed_each n hi found b f s o })
      grant_rises bg' n found u e b (Held c k lo g, i) = (
        Held c k lo false,
        record {
          holder = i.holder;
          led = record { bg_low = grind (arith, u c, i.bg_only n); bg_only = λ m h. grind (arith, u m, i.bg_only m); from_start = λ h. absurd (cc) };
          between = i.between;
        },
      )
      grant_rises bg' n found u e b (Expired c lo, i) = absurd (cc (i.bg_high n))

    module _ (v : GrantWires) where
      -- ---- a grant stands at slot s: it goes on, and has come there

      idle_stands : (m s : ℕ) (found : Option ℕ) → segment_of v m found ≡ true → IsIdle v.bg v.out v.busy → ⊥
      idle_stands m s None low i = cc (i.bg_high m)
      idle_stands m s (Some p) low i = cc (i.out_high p)

      granting_stands : (c hi m s : ℕ) (found : Option ℕ) → Stands v m s found → IsGranting v c hi → (m ≡ c) × ((t : ℕ) → on m t ≡ true → t < s → t < hi)
      granting_stands c hi m s None a i = (i.bg_only m a.low, λ t w l. absurd (a.place.before t w l))
      granting_stands c hi m s (Some p) a i =
          (one m c p a.place.before.passes (i.out_on p a.low), λ t w l. omega (arith, a.place.before.greatest t w l, i.out_below p a.low))

      held_stands : (c k lo m s : ℕ) (g : Bool) (found : Option ℕ) → Stands v m s found → IsHeld v.bg v.out v.busy c k lo g → (m ≡ c) × (lo ≤ s) × (s ≤ k)
      held_stands c k lo m s g None a i = let low : v.bg m ≡ true = a.low in grind (arith, i.bg_only m low, a.place.before k, i.from_start, i.bg_low, i.member)
      held_stands c k lo m s g (Some p) a i =
          grind (arith, one m c p a.place.before.passes (i.out_on p a.low), a.place.before.greatest k, a.place.before.below, i.out_below p a.low, i.out_above p a.low, i.member)

      expired_stands : (c lo m s : ℕ) (found : Option ℕ) → Stands v m s found → IsExpired v.bg v.out v.busy c lo → ⊥
      expired_stands c lo m s None a i = cc (i.bg_high m, a.low)
      expired_stands c lo m s (Some p) a i =
          let e = one m c p a.place.before.passes (i.out_on p a.low) in
          let f = i.out_each s (subst (λ x. on x s ≡ true) e a.place.member) (omega (arith, i.out_above p a.low, a.place.before.below)) in
          cc (f, a.unpassed)

      front_of : (m s : ℕ) (found : Option ℕ) → Stands v m s found → Phased v → IsFront v m s
      front_of m s found a (Idle, i) = absurd (idle_stands m s found a.low i)
      front_of m s found a (Expired c lo, i) = absurd (expired_stands c lo m s found a i)
      front_of m s found a (Held c k lo g, i) = absurd (no_holder (held_stands c k lo m s g found a i))
        where
          no_holder : (m ≡ c) × (lo ≤ s) × (s ≤ k) → ⊥
          no_holder f = grind (arith, f.0, f.1, f.2, i.out_each s, a.place.member, a.unpassed, a.untaken, i.holds)
      front_of m s found a (Granting c hi, i) =
          let f = granting_stands c hi m s found a i in
          let goes = subst (λ x. IsGranting v x hi) (sym f.0) i in
          let above : hi ≤ s = ⊎_elim (λ (l : s < hi). absurd (cc (goes.out_each s a.place.member l, a.unpassed))) (λ (l : hi ≤ s). l) (cases_lt s hi) in
          record { hi = hi; granting = goes; above = above; all = f.1 }

      -- slot s takes the bus
      pub takes : (busy' : ℕ → Bool) (taken' : Bool) (m s : ℕ) (found : Option ℕ) → IsAt m s found → Sets busy' v.busy s true → segment_of v m found ≡ true → v.out s ≡ false → v.busy s ≡ false
          → Phased v → Phased (record v { busy = busy'; taken = taken' })
      takes busy' taken' m s found b u low high free p =
          let f = front_of m s found (record { place = b; low = low; unpassed = high; untaken = free }) p in (
            Held m s 0 true,
            record {
              holder = record { member = b.member; holds = grind (arith, u s); only = λ t h. grind (arith, u t, f.free t) };
              led = record { bg_low = f.bg_low; bg_only = f.bg_only; from_start = λ h. refl };
              between = record { out_on = f.out_on; out_below = λ t h. omega (arith, f.out_below t h, f.above); out_above = λ t h. omega arith; out_each = λ t x l l'. f.out_each t x (f.all t x l') };
            },
          )

      pub rightful : (m s : ℕ) (found : Option ℕ) → IsAt m s found → segment_of v m found ≡ true → v.out s ≡ false → v.busy s ≡ false → Phased v → Rightful v m s
      rightful m s found b low high free p =
          let f = front_of m s found (record { place = b; low = low; unpassed = high; untaken = free }) p in
          let same = same_part (on m) f.hi s slots (λ t x l. same_less t f.hi s (λ y. omega (arith, f.above)) (f.all t x)) in
          record { granted = f.granted; untaken = f.untaken; passers = f.passers ∙ ap quiet same }

      pub stands_once : (m s n t : ℕ) (at_s at_t : Option ℕ) → Stands v m s at_s → Stands v n t at_t → Phased v → (m ≡ n) × (s ≡ t)
      stands_once m s n t at_s at_t a b p =
          let f = front_of m s at_s a p in
          let f' = front_of n t at_t b p in
          grind (arith, f'.bg_only m f.bg_low, f.all t, f'.all s, f.out_each t, f'.out_each s, a.place.member, b.place.member, a.unpassed, b.unpassed)

      pub stands_while_free : (m s x : ℕ) (at_s : Option ℕ) → Stands v m s at_s → v.busy x ≡ true → Phased v → ⊥
      stands_while_free m s x at_s a held p = let f = front_of m s at_s a p in cc (f.free x, held)

      -- ---- the input of slot s is high

      cut_on : (m c s : ℕ) (found : Option ℕ) → IsAt m s found → segment_of v m found ≡ false → on c s ≡ true → IsCut v c s found
      cut_on m c s found b high o = subst (λ x. IsCut v x s found) (one m c s b.member o) (record { place = b; high = high })

      -- the segment of slot s rises after the grant
      pub rises : (out' : ℕ → Bool) (m s : ℕ) (found : Option ℕ) → IsAt m s found → Sets out' v.out s false → segment_of v m found ≡ false → v.out s ≡ true → Phased v
          → Phased (record v { out = out' })
      rises out' m s found b u high low (Idle, i) = absurd (cc (i.out_high s))
      rises out' m s found b u high low (Granting c hi, i) =
          absurd (omega (arith, granting_high v c hi s found (cut_on m c s found b high (i.out_on s low)) i, i.out_below s low))
      rises out' m s found b u high low (Held c k lo g, i) =
          let f = held_high v c k lo s g found (cut_on m c s found b high (i.out_on s low)) (omega (arith, i.out_below s low)) i in (
            Held c k (suc s) false,
            record {
              holder = i.holder;
              led = record { bg_low = cc (i.bg_low, f.0); bg_only = i.bg_only; from_start = λ h. absurd (cc) };
              between = record {
                out_on = λ t h. grind (arith, u t, i.out_on t);
                out_below = λ t h. grind (arith, u t, i.out_below t);
                out_above = λ t h. grind (arith, u t, i.out_above t, i.out_on t, f.1 t);
                out_each = λ t x l l'. grind (arith, u t, i.out_each t, i.out_above s);
              };
            },
          )
      rises out' m s found b u high low (Expired c lo, i) =
          let f = expired_high v c lo s found (cut_on m c s found b high (i.out_on s low)) i in (
            Expired c (suc s),
            record {
              over = i.over;
              out_on = λ t h. grind (arith, u t, i.out_on t);
              out_above = λ t h. grind (arith, u t, i.out_above t, i.out_on t, f t);
              out_each = λ t x l. grind (arith, u t, i.out_each t, i.out_above s);
            },
          )

      -- slot s gives the bus up, when every segment is high
      pub leaves_clear : (m s : ℕ) (found : Option ℕ) → IsAt m s found → segment_of v m found ≡ false → v.busy s ≡ true → Phased v → ((n : ℕ) → v.bg n ≡ false) × ((t : ℕ) → v.out t ≡ false)
      leaves_clear m s found b high held p =
          let x = held_of v s held p in
          let i = x.3 in
          let f = held_high v x.0 s x.1 s x.2 found (cut_on m x.0 s found b high i.member) (omega arith) i in (
            λ n. is_false (v.bg n) (λ h. cc (i.bg_only n h, i.bg_low, f.0)),
            λ t. is_false (v.out t) (λ h. omega (arith, f.1 t (i.out_on t h) (i.out_below t h), i.out_above t h)),
          )

      pub releases : (busy' : ℕ → Bool) (m s : ℕ) (found : Option ℕ) → IsAt m s found → Sets busy' v.busy s false → segment_of v m found ≡ false → v.busy s ≡ true → Phased v
          → Phased (record v { busy = busy' })
      releases busy' m s found b u high held p =
          let clear = leaves_clear m s found b high held p in
          (Idle, record { bg_high = clear.0; out_high = clear.1; free = free_after v busy' s u held p })

      -- ---- which segments are low together

      -- a low segment is of the chain of the phase
      low_chain : (n : ℕ) (a : Option ℕ) → IsPart n a → segment_of v n a ≡ true → (p : Phased v) → n ≡ chain_of p.0
      low_chain n a w low (Idle, i) = absurd (idle_stands n n a low i)
      low_chain n None w low (Granting c hi, i) = i.bg_only n low
      low_chain n None w low (Held c k lo g, i) = i.bg_only n low
      low_chain n None w low (Expired c lo, i) = absurd (cc (i.bg_high n))
      low_chain n (Some s) w low (Granting c hi, i) = one n c s w (i.out_on s low)
      low_chain n (Some s) w low (Held c k lo g, i) = one n c s w (i.out_on s low)
      low_chain n (Some s) w low (Expired c lo, i) = one n c s w (i.out_on s low)

      pub one_chain_low : (m n : ℕ) (a b : Option ℕ) → IsPart m a → IsPart n b → segment_of v m a ≡ true → segment_of v n b ≡ true → Phased v → m ≡ n
      one_chain_low m n a b w w' low low' p = low_chain m a w low p ∙ sym (low_chain n b w' low' p)

      -- slot t lies between two low segments
      between_low : (n t u : ℕ) (a : Option ℕ) → Before a (Some t) → t < u → IsPart n a → on n u ≡ true → segment_of v n a ≡ true → v.out u ≡ true → (p : Phased v) → on (chain_of p.0) t ≡ true
          → v.out t ≡ true
      between_low n t u a l l' w x low low' (Idle, i) o = absurd (cc (i.out_high u))
      between_low n t u a l l' w x low low' (Granting c hi, i) o = i.out_each t o (omega (arith, i.out_below u low'))
      between_low n t u None l l' w x low low' (Held c k lo g, i) o =
          let e = i.bg_only n low in
          i.out_each t o (omega (arith, i.from_start (sym i.bg_low ∙ subst (λ y. v.bg y ≡ true) e low))) (omega (arith, i.out_below u low'))
      between_low n t u (Some s) l l' w x low low' (Held c k lo g, i) o = i.out_each t o (omega (arith, i.out_above s low)) (omega (arith, i.out_below u low'))
      between_low n t u None l l' w x low low' (Expired c lo, i) o = absurd (cc (i.bg_high n))
      between_low n t u (Some s) l l' w x low low' (Expired c lo, i) o = i.out_each t o (omega (arith, i.out_above s low))

      pub none_between : (n : ℕ) (a b c : Option ℕ) → Before a b → Before b c → IsPart n a → IsPart n b → IsPart n c → segment_of v n a ≡ true → segment_of v n c ≡ true → Phased v
          → segment_of v n b ≡ true
      none_between n None None c l l' w w' x low low' p = absurd l
      none_between n (Some s) None c l l' w w' x low low' p = absurd l
      none_between n a (Some t) None l l' w w' x low low' p = absurd l'
      none_between n a (Some t) (Some u) l l' w w' x low low' p = between_low n t u a l l' w x low low' p (subst (λ y. on y t ≡ true) (low_chain n (Some u) x low' p) w')

      pub starts_or_ends : (n : ℕ) (a last : Option ℕ) → IsLast n last → Within → AllFree v → IsPart n a → segment_of v n a ≡ true → Phased v
          → (v.bg n ≡ true) ⊎ ((two ≡ true) × (segment_of v n last ≡ true))
      starts_or_ends n a last b within free w low (Idle, i) = absurd (idle_stands n n a low i)
      starts_or_ends n a last b within free w low (Granting c hi, i) = inl (subst (λ y. v.bg y ≡ true) (sym (low_chain n a w low (Granting c hi, i))) i.bg_low)
      starts_or_ends n a last b within free w low (Held c k lo g, i) = absurd (cc (free c k i.member, i.holds))
      starts_or_ends n a last b within free w low (Expired c lo, i) = inr (i.version, at_end a last b w low)
        where
          at_end : (a last : Option ℕ) → IsLast n last → IsPart n a → segment_of v n a ≡ true → segment_of v n last ≡ true
          at_end None last b w low = absurd (cc (i.bg_high n))
          at_end (Some s) None b w low = absurd (b s w (omega (arith, (within n s w).1)))
          at_end (Some s) (Some p) b w low = i.out_each p (subst (λ y. on y p ≡ true) (one n c s w (i.out_on s low)) b.passes)
              (omega (arith, b.greatest s w (omega (arith, (within n s w).1)), i.out_above s low))

    -- slot s passes the grant on
    pub passes_on : Within → (v : GrantWires) (out' : ℕ → Bool) (passers' : List (Driver × Bool)) (m s : ℕ) (found : Option ℕ) → IsAt m s found → Sets out' v.out s true
        → passers' ≡ (Slot s, false) ∷ v.passers → segment_of v m found ≡ true → v.out s ≡ false → v.br s ≡ false → v.busy s ≡ false → Phased v → Phased (record v { out = out'; passers = passers' })
    passes_on within v out' passers' m s found b u tr low high asks free p =
        let f = front_of v m s found (record { place = b; low = low; unpassed = high; untaken = free }) p in (
          Granting m (suc s),
          record {
            begun = f.begun;
            reached = record {
              out_on = λ t h. grind (arith, u t, f.out_on t, b.member);
              out_below = λ t h. grind (arith, u t, f.out_below t, f.above);
              out_each = λ t x h. grind (arith, u t, f.out_each t, f.all t);
              passers = tr ∙ ap (λ ts. (Slot s, false) ∷ ts) f.passers ∙ sym (ap quiet (more_part (on m) f.hi s slots b.member (within m s b.member).0 (within m s b.member).1 f.above f.all));
            };
            due = due f.hi f.all f.due;
          },
        )
      where
        due : (hi : ℕ) → ((t : ℕ) → on m t ≡ true → t < s → t < hi) → IsDue v.br v.withdrawn m hi → IsDue v.br v.withdrawn m (suc s)
        due hi all (inl w) = inl (still_wanted v.br v.br m hi (suc s) w (grind (arith, w.waiter_above, all w.waiter w.waiter_on, w.waits)) w.waits)
        due hi all (inr w) = inr w
