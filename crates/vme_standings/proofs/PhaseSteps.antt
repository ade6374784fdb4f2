-- How an edge leads from one phase of the grants and BBSY* to the next.
use Rattle.std.proofs.Common.{◌≡◌, ◌⊎◌, ◌∙◌, refl, sym, ap, subst, ℕ, zero, suc, Bool, true, false, List, [], ◌∷◌, ◌<◌, ◌≤◌, arith, ⊎_elim}
use Rattle.std.specs.Prelude.{◌==◌, ◌&&◌, if◌then◌else◌, nat_le, nat_lt, Option, Some, option_map}
use Rattle.std.specs.Option.{option_map_or}
use Rattle.std.proofs.lemmas.Bool.Decides.{nat_tests}
use Rattle.vme_model.specs.declared.boards.RequesterRow.{RequesterRow}
use Rattle.vme_model.specs.declared.signals.Cycle.{Cycle}
use Rattle.vme_model.specs.declared.signals.Version.{Version}
use Rattle.vme_model.specs.declared.signals.Driver.{Driver}
use Rattle.vme_model.specs.declared.signals.Driver.TheVariants.{Controller, Slot}
use Rattle.vme_model.specs.declared.signals.Wire.{Wire}
use Rattle.vme_model.specs.declared.signals.Wire.TheVariants.{Bg, BgOut, Bbsy}
use Rattle.vme_model.specs.declared.signals.Edge.{Edge}
use Rattle.vme_model.specs.Signals.{grant_level, has_wire, is_grant_wire}
use Rattle.vme_model.specs.Plan.{Plan}
use Rattle.vme_model.specs.Accepted.{IsAccepted}
use Rattle.vme_model.specs.History.{drive, last_level as last_granted}
use Rattle.vme_model.proofs.Bools.{and_left, and_right, same_number}
use Rattle.vme_model.specs.Verdict.{IsLegal}
use Rattle.vme_model.proofs.AllowedEdges.{all_passed}
use Rattle.vme_model.proofs.Members.{one_chain}
use Rattle.vme_histories.proofs.AllowedBoards.{at, at_head}
use Rattle.vme_standings.specs.declared.phases.GrantPhase.{GrantPhase}
use Rattle.vme_standings.specs.declared.phases.GrantPhase.TheVariants.{Idle, Granting, Held, Expired}
use Rattle.vme_standings.specs.Cuts.{last_level}
use Rattle.vme_standings.specs.GrantChains.{end_place, is_follower, is_of_level, place_before, requester_at}
use Rattle.vme_standings.specs.LowSegments.{is_in_run, is_segment}
use Rattle.vme_standings.specs.InPhase.{InPhase, is_named, is_place_low}
use Rattle.vme_standings.proofs.Tests.{and_true, both, never}
use Rattle.vme_standings.proofs.GrantPlaces.{IsBefore, before, board_segment, end_last, end_segment, follower_before, follower_on, from_one, has_requester, one_level}

nothing : (b : Bool) → (b && false) ≡ false
nothing true = refl
nothing false = refl

pub begins_idle : (p : Plan) → InPhase p [] (Idle 0)
begins_idle p = record {
  named = refl;
  granted = refl;
  held = λ s. refl;
  low = λ c s few seg. low c s (is_segment p c s);
}
  where
    low : (c s : ℕ) (b : Bool) → is_place_low [] c s ≡ (b && false)
    low c zero true = refl
    low c zero false = refl
    low c (suc s) true = refl
    low c (suc s) false = refl

-- tests of numbers
pub upto : (a b : ℕ) → nat_le a b ≡ true → a ≤ b
upto a b e = grind (arith, nat_tests)

pub is_upto : (a b : ℕ) → a ≤ b → nat_le a b ≡ true
is_upto a b l = grind (arith, nat_tests)

pub under : (a b : ℕ) → nat_lt a b ≡ true → a < b
under a b e = grind (arith, nat_tests)

pub equal : (a b : ℕ) → a ≡ b → (a == b) ≡ true
equal a b e = grind (arith, nat_tests)

by_order : (a b : ℕ) → (a < b) ⊎ (b ≤ a)
by_order a b = grind arith

pub few_some : (a b : ℕ) → Some a ≡ Some b → b < 4 → a < 4
few_some a b e l = let same : a ≡ b = cc in omega (arith, same, l)

-- what the test of a run says of a segment
in_granting : (c m y last : ℕ) → (c == m && nat_le y last) ≡ true → (c ≡ m) × (y ≤ last)
in_granting c m y last e = (same_number c m (and_left (c == m) _ e), upto y last (and_right (c == m) _ e))

pub past_granting : (c m x last : ℕ) → (c == m && nat_le x last) ≡ false → c ≡ m → last < x
past_granting c m x last e same = grind (arith, nat_tests)

pub in_expired : (c m y first : ℕ) → (c == m && nat_le first y) ≡ true → (c ≡ m) × (first ≤ y)
in_expired c m y first e = (same_number c m (and_left (c == m) _ e), upto first y (and_right (c == m) _ e))

before_expired : (c m x first : ℕ) → (c == m && nat_le first x) ≡ false → c ≡ m → x < first
before_expired c m x first e same = grind (arith, nat_tests)

record InHeld (on : Bool) (first y b : ℕ) : Type 0 where
  member : on ≡ true
  from : first ≤ y
  below : y < b

in_held : (on : Bool) (first y b : ℕ) → (on && (nat_le first y && nat_lt y b)) ≡ true → InHeld on first y b
in_held on first y b e = record {
  member = and_left on _ e;
  from = upto first y (and_left (nat_le first y) _ (and_right on _ e));
  below = under y b (and_right (nat_le first y) _ (and_right on _ e));
}

before_held : (on : Bool) (first y b : ℕ) → (on && (nat_le first y && nat_lt y b)) ≡ false → on ≡ true → y < b → y < first
before_held on first y b e member below = grind (arith, nat_tests)

behind_held : (on : Bool) (first y b : ℕ) → (on && (nat_le first y && nat_lt y b)) ≡ false → on ≡ true → first ≤ y → b ≤ y
behind_held on first y b e member from = grind (arith, nat_tests)

-- how the test of a run changes with the segment that an edge moves
falls_next : (n m t x y : ℕ) (seg l : Bool) → l ≡ (seg && (m == n && nat_le t y)) → seg ≡ true → y < x → (n ≡ m → t < x → t ≤ y)
    → (if (n == m && t == x) then true else l) ≡ (seg && (m == n && nat_le t x))
falls_next n m t x y seg l e s less up = grind (arith, nat_tests, up)

falls_first : (n m t : ℕ) (seg l : Bool) → l ≡ (seg && false) → seg ≡ true → (if (n == m && t == 0) then true else l) ≡ (seg && (m == n && nat_le t 0))
falls_first n m t seg l e s = grind (arith, nat_tests)

takes_next : (n m t x y : ℕ) (seg on : Bool) → (on ≡ true → m ≡ n) → (m ≡ n → on ≡ true) → y < x → (m ≡ n → t < x → t ≤ y)
    → (seg && (m == n && nat_le t y)) ≡ (seg && (on && (nat_le 0 t && nat_lt t x)))
takes_next n m t x y seg on to from less up = by_chain (m == n) refl on refl
  where
    by_chain : (a : Bool) → (m == n) ≡ a → (b : Bool) → on ≡ b → (seg && (a && nat_le t y)) ≡ (seg && (b && (nat_le 0 t && nat_lt t x)))
    by_chain true is true member = grind (arith, nat_tests, up (same_number m n is))
    by_chain true is false lacks = absurd (never on (from (same_number m n is)) lacks)
    by_chain false is true member = absurd (never (m == n) (equal m n (to member)) is)
    by_chain false is false lacks = refl

empty_run : (seg on : Bool) (t b : ℕ) → (seg && (on && (nat_le b t && nat_lt t b))) ≡ (seg && false)
empty_run seg on t b = grind (arith, nat_tests)

rises_held : (n m t x f b : ℕ) (seg on l : Bool) → l ≡ (seg && (on && (nat_le x t && nat_lt t b))) → seg ≡ true → (on ≡ true → m ≡ n) → x < f → (m ≡ n → t < f → t ≤ x)
    → (if (n == m && t == x) then false else l) ≡ (seg && (on && (nat_le f t && nat_lt t b)))
rises_held n m t x f b seg on l e s to less up = by_chain on refl
  where
    by_chain : (a : Bool) → on ≡ a → (if (n == m && t == x) then false else l) ≡ (seg && (a && (nat_le f t && nat_lt t b)))
    by_chain true is = let same : m ≡ n = to is in grind (arith, nat_tests, up same)
    by_chain false is = grind (arith, nat_tests)

rises_expired : (n m t x f : ℕ) (seg l : Bool) → l ≡ (seg && (m == n && nat_le x t)) → seg ≡ true → x < f → (m ≡ n → t < f → t ≤ x)
    → (if (n == m && t == x) then false else l) ≡ (seg && (m == n && nat_le f t))
rises_expired n m t x f seg l e s less up = by_chain (m == n) refl
  where
    by_chain : (a : Bool) → (m == n) ≡ a → (if (n == m && t == x) then false else l) ≡ (seg && (a && nat_le f t))
    by_chain true is = let same : m ≡ n = same_number m n is in grind (arith, nat_tests, up same)
    by_chain false is = grind (arith, nat_tests)

rises_last : (n m t x : ℕ) (seg l : Bool) → l ≡ (seg && (m == n && nat_le x t)) → (m ≡ n → t ≤ x) → (if (n == m && t == x) then false else l) ≡ (seg && false)
rises_last n m t x seg l e up = by_chain (m == n) refl
  where
    by_chain : (a : Bool) → (m == n) ≡ a → (if (n == m && t == x) then false else l) ≡ (seg && false)
    by_chain true is = let same : m ≡ n = same_number m n is in grind (arith, nat_tests, up same)
    by_chain false is = grind (arith, nat_tests)

expires_next : (n m t f last : ℕ) (seg l : Bool) → l ≡ (seg && (m == n && nat_le t last)) → seg ≡ true → 0 < f → (m ≡ n → t ≤ last) → (m ≡ n → t < f → t ≤ 0)
    → (if (n == m && t == 0) then false else l) ≡ (seg && (m == n && nat_le f t))
expires_next n m t f last seg l e s less to up = by_chain (m == n) refl
  where
    by_chain : (a : Bool) → (m == n) ≡ a → (if (n == m && t == 0) then false else l) ≡ (seg && (a && nat_le f t))
    by_chain true is = let same : m ≡ n = same_number m n is in grind (arith, nat_tests, up same, to same)
    by_chain false is = grind (arith, nat_tests)

expires_last : (n m t : ℕ) (seg l : Bool) → l ≡ (seg && (m == n && nat_le t 0)) → (if (n == m && t == 0) then false else l) ≡ (seg && false)
expires_last n m t seg l e = grind (arith, nat_tests)

-- the edge moves a segment of the chain, and no other
pub record Moves (p : Plan) (h : List Edge) (e : Edge) (m x : ℕ) (fall : Bool) : Type 0 where
  pub low : (n t : ℕ) → is_segment p n t ≡ true → is_place_low (e ∷ h) n t ≡ (if (n == m && t == x) then fall else is_place_low h n t)

low_same : (h : List Edge) (e : Edge) (c t : ℕ) → drive (e ∷ h) Controller (Bg c) ≡ drive h Controller (Bg c) → ((s : ℕ) → drive (e ∷ h) (Slot s) BgOut ≡ drive h (Slot s) BgOut)
    → is_place_low (e ∷ h) c t ≡ is_place_low h c t
low_same h e c zero a b = a
low_same h e c (suc t) a b = b (suc t)

pub head_moves : (p : Plan) (h : List Edge) (m : ℕ) (fall : Bool) (v : Option Cycle) → Moves p h (at_head (Bg m) fall v) m 0 fall
head_moves p h m fall v = record { low = low }
  where
    at_zero : (a b : ℕ) (fall l : Bool) → (if (a == b && true) then fall else l) ≡ (if (b == a && 0 == 0) then fall else l)
    at_zero a b fall l = grind (arith, nat_tests)

    beyond : (a b t : ℕ) (fall l : Bool) → l ≡ (if (b == a && suc t == 0) then fall else l)
    beyond a b t fall l = grind (arith, nat_tests)

    low : (n t : ℕ) → is_segment p n t ≡ true → is_place_low (at_head (Bg m) fall v ∷ h) n t ≡ (if (n == m && t == 0) then fall else is_place_low h n t)
    low n zero seg = at_zero m n fall (drive h Controller (Bg n))
    low n (suc t) seg = beyond m n t fall (drive h (Slot (suc t)) BgOut)

module _ (p : Plan) (ok : IsAccepted p) where
  pub board_moves : (h : List Edge) (m x : ℕ) (fall : Bool) (v : Option Cycle) → is_of_level p m x ≡ true → Moves p h (at x BgOut fall v) m x fall
  board_moves h m x fall v on = record { low = low }
    where
      off_zero : (a b x : ℕ) (fall l : Bool) → 0 < x → l ≡ (if (b == a && 0 == x) then fall else l)
      off_zero a b x fall l from = grind (arith, nat_tests)

      at_board : (n t : ℕ) (fall l : Bool) → (t ≡ x → m ≡ n) → (if x == t then fall else l) ≡ (if (n == m && t == x) then fall else l)
      at_board n t fall l same = by_test (x == t) refl
        where
          by_test : (b : Bool) → (x == t) ≡ b → (if b then fall else l) ≡ (if (n == m && t == x) then fall else l)
          by_test true is =
              let e : x ≡ t = same_number x t is in
              let f : m ≡ n = same (sym e) in
              grind (arith, nat_tests)
          by_test false is = grind (arith, nat_tests)

      low : (n t : ℕ) → is_segment p n t ≡ true → is_place_low (at x BgOut fall v ∷ h) n t ≡ (if (n == m && t == x) then fall else is_place_low h n t)
      low n zero seg = off_zero m n x fall (drive h Controller (Bg n)) (from_one p ok m x on)
      low n (suc t) seg = at_board n (suc t) fall (drive h (Slot (suc t)) BgOut) (λ same. one_level p ok m n x (suc t) on seg same)

  -- the first low segment of a holder is one of its chain, and not behind its board
  record NamesFirst (m b first : ℕ) : Type 0 where
    seg : is_segment p m first ≡ true
    to : first ≤ b

  abbrev names : ℕ → Option RequesterRow → Bool
  names first o = option_map_or (λ q. is_segment p q.level first) o false

  names_first : (m b first : ℕ) → is_of_level p m b ≡ true → is_named p (Held b first) ≡ true → NamesFirst m b first
  names_first m b first on e =
      let r = has_requester p m b on in
      let seg : is_segment p r.row.level first ≡ true = sym (ap (names first) r.found) ∙ and_left (names first (requester_at p b)) (nat_le first b) e in
      record { seg = subst (λ l. is_segment p l first ≡ true) r.level seg; to = upto first b (and_right (names first (requester_at p b)) (nat_le first b) e) }

  is_named_held : (m b first : ℕ) → is_of_level p m b ≡ true → is_segment p m first ≡ true → first ≤ b → is_named p (Held b first) ≡ true
  is_named_held m b first on seg to =
      let r = has_requester p m b on in
      both (names first (requester_at p b)) (nat_le first b) (ap (names first) r.found ∙ subst (λ l. is_segment p l first ≡ true) (sym r.level) seg) (is_upto first b to)

  -- the level of a holder
  held_level : (m b first : ℕ) → is_of_level p m b ≡ true → last_level p (Held b first) ≡ Some m
  held_level m b first on =
      let r = has_requester p m b on in
      ap (λ (o : Option RequesterRow). option_map (λ q. q.level) o) r.found ∙ ap (λ l. Some l) r.level

  pub run : (h : List Edge) (q : GrantPhase) → InPhase p h q → (n t : ℕ) → n < 4 → is_segment p n t ≡ true → is_place_low h n t ≡ is_in_run p n t q
  run h q i n t few seg = i.low n t few seg ∙ and_true (is_segment p n t) (is_in_run p n t q) seg

  module _ (h : List Edge) (m x : ℕ) (few : m < 4) (on : is_of_level p m x ≡ true) where
    abbrev y : ℕ
    y = place_before p m x

    abbrev b : IsBefore p m x y
    b = before p ok m few x on

    abbrev own : is_segment p m x ≡ true
    own = board_segment p m x on

    -- a board whose input is low and whose output is high, and that does not hold the bus: a grant
    -- stands at it
    stands_in : (q : GrantPhase) → InPhase p h q → is_in_run p m y q ≡ true → is_in_run p m x q ≡ false → drive h (Slot x) Bbsy ≡ false → q ≡ Granting m y
    stands_in (Idle c) i inside outside free = absurd (cc)
    stands_in (Granting c last) i inside outside free =
        let a = in_granting c m y last inside in
        let to = b.greatest last (subst (λ l. is_segment p l last ≡ true) a.0 i.named) (past_granting c m x last outside a.0) in
        let place : last ≡ y = omega (arith, a.1, to) in
        ap (λ l. Granting l last) a.0 ∙ ap (λ t. Granting m t) place
    stands_in (Held k first) i inside outside free =
        let a = in_held (is_of_level p m k) first y k inside in
        let up = behind_held (is_of_level p m k) first x k outside a.member (omega (arith, a.from, b.below)) in
        let same : k ≡ x = ⊎_elim
        (λ (l : k < x). absurd (omega (arith, b.greatest k (board_segment p m k a.member) l, a.below)))
        (λ (l : x ≤ k). omega (arith, l, up))
        (by_order k x) in
        absurd (never (k == x) (equal k x same) (sym (i.held x) ∙ free))
    stands_in (Expired c first) i inside outside free =
        let a = in_expired c m y first inside in
        absurd (omega (arith, a.1, before_expired c m x first outside a.0, b.below))

    pub stands_at : (q : GrantPhase) → InPhase p h q → is_place_low h m y ≡ true → is_place_low h m x ≡ false → drive h (Slot x) Bbsy ≡ false → q ≡ Granting m y
    stands_at q i low high free = stands_in q i (sym (run h q i m y few b.seg) ∙ low) (sym (run h q i m x few own) ∙ high) free

    -- a board whose input is high and whose output is low: the grant was taken, or ran out
    pub data Risen (q : GrantPhase) : Type 0 where
      Taken : (k : ℕ) → is_of_level p m k ≡ true → x < k → q ≡ Held k x → Risen q
      RunOut : q ≡ Expired m x → Risen q

    risen_in : (q : GrantPhase) → InPhase p h q → is_in_run p m y q ≡ false → is_in_run p m x q ≡ true → Risen q
    risen_in (Idle c) i outside inside = absurd (cc)
    risen_in (Granting c last) i outside inside =
        let a = in_granting c m x last inside in
        absurd (omega (arith, a.1, past_granting c m y last outside a.0, b.below))
    risen_in (Held k first) i outside inside =
        let a = in_held (is_of_level p m k) first x k inside in
        let n = names_first m k first a.member i.named in
        let past = before_held (is_of_level p m k) first y k outside a.member (omega (arith, b.below, a.below)) in
        let same : first ≡ x = ⊎_elim
        (λ (l : first < x). absurd (omega (arith, b.greatest first n.seg l, past)))
        (λ (l : x ≤ first). omega (arith, l, a.from))
        (by_order first x) in
        Taken k a.member a.below (ap (λ t. Held k t) same)
    risen_in (Expired c first) i outside inside =
        let a = in_expired c m x first inside in
        let past = before_expired c m y first outside a.0 in
        let seg : is_segment p m first ≡ true = board_segment p m first (subst (λ l. is_of_level p l first ≡ true) a.0 i.named) in
        let same : first ≡ x = ⊎_elim
        (λ (l : first < x). absurd (omega (arith, b.greatest first seg l, past)))
        (λ (l : x ≤ first). omega (arith, l, a.1))
        (by_order first x) in
        RunOut (ap (λ l. Expired l first) a.0 ∙ ap (λ t. Expired m t) same)

    pub rises_at : (q : GrantPhase) → InPhase p h q → is_place_low h m y ≡ false → is_place_low h m x ≡ true → Risen q
    rises_at q i high low = risen_in q i (sym (run h q i m y few b.seg) ∙ high) (sym (run h q i m x few own) ∙ low)

    -- a holder whose input is high: none of its segments is low any more
    released_in : (q : GrantPhase) → InPhase p h q → is_in_run p m y q ≡ false → drive h (Slot x) Bbsy ≡ true → q ≡ Held x x
    released_in (Idle c) i outside holds = absurd (never (drive h (Slot x) Bbsy) holds (i.held x))
    released_in (Granting c last) i outside holds = absurd (never (drive h (Slot x) Bbsy) holds (i.held x))
    released_in (Held k first) i outside holds =
        let same : k ≡ x = same_number k x (sym (i.held x) ∙ holds) in
        let member : is_of_level p m k ≡ true = subst (λ t. is_of_level p m t ≡ true) (sym same) on in
        let n = names_first m k first member i.named in
        let past = before_held (is_of_level p m k) first y k outside member (omega (arith, b.below, same)) in
        let place : first ≡ x = ⊎_elim
        (λ (l : first < x). absurd (omega (arith, b.greatest first n.seg l, past)))
        (λ (l : x ≤ first). omega (arith, l, n.to, same))
        (by_order first x) in
        ap (λ t. Held t first) same ∙ ap (λ t. Held x t) place
    released_in (Expired c first) i outside holds = absurd (never (drive h (Slot x) Bbsy) holds (i.held x))

    pub releases_at : (q : GrantPhase) → InPhase p h q → is_place_low h m y ≡ false → drive h (Slot x) Bbsy ≡ true → q ≡ Held x x
    releases_at q i high holds = released_in q i (sym (run h q i m y few b.seg) ∙ high) holds

    -- behind the edge
    less : (n t : ℕ) → is_segment p n t ≡ true → (m ≡ n) → t < x → t ≤ y
    less n t seg same l = b.greatest t (subst (λ k. is_segment p k t ≡ true) (sym same) seg) l

    pub passed : (v : Option Cycle) → InPhase p h (Granting m y) → InPhase p (at x BgOut true v ∷ h) (Granting m x)
    passed v i = record {
      named = own;
      granted = i.granted;
      held = λ s. i.held s;
      low = λ n t few' seg.
          (board_moves h m x true v on).low n t seg
          ∙ falls_next n m t x y (is_segment p n t) (is_place_low h n t) (i.low n t few' seg) seg b.below (λ same. less n t seg (sym same));
    }

    pub taken : (v : Option Cycle) → InPhase p h (Granting m y) → InPhase p (at x Bbsy true v ∷ h) (Held x 0)
    taken v i = record {
      named = is_named_held m x 0 on refl (omega arith);
      granted = held_level m x 0 on ∙ i.granted;
      held = λ s. holds s (drive h (Slot s) Bbsy) (i.held s);
      low = λ n t few' seg.
          low_same h (at x Bbsy true v) n t refl (λ s. refl) ∙ i.low n t few' seg
          ∙ takes_next n m t x y (is_segment p n t) (is_of_level p n x) (λ is. one_chain p m n x on is) (λ same. subst (λ k. is_of_level p k x ≡ true) same on) b.below (less n t seg);
    }
      where
        holds : (s : ℕ) (l : Bool) → l ≡ false → (if (x == s) then true else l) ≡ (x == s)
        holds s l e = grind arith

    pub released : (v : Option Cycle) → InPhase p h (Held x x) → InPhase p (at x Bbsy false v ∷ h) (Idle m)
    released v i = record {
      named = refl;
      granted = sym (held_level m x x on) ∙ i.granted;
      held = λ s. frees s (drive h (Slot s) Bbsy) (i.held s);
      low = λ n t few' seg.
          low_same h (at x Bbsy false v) n t refl (λ s. refl) ∙ i.low n t few' seg
          ∙ empty_run (is_segment p n t) (is_of_level p n x) t x;
    }
      where
        frees : (s : ℕ) (l : Bool) → l ≡ (x == s) → (if (x == s) then false else l) ≡ false
        frees s l e = grind arith

  -- the controller grants
  module _ (h : List Edge) where
    pub idle_in : (q : GrantPhase) → InPhase p h q → last_granted h < 4 → ((m : ℕ) → m < 4 → is_place_low h m 0 ≡ false) → ((s : ℕ) → drive h (Slot s) Bbsy ≡ false)
        → ((m t : ℕ) → m < 4 → is_of_level p m t ≡ true → is_place_low h m t ≡ false) → q ≡ Idle (last_granted h)
    idle_in (Idle c) i few high free clear = ap (λ l. Idle l) (same_some c (last_granted h) i.granted)
      where
        same_some : (a b : ℕ) → Some a ≡ Some b → a ≡ b
        same_some a b e = cc
    idle_in (Granting c last) i few high free clear =
        let l = few_some c (last_granted h) i.granted few in
        absurd (never (is_place_low h c 0) (run h (Granting c last) i c 0 l refl ∙ both (c == c) (nat_le 0 last) (equal c c refl) (is_upto 0 last (omega arith))) (high c l))
    idle_in (Held k first) i few high free clear = absurd (never (k == k) (equal k k refl) (sym (i.held k) ∙ free k))
    idle_in (Expired c first) i few high free clear =
        let l = few_some c (last_granted h) i.granted few in
        absurd (never (is_place_low h c first)
        (run h (Expired c first) i c first l (board_segment p c first i.named) ∙ both (c == c) (nat_le first first) (equal c c refl) (is_upto first first (omega arith)))
        (clear c first l i.named))

    pub granted : (n : ℕ) (v : Option Cycle) → (last : ℕ) → InPhase p h (Idle last) → InPhase p (at_head (Bg n) true v ∷ h) (Granting n 0)
    granted n v last i = record {
      named = refl;
      granted = refl;
      held = λ s. i.held s;
      low = λ k t few' seg.
          (head_moves p h n true v).low k t seg
          ∙ falls_first k n t (is_segment p k t) (is_place_low h k t) (i.low k t few' seg) seg;
    }

    -- the controller's segment rises: the grant was taken, or it goes back
    pub data Back (m : ℕ) (q : GrantPhase) : Type 0 where
      Freed : (k : ℕ) → is_of_level p m k ≡ true → q ≡ Held k 0 → Back m q
      Waits : (last : ℕ) → q ≡ Granting m last → Back m q

    back_in : (m : ℕ) (q : GrantPhase) → InPhase p h q → is_in_run p m 0 q ≡ true → Back m q
    back_in m (Idle c) i inside = absurd (cc)
    back_in m (Granting c last) i inside = Waits last (ap (λ l. Granting l last) (in_granting c m 0 last inside).0)
    back_in m (Held k first) i inside =
        let a = in_held (is_of_level p m k) first 0 k inside in
        let none : first ≡ 0 = omega (arith, a.from) in
        Freed k a.member (ap (λ t. Held k t) none)
    back_in m (Expired c first) i inside =
        let a = in_expired c m 0 first inside in
        absurd (omega (arith, a.1, from_one p ok c first i.named))

    pub back_at : (m : ℕ) → m < 4 → (q : GrantPhase) → InPhase p h q → is_place_low h m 0 ≡ true → Back m q
    back_at m few q i low = back_in m q i (sym (run h q i m 0 few refl) ∙ low)

    -- a grant whose last segment is low has passed the last board
    pub past_all : (m last : ℕ) → m < 4 → InPhase p h (Granting m last) → is_place_low h m (end_place p m) ≡ true → last ≡ end_place p m
    past_all m last few i low =
        let a = in_granting m m (end_place p m) last (sym (run h (Granting m last) i m (end_place p m) few (end_segment p ok m few)) ∙ low) in
        let to = end_last p ok m few last i.named in
        omega (arith, a.1, to)

    -- behind the rise of a segment
    module _ (e : Edge) (m x : ℕ) (few : m < 4) (moves : Moves p h e m x false) (same : last_granted (e ∷ h) ≡ last_granted h)
        (busy : (s : ℕ) → drive (e ∷ h) (Slot s) Bbsy ≡ drive h (Slot s) Bbsy) where
      gap : (f n t : ℕ) → is_follower p m x f ≡ true → is_segment p n t ≡ true → m ≡ n → t < f → t ≤ x
      gap f n t follows seg is l = (follower_before p ok m few x f follows).greatest t (subst (λ k. is_segment p k t ≡ true) (sym is) seg) l

      pub upto_holder : (k f : ℕ) → is_of_level p m k ≡ true → x < k → is_follower p m x f ≡ true → f ≤ k
      upto_holder k f on less follows =
          ⊎_elim (λ (l : k < f). absurd (omega (arith, gap f m k follows (board_segment p m k on) refl l, less))) (λ (l : f ≤ k). l) (by_order k f)

      pub held_on : (k f : ℕ) → is_of_level p m k ≡ true → x < k → is_follower p m x f ≡ true → InPhase p h (Held k x) → InPhase p (e ∷ h) (Held k f)
      held_on k f on less follows i = record {
        named = is_named_held m k f on (board_segment p m f (follower_on p ok m few x f follows)) (upto_holder k f on less follows);
        granted = i.granted ∙ ap (λ l. Some l) (sym same);
        held = λ s. busy s ∙ i.held s;
        low = λ n t few' seg.
            moves.low n t seg
            ∙ rises_held n m t x f k (is_segment p n t) (is_of_level p n k) (is_place_low h n t) (i.low n t few' seg) seg (λ is. one_chain p m n k on is)
            (follower_before p ok m few x f follows).below (gap f n t follows seg);
      }

      pub expired_on : (f : ℕ) → is_follower p m x f ≡ true → InPhase p h (Expired m x) → InPhase p (e ∷ h) (Expired m f)
      expired_on f follows i = record {
        named = follower_on p ok m few x f follows;
        granted = i.granted ∙ ap (λ l. Some l) (sym same);
        held = λ s. busy s ∙ i.held s;
        low = λ n t few' seg.
            moves.low n t seg
            ∙ rises_expired n m t x f (is_segment p n t) (is_place_low h n t) (i.low n t few' seg) seg (follower_before p ok m few x f follows).below (gap f n t follows seg);
      }

      pub expired_last : x ≡ end_place p m → InPhase p h (Expired m x) → InPhase p (e ∷ h) (Idle m)
      expired_last end i = record {
        named = refl;
        granted = i.granted ∙ ap (λ l. Some l) (sym same);
        held = λ s. busy s ∙ i.held s;
        low = λ n t few' seg.
            moves.low n t seg
            ∙ rises_last n m t x (is_segment p n t) (is_place_low h n t) (i.low n t few' seg)
            (λ is. subst (λ y. t ≤ y) (sym end) (end_last p ok m few t (subst (λ k. is_segment p k t ≡ true) (sym is) seg)));
      }

      pub goes_back : (f : ℕ) → x ≡ 0 → is_follower p m x f ≡ true → InPhase p h (Granting m (end_place p m)) → InPhase p (e ∷ h) (Expired m f)
      goes_back f none follows i = record {
        named = follower_on p ok m few x f follows;
        granted = i.granted ∙ ap (λ l. Some l) (sym same);
        held = λ s. busy s ∙ i.held s;
        low = λ n t few' seg.
            moves.low n t seg
            ∙ ap (λ y. if (n == m && t == y) then false else is_place_low h n t) none
            ∙ expires_next n m t f (end_place p m) (is_segment p n t) (is_place_low h n t) (i.low n t few' seg) seg
            (from_one p ok m f (follower_on p ok m few x f follows))
            (λ is. end_last p ok m few t (subst (λ k. is_segment p k t ≡ true) (sym is) seg))
            (λ is l. subst (λ y. t ≤ y) none (gap f n t follows seg is l));
      }

-- an edge of another wire leaves the phase
pub other_in : (p : Plan) (h : List Edge) (q : GrantPhase) (d : Driver) (w : Wire) (fall : Bool) (v : Option Cycle) → ((n : ℕ) → w ≡ Bg n → ⊥) → (w ≡ BgOut → ⊥) → (w ≡ Bbsy → ⊥)
    → InPhase p h q → InPhase p (record { driver = d; wire = w; fall = fall; value = v } ∷ h) q
other_in p h q d (Bg n) fall v a b c i = absurd (a n refl)
other_in p h q d BgOut fall v a b c i = absurd (b refl)
other_in p h q d Bbsy fall v a b c i = absurd (c refl)
other_in p h q d w true v a b c i = record {
  named = i.named;
  granted = i.granted;
  held = λ s. i.held s;
  low = λ n t few seg. low_same h (record { driver = d; wire = w; fall = true; value = v }) n t refl (λ s. refl) ∙ i.low n t few seg;
}
other_in p h q d w false v a b c i = record {
  named = i.named;
  granted = i.granted;
  held = λ s. i.held s;
  low = λ n t few seg. low_same h (record { driver = d; wire = w; fall = false; value = v }) n t refl (λ s. refl) ∙ i.low n t few seg;
}

-- the level last granted is one of four
pub last_few : (version : Version) (p : Plan) (h : List Edge) → IsLegal version p h → last_granted h < 4
last_few version p [] legal = omega arith
last_few version p (e ∷ h) legal = by_edge e.driver e.wire e.fall (all_passed version p h e.driver e.wire e.fall e.value legal.0).wire (last_few version p h legal.1)
  where
    by_edge : (d : Driver) (w : Wire) (fall : Bool) → has_wire d w ≡ true → last_granted h < 4 → (if (fall && is_grant_wire w) then grant_level w else last_granted h) < 4
    by_edge Controller (Bg n) true has few = under n 4 has
    by_edge (Slot s) (Bg n) true has few = absurd (cc)
    by_edge d w false has few = few
    by_edge d w true has few = few
