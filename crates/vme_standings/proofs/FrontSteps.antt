-- How far an acknowledge has come on its chain, by the edges of that chain.
use Rattle.std.proofs.Common.{◌≡◌, ◌⊎◌, ◌∙◌, refl, sym, ap, subst, ℕ, suc, Bool, true, false, List, [], ◌∷◌, ◌<◌, ◌≤◌, arith, inl, inr, ⊎_elim}
use Rattle.std.specs.Prelude.{◌==◌, not, nat_le, Option, Some, None}
use Rattle.std.specs.List.{list_all, All, Contains}
use Rattle.std.proofs.lemmas.Bool.{cases_lt}
use Rattle.std.proofs.lemmas.Bool.Decides.{nat_tests}
use Rattle.std.proofs.lemmas.List.Elements.{All-contains, All-nil, All-cons}
use Rattle.vme_model.specs.declared.sets.ChainId.TheVariants as chain
use Rattle.vme_model.specs.declared.signals.Cycle.{Cycle}
use Rattle.vme_model.specs.declared.signals.Driver.TheVariants.{Controller, Slot}
use Rattle.vme_model.specs.declared.signals.Wire.TheVariants.{Iack, IackOut}
use Rattle.vme_model.specs.declared.signals.Edge.{Edge}
use Rattle.vme_model.specs.Plan.{Plan, active, upstream, last_active}
use Rattle.vme_model.specs.Accepted.{IsAccepted}
use Rattle.vme_model.specs.History.{drive, input, segment, is_past_end}
use Rattle.vme_model.specs.Settling.{is_chain_clear}
use Rattle.vme_model.proofs.Bools.{and_left, and_right, not_true, same_number}
use Rattle.vme_model.proofs.Below.{IsBelow, is_below, contained, last_of}
use Rattle.vme_model.proofs.Ranges.{IsInRange, in_range}
use Rattle.vme_model.proofs.Cycles.{interrupts, within, chain_below}
use Rattle.vme_histories.proofs.AllowedBoards.{at, at_head, own_after}
use Rattle.vme_histories.proofs.Others.{drive_same}
use Rattle.vme_standings.specs.Requests.{is_interrupter}
use Rattle.vme_standings.specs.Fronts.{place_of, input_place}
use Rattle.vme_standings.specs.FrontCovers.{HasComeTo, last_place}
use Rattle.vme_standings.proofs.Tests.{never}

-- every segment of a list that is clear is high
each_high : (f : ℕ → Bool) (xs : List ℕ) → list_all (λ s. not (f s)) xs ≡ true → (t : ℕ) → Contains xs t → f t ≡ false
each_high f xs all t c = not_true (f t) (All-contains (λ s. not (f s) ≡ true) xs t (from_all xs all) c)
  where
    from_all : (xs : List ℕ) → list_all (λ s. not (f s)) xs ≡ true → All (λ s. not (f s) ≡ true) xs
    from_all [] e = All-nil (λ s. not (f s) ≡ true)
    from_all (x ∷ xs) e = All-cons (λ s. not (f s) ≡ true) x xs (and_left (not (f x)) _ e) (from_all xs (and_right (not (f x)) _ e))

up_to_it : (s t : ℕ) → nat_le s t ≡ true → s ≤ t
up_to_it s t e = grind (arith, nat_tests)

beyond_it : (s t : ℕ) → nat_le s t ≡ false → t < s
beyond_it s t e = grind (arith, nat_tests)

is_up_to : (s t : ℕ) → s ≤ t → nat_le s t ≡ true
is_up_to s t l = grind (arith, nat_tests)

is_beyond : (s t : ℕ) → t < s → nat_le s t ≡ false
is_beyond s t l = grind (arith, nat_tests)

-- a board next behind the place to which the acknowledge has come
pub record StandsBehind (p : Plan) (place s : ℕ) : Type 0 where
  pub input : input_place p s ≡ place
  pub above : place < s
  pub next : (t : ℕ) → is_interrupter p t ≡ true → t < s → t ≤ place

-- the last board of the chain is the greatest of its slots
last_below : (p : Plan) → IsAccepted p → IsBelow (interrupts p) (suc p.slots) (last_active p chain.Iack)
last_below p ok =
    subst (IsBelow (interrupts p) (suc p.slots)) (last_of (interrupts p) p.slots p.slots (omega arith))
    (is_below (interrupts p) p.slots (suc p.slots) (within p (in_range p ok)))

module _ (p : Plan) (ok : IsAccepted p) (h : List Edge) where
  abbrev range : IsInRange p
  range = in_range p ok

  -- on a clear chain no input is low
  module _ (clear : is_chain_clear p h chain.Iack ≡ true) where
    pub head_high : drive h Controller Iack ≡ false
    head_high = not_true (drive h Controller Iack) (and_left (not (segment h chain.Iack None)) _ clear)

    pub board_high : (s : ℕ) → is_interrupter p s ≡ true → drive h (Slot s) IackOut ≡ false
    board_high s on =
        let w = within p range s on in
        each_high (λ t. drive h (Slot t) IackOut) (active p chain.Iack) (and_right (not (segment h chain.Iack None)) _ clear) s (contained (interrupts p) p.slots s on w.0 w.1)

    pub input_high : (s : ℕ) → input p h chain.Iack s ≡ true → ⊥
    input_high s low = by_upstream (upstream p chain.Iack s) (chain_below p range s) low
      where
        by_upstream : (o : Option ℕ) → IsBelow (interrupts p) s o → segment h chain.Iack o ≡ true → ⊥
        by_upstream None b is = never (drive h Controller Iack) is head_high
        by_upstream (Some t) b is = never (drive h (Slot t) IackOut) is (board_high t b.passes)

    pub end_high : is_past_end p h chain.Iack ≡ true → ⊥
    end_high low = by_last (last_active p chain.Iack) (last_below p ok) low
      where
        by_last : (o : Option ℕ) → IsBelow (interrupts p) (suc p.slots) o → segment h chain.Iack o ≡ true → ⊥
        by_last None b is = never (drive h Controller Iack) is head_high
        by_last (Some t) b is = never (drive h (Slot t) IackOut) is (board_high t b.passes)

    -- when the controller begins, the acknowledge comes to its place
    pub begins : (v : Option Cycle) → HasComeTo p (at_head Iack true v ∷ h) 0
    begins v = record {
      exists = inl refl;
      begun = refl;
      passed = λ s on. let w : 1 ≤ s = (within p range s on).0 in board_high s on ∙ sym (is_beyond s 0 (omega arith));
    }

  module _ (place : ℕ) (come : HasComeTo p h place) where
    -- a place above 0 is that of an interrupter
    at_least : (t : ℕ) → is_interrupter p t ≡ true → t ≤ place → (is_interrupter p place ≡ true)
    at_least t on l = ⊎_elim (λ (zero : place ≡ 0). let one : 1 ≤ t = (within p range t on).0 in absurd (omega arith)) (λ (some : is_interrupter p place ≡ true). some) come.exists

    passed_by : (t : ℕ) → is_interrupter p t ≡ true → drive h (Slot t) IackOut ≡ true → t ≤ place
    passed_by t on low = up_to_it t place (sym (come.passed t on) ∙ low)

    -- a board whose input is low and whose output is high stands next behind it
    pub stands_behind : (s : ℕ) → is_interrupter p s ≡ true → drive h (Slot s) IackOut ≡ false → input p h chain.Iack s ≡ true → StandsBehind p place s
    stands_behind s on high low = by_upstream (upstream p chain.Iack s) refl (chain_below p range s) low
      where
        above : place < s
        above = beyond_it s place (sym (come.passed s on) ∙ high)

        by_upstream : (o : Option ℕ) → upstream p chain.Iack s ≡ o → IsBelow (interrupts p) s o → segment h chain.Iack o ≡ true → StandsBehind p place s
        by_upstream None is b l = record {
          input = ap place_of is ∙ sym (⊎_elim (λ (zero : place ≡ 0). zero) (λ (some : is_interrupter p place ≡ true). absurd (b place some above)) come.exists);
          above = above;
          next = λ t some less. absurd (b t some less);
        }
        by_upstream (Some t) is b l =
            let from : t ≤ place = passed_by t b.passes l in
            let to : place ≤ t = b.greatest place (at_least t b.passes from) above in
            record {
              input = (let same : t ≡ place = omega arith in ap place_of is ∙ same);
              above = above;
              next = λ u some less. let le : u ≤ t = b.greatest u some less in omega arith;
            }

    -- and when it passes the acknowledge on, that comes to it
    pub comes_on : (s : ℕ) (v : Option Cycle) → is_interrupter p s ≡ true → StandsBehind p place s → HasComeTo p (at s IackOut true v ∷ h) s
    comes_on s v on b = record {
      exists = inr on;
      begun = come.begun;
      passed = λ t some. by_slot t some (s == t) refl;
    }
      where
        same_test : (t : ℕ) → is_interrupter p t ≡ true → (s == t) ≡ false → nat_le t place ≡ nat_le t s
        same_test t some other = by_order (cases_lt t s)
          where
            by_order : (t < s) ⊎ (s ≤ t) → nat_le t place ≡ nat_le t s
            by_order (inl l) = is_up_to t place (b.next t some l) ∙ sym (is_up_to t s (omega arith))
            by_order (inr l) =
                let up : place < s = b.above in
                let less : s < t = grind (arith, nat_tests) in
                is_beyond t place (omega arith) ∙ sym (is_beyond t s less)

        by_slot : (t : ℕ) → is_interrupter p t ≡ true → (x : Bool) → (s == t) ≡ x → drive (at s IackOut true v ∷ h) (Slot t) IackOut ≡ nat_le t s
        by_slot t some true is =
            let same : t ≡ s = sym (same_number s t is) in
            own_after h s t IackOut true v same ∙ sym (is_up_to t s (omega arith))
        by_slot t some false is = drive_same h (at s IackOut true v) (Slot t) IackOut is ∙ come.passed t some ∙ same_test t some is

    -- past its last board it has come to the end
    pub at_end : is_past_end p h chain.Iack ≡ true → last_place p ≡ place
    at_end low = by_last (last_active p chain.Iack) refl (last_below p ok) low
      where
        near : (t : ℕ) → is_interrupter p t ≡ true → t < suc p.slots
        near t some = let l : t ≤ p.slots = (within p range t some).1 in omega arith

        by_last : (o : Option ℕ) → last_active p chain.Iack ≡ o → IsBelow (interrupts p) (suc p.slots) o → segment h chain.Iack o ≡ true → last_place p ≡ place
        by_last None is b l = ap place_of is ∙ sym (⊎_elim (λ (zero : place ≡ 0). zero) (λ (some : is_interrupter p place ≡ true). absurd (b place some (near place some))) come.exists)
        by_last (Some t) is b l =
            let from : t ≤ place = passed_by t b.passes l in
            let some = at_least t b.passes from in
            let to : place ≤ t = b.greatest place some (near place some) in
            let same : t ≡ place = omega arith in ap place_of is ∙ same
