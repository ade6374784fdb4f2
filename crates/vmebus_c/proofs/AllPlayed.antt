-- On all wires, all open edges are drawn from.
use Rattle.std.proofs.Common.{◌≡◌, ◌∙◌, refl, sym, ap, subst, ℕ, zero, suc, ◌+◌, ◌-◌, ◌/◌, ◌%◌, ◌^◌, ◌<◌, ◌≤◌, Bool, true, false, List, [], ◌∷◌, ◌++◌, filter, map, length, arith}
use Rattle.std.proofs.Math.Path.{fun_ext}
use Rattle.std.specs.Prelude.{Option, Some, None, Result, Ok, Err, is_ok, is_some, if◌then◌else◌, ◌==◌, ◌&&◌, nat_lt}
use Rattle.std.specs.List.{flat_map, All, Contains}
use Rattle.std.specs.Option.{option_map_or}
use Rattle.std.proofs.lemmas.Bool.{ne_eqb}
use Rattle.std.proofs.lemmas.Bool.Decides.{nat_tests}
use Rattle.std.proofs.lemmas.List.{append-nil}
use Rattle.std.proofs.lemmas.List.Elements.{All-head, All-tail, All-weaker, filter-append, filter_passes}
use Rattle.vme_model.specs.declared.boards.Row.{Row}
use Rattle.vme_model.specs.declared.refusals.Refused.{Refused}
use Rattle.vme_model.specs.declared.refusals.Refused.TheVariants.{NoSuchDriver}
use Rattle.vme_model.specs.declared.signals.Driver.{Driver}
use Rattle.vme_model.specs.declared.signals.Driver.TheVariants.{Controller, Slot}
use Rattle.vme_model.specs.declared.signals.Edge.{Edge}
use Rattle.vme_model.specs.declared.signals.Version.{Version}
use Rattle.vme_model.specs.declared.signals.Wire.{Wire}
use Rattle.vme_model.specs.declared.signals.Wire.TheVariants.{Bg, Bclr, Iack, Berr, Br, BgOut, Bbsy, Addr, AddressStrobe, DataStrobe, Irq, IackOut, Dtack}
use Rattle.vme_model.specs.Accepted.{IsAccepted}
use Rattle.vme_model.specs.Offers.{wires as wires_of}
use Rattle.vme_model.specs.Open.{moves, open_edges}
use Rattle.vme_model.specs.Plan.{Plan, board, drives, has_driver, up_to}
use Rattle.vme_model.specs.Signals.{has_wire, has_value, driver_number, wire_number}
use Rattle.vme_model.specs.Text.{all_drivers}
use Rattle.vme_model.specs.Verdict.{State, verdict}
use Rattle.vme_model.proofs.AllowedEdges.{checked}
use Rattle.vme_model.proofs.Bools.{and_left, and_right}
use Rattle.vme_model.proofs.Members.{found_row}
use Rattle.vme_model.proofs.OpenEdges.{here, open_are_all}
use Rattle.vme_model.proofs.Ranges.{IsRowInRange, in_range}
use Rattle.vme_histories.specs.Opens.{open_but_full}
use Rattle.vme_histories.proofs.OfferChoice.{open_with_room}
use Rattle.vme_seeds.specs.Choices.{all_open}
use Rattle.vme_seeds.specs.Kinds.{has_board}
use Rattle.vmebus_c.specs.Laws.{PlaysAll}
use Rattle.vmebus_c.specs.Played.{is_played, played}

-- ---- the bits of all wires are set

bit_of : (n : ℕ) → n < 16 → (nat_lt n 16 && 65535 / 2 ^ n % 2 == 1) ≡ true
bit_of zero l = refl
bit_of (suc zero) l = refl
bit_of (suc (suc zero)) l = refl
bit_of (suc (suc (suc zero))) l = refl
bit_of (suc (suc (suc (suc zero)))) l = refl
bit_of (suc (suc (suc (suc (suc zero))))) l = refl
bit_of (suc (suc (suc (suc (suc (suc zero)))))) l = refl
bit_of (suc (suc (suc (suc (suc (suc (suc zero))))))) l = refl
bit_of (suc (suc (suc (suc (suc (suc (suc (suc zero)))))))) l = refl
bit_of (suc (suc (suc (suc (suc (suc (suc (suc (suc zero))))))))) l = refl
bit_of (suc (suc (suc (suc (suc (suc (suc (suc (suc (suc zero)))))))))) l = refl
bit_of (suc (suc (suc (suc (suc (suc (suc (suc (suc (suc (suc zero))))))))))) l = refl
bit_of (suc (suc (suc (suc (suc (suc (suc (suc (suc (suc (suc (suc zero)))))))))))) l = refl
bit_of (suc (suc (suc (suc (suc (suc (suc (suc (suc (suc (suc (suc (suc zero))))))))))))) l = refl
bit_of (suc (suc (suc (suc (suc (suc (suc (suc (suc (suc (suc (suc (suc (suc zero)))))))))))))) l = refl
bit_of (suc (suc (suc (suc (suc (suc (suc (suc (suc (suc (suc (suc (suc (suc (suc zero))))))))))))))) l = refl
bit_of (suc (suc (suc (suc (suc (suc (suc (suc (suc (suc (suc (suc (suc (suc (suc (suc n)))))))))))))))) l = absurd (omega (arith, l))

pub small_wire : (d : Driver) (w : Wire) → has_wire d w ≡ true → wire_number w < 16
small_wire Controller (Bg level) h = let l : level < 4 = grind (arith, nat_tests) in omega (arith, l)
small_wire (Slot s) (Bg level) h = absurd (cc)
small_wire d Bclr h = omega arith
small_wire d Iack h = omega arith
small_wire d Berr h = omega arith
small_wire d Br h = omega arith
small_wire d BgOut h = omega arith
small_wire d Bbsy h = omega arith
small_wire d Addr h = omega arith
small_wire d AddressStrobe h = omega arith
small_wire d DataStrobe h = omega arith
small_wire d Irq h = omega arith
small_wire d IackOut h = omega arith
small_wire d Dtack h = omega arith

-- ---- an open edge is of a driver and a wire that there are

module _ (b : State) (e : Edge) (ok : verdict b e ≡ Ok tt) where
  exists : has_driver b.plan e.driver e.wire ≡ true
  exists = and_right (has_wire e.driver e.wire && has_value e.wire e.fall e.value) (has_driver b.plan e.driver e.wire) (checked _ NoSuchDriver _ ok).0

  has : has_wire e.driver e.wire ≡ true
  has = and_left (has_wire e.driver e.wire) (has_value e.wire e.fall e.value) (and_left (has_wire e.driver e.wire && has_value e.wire e.fall e.value) (has_driver b.plan e.driver e.wire)
      (checked _ NoSuchDriver _ ok).0)

-- ---- the slots beyond those of the plan have no board

beyond : (p : Plan) → IsAccepted p → (s : ℕ) → p.slots < s → has_board p s ≡ false
beyond p accepted s far = by_board (board p s) refl
  where
    by_board : (o : Option Row) → board p s ≡ o → is_some o ≡ false
    by_board None is = refl
    by_board (Some r) is =
        let range = in_range p accepted in
        let f = found_row (IsRowInRange p) p.rows s r range.rows is in
        let to : s ≤ p.slots = subst (λ x. x ≤ p.slots) f.slot f.fact.to_last in
        absurd (omega (arith, to, far))

-- a driver's slot is below 22
near_driver : (p : Plan) → IsAccepted p → (d : Driver) (w : Wire) → has_driver p d w ≡ true → driver_number d < 22
near_driver p accepted Controller w h = omega arith
near_driver p accepted (Slot s) w h = by_board (board p s) refl h
  where
    by_board : (o : Option Row) → board p s ≡ o → option_map_or (drives w) o false ≡ true → s < 22
    by_board None is drove = absurd (cc)
    by_board (Some r) is drove =
        let range = in_range p accepted in
        let most : p.slots ≤ 21 = range.most in
        let f = found_row (IsRowInRange p) p.rows s r range.rows is in
        let to : s ≤ p.slots = subst (λ x. x ≤ p.slots) f.slot f.fact.to_last in
        omega (arith, to, most)

-- ---- all open edges are played

filter_all : (test : Edge → Bool) (xs : List Edge) → All (λ e. test e ≡ true) xs → filter test xs ≡ xs
filter_all test [] all = refl
filter_all test (x ∷ xs) all =
    ap (λ (t : Bool). if t then x ∷ filter test xs else filter test xs) (All-head (λ e. test e ≡ true) x xs all)
    ∙ ap (λ (l : List Edge). x ∷ l) (filter_all test xs (All-tail (λ e. test e ≡ true) x xs all))

fine : (r : Result (Unit {0}) Refused) → is_ok r ≡ true → r ≡ Ok tt
fine (Ok tt) h = refl
fine (Err r) h = absurd (cc)

module _ (b : State) (accepted : IsAccepted b.plan) (masks : List ℕ) (all : PlaysAll masks) where
  abbrev is_allowed : Edge → Bool
  is_allowed e = is_ok (verdict b e)

  plays : (e : Edge) → is_allowed e ≡ true → is_played masks e ≡ true
  plays e allowed =
      let ok = fine (verdict b e) allowed in
      let mask = all (driver_number e.driver) (near_driver b.plan accepted e.driver e.wire (exists b e ok)) in
      ap (λ (m : ℕ). nat_lt (wire_number e.wire) 16 && m / 2 ^ wire_number e.wire % 2 == 1) mask
      ∙ bit_of (wire_number e.wire) (small_wire e.driver e.wire (has b e ok))

  all_played : (d : Driver) → filter (is_played masks) (open_edges b d) ≡ open_edges b d
  all_played d =
      filter_all (is_played masks) (open_edges b d)
      (All-weaker (λ e. is_allowed e ≡ true) (λ e. is_played masks e ≡ true) plays (open_edges b d) (filter_passes is_allowed (flat_map (moves b.history d) (wires_of d))))

-- a slot without a board has no open edge
module _ (b : State) where
  none_open : (s : ℕ) → has_board b.plan s ≡ false → open_edges b (Slot s) ≡ []
  none_open s none = by_list (open_edges b (Slot s)) refl
    where
      without : (w : Wire) (o : Option Row) → is_some o ≡ false → option_map_or (drives w) o false ≡ true → ⊥
      without w None h drove = cc
      without w (Some r) h drove = cc

      by_list : (es : List Edge) → open_edges b (Slot s) ≡ es → es ≡ []
      by_list [] is = refl
      by_list (e ∷ es) is =
          let known = (open_are_all b (Slot s) e).1 (subst (λ (l : List Edge). Contains l e) (sym is) (here e es)) in
          let there : has_driver b.plan (Slot s) e.wire ≡ true = subst (λ (d : Driver). has_driver b.plan d e.wire ≡ true) known.0 (exists b e known.1) in
          absurd (without e.wire (board b.plan s) none there)

pub no_edge_without_board : (version : Version) (p : Plan) (h : List Edge) (s : ℕ) → has_board p s ≡ false → open_but_full version p h (Slot s) ≡ []
no_edge_without_board version p h s none =
    let b : State = record { version = version; plan = p; history = h; max = suc (length h) } in
    sym (open_with_room b (Slot s) (ne_eqb (length h) (suc (length h)) (λ e. omega (arith, e)))) ∙ none_open b s none

module _ (b : State) (accepted : IsAccepted b.plan) (masks : List ℕ) (all : PlaysAll masks) where
  -- the slots of boards alone have open edges
  abbrev OpenOf : List ℕ → List Edge
  OpenOf ss = flat_map (open_edges b) (map (λ s. Slot s) ss)

  keep_by : (x : ℕ) (xs : List ℕ) (t : Bool) → has_board b.plan x ≡ t → OpenOf xs ≡ OpenOf (filter (has_board b.plan) xs)
      → OpenOf (x ∷ xs) ≡ OpenOf (if t then x ∷ filter (has_board b.plan) xs else filter (has_board b.plan) xs)
  keep_by x xs true is later = ap (λ (l : List Edge). open_edges b (Slot x) ++ l) later
  keep_by x xs false is later = ap (λ (l : List Edge). l ++ OpenOf xs) (none_open b x is) ∙ later

  keep : (xs : List ℕ) → OpenOf xs ≡ OpenOf (filter (has_board b.plan) xs)
  keep [] = refl
  keep (x ∷ xs) = keep_by x xs (has_board b.plan x) refl (keep xs)

  none_far : (k m : ℕ) → m ≡ b.plan.slots + k → filter (has_board b.plan) (up_to m) ≡ filter (has_board b.plan) (up_to b.plan.slots)
  none_far zero m is = let same : m ≡ b.plan.slots = omega (arith, is) in ap (λ (n : ℕ). filter (has_board b.plan) (up_to n)) same
  none_far (suc k) zero is = absurd (omega (arith, is))
  none_far (suc k) (suc m) is =
      filter-append (has_board b.plan) (up_to m) (suc m ∷ [])
      ∙ ap (λ (t : Bool). filter (has_board b.plan) (up_to m) ++ (if t then suc m ∷ [] else [])) (beyond b.plan accepted (suc m) (omega (arith, is)))
      ∙ append-nil (filter (has_board b.plan) (up_to m))
      ∙ none_far k m (omega (arith, is))

  slots_alike : filter (has_board b.plan) (up_to 21) ≡ filter (has_board b.plan) (up_to b.plan.slots)
  slots_alike =
      let most : b.plan.slots ≤ 21 = (in_range b.plan accepted).most in
      none_far (21 - b.plan.slots) 21 (omega (arith, most))

  pub played_all : (length b.history == b.max) ≡ false → played b.version b.plan b.history masks ≡ all_open b
  played_all room =
      let alike : (λ (d : Driver). filter (is_played masks) (open_but_full b.version b.plan b.history d)) ≡ open_edges b =
      fun_ext (λ (d : Driver). ap (filter (is_played masks)) (sym (open_with_room b d room)) ∙ all_played b accepted masks all d) in
      ap (λ (f : Driver → List Edge). flat_map f all_drivers) alike
      ∙ ap (λ (l : List Edge). open_edges b Controller ++ l) (keep (up_to 21) ∙ ap OpenOf slots_alike)
