-- What is kept of the last cycle and the last tenure, after the edge that ends it.
use Rattle.std.proofs.Common.{◌≡◌, ℕ, ◌+◌, ◌-◌, ◌<◌, ◌≤◌, ◌^◌, min, [], ◌∷◌, length, Bool, true, false, None, refl, arith}
use Rattle.std.specs.Prelude.{if◌then◌else◌}
use Rattle.vme_model.specs.declared.signals.Edge.{Edge}
use Rattle.vme_model.specs.declared.signals.Wire.{Wire}
use Rattle.vme_model.specs.declared.signals.Wire.TheVariants.{AddressStrobe, Bbsy}
use Rattle.vme_model.specs.Plan.{Plan}
use Rattle.vme_model.specs.Numbered.{Numbered}
use Rattle.vme_model.specs.Signals.{is_same_wire}
use Rattle.vme_cycles.specs.declared.record.LastCycle.{LastCycle}
use Rattle.vme_cycles.specs.declared.record.LastTenure.{LastTenure}
use Rattle.vme_cycles.specs.Transactions.{ended, is_rise_on}
use Rattle.vme_cycles.specs.Kept.{IsCycleOf, IsTenureOf}

within_one : (t : Bool) (a b : ℕ) → a ≤ b → (if t then 1 else 0) + a ≤ b + 1
within_one true a b h = omega (arith, h)
within_one false a b h = omega (arith, h)

-- each ended by an edge
ended_within : (w : Wire) (k : Numbered) → ended w k ≤ length k
ended_within w [] = omega arith
ended_within w ((n, e) ∷ k) = let more = within_one (is_rise_on w e) (ended w k) (length k) (ended_within w k) in omega (arith, more)

module _ (k : Numbered) (n : ℕ) (e : Edge) (few : length k + 1 < 2 ^ 64) (rises : e.fall ≡ false) where
  ended_more : (w : Wire) (old new : ℕ) → old ≡ ended w k → is_same_wire e.wire w ≡ true → new ≡ min (old + 1) (2 ^ 64 - 1) → new ≡ ended w ((n, e) ∷ k)
  ended_more w old new is same sum =
      let within = ended_within w k in
      let one : new ≡ 1 + ended w k = omega (arith, is, few, within, sum) in rw (rises, same) one

  pub cycle_ends : (p : Plan) (old : LastCycle) (count : ℕ) → IsCycleOf p k old → is_same_wire e.wire AddressStrobe ≡ true → count ≡ min (old.ended + 1) (2 ^ 64 - 1)
      → IsCycleOf p ((n, e) ∷ k) (record { of = None; showed = old.showed; answer = old.answer; ended = count })
  cycle_ends p old count is same sum = record {
    of = rw (same, rises) refl;
    showed = rw rises is.showed;
    answer = rw rises is.answer;
    ended = ended_more AddressStrobe old.ended count is.ended same sum;
  }

  pub tenure_ends : (old : LastTenure) (count : ℕ) → IsTenureOf k old → is_same_wire e.wire Bbsy ≡ true → count ≡ min (old.ended + 1) (2 ^ 64 - 1)
      → IsTenureOf ((n, e) ∷ k) (record { asked = old.asked; ended = count })
  tenure_ends old count is same sum = record { asked = rw rises is.asked; ended = ended_more Bbsy old.ended count is.ended same sum }
