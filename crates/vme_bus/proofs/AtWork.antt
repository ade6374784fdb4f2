-- The slots whose masters do not wait are those of the sets at work: `BusState::masters_at_work`.
use Rattle.std.proofs.Common.{◌≡◌, ◌∙◌, refl, ap, ℕ, Bool, true, false, List}
use Rattle.std.specs.Prelude.{◌&&◌, ◌||◌, not, Option, Some, None}
use Rattle.std.specs.Option.{option_map_or}
use Rattle.vme_model.specs.declared.boards.Row.{Row}
use Rattle.vme_model.specs.declared.signals.Version.{Version}
use Rattle.vme_model.specs.declared.signals.Edge.{Edge}
use Rattle.vme_model.specs.declared.signals.Driver.TheVariants.{Slot}
use Rattle.vme_model.specs.declared.signals.Wire.{Wire}
use Rattle.vme_model.specs.declared.signals.Wire.TheVariants.{Bbsy, Addr, AddressStrobe, DataStrobe}
use Rattle.vme_model.specs.Plan.{Plan, board, drives}
use Rattle.vme_model.specs.History.{drive}
use Rattle.vme_model.specs.Readings.{readings}
use Rattle.vme_wiring.specs.Waits.{waits_for_bus}
use Rattle.vme_wiring.specs.Judged.{master_waits}
use Rattle.vme_wiring.proofs.FieldReads.{never_drove}
use Rattle.vme_bus.specs.declared.states.BusState.{BusState}
use Rattle.vme_bus.specs.Sets.{has}
use Rattle.vme_bus.specs.States.{IsStateOf}

-- of two facts that are joined by or
pub neither : (a b : Bool) → (a || b) ≡ false → (a ≡ false) × (b ≡ false)
neither false false e = (refl, refl)
neither a b e = absurd (cc)

pub waits_then : (w : Bool) → not w ≡ false → w ≡ true
waits_then true e = refl
waits_then false e = absurd (cc)

same_four : (f : Bool → Bool → Bool → Bool → Bool) (a b c d k l m n : Bool) → a ≡ k → b ≡ l → c ≡ m → d ≡ n → f a b c d ≡ f k l m n
same_four f a b c d k l m n ak bl cm dn = ap (λ x. f x b c d) ak ∙ ap (λ x. f k x c d) bl ∙ ap (λ x. f k l x d) cm ∙ ap (λ x. f k l m x) dn

any_of_four : (b a s d : Bool) → (b || ((a || s) || d)) ≡ not (((not b && not a) && not s) && not d)
any_of_four true a s d = refl
any_of_four false true s d = refl
any_of_four false false true d = refl
any_of_four false false false true = refl
any_of_four false false false false = refl

module _ (version : Version) (p : Plan) (h : List Edge) (b : BusState) (s : ℕ) (is : IsStateOf version p h b) where
  -- a slot without a board drives nothing
  nothing : (w : Wire) → board p s ≡ None → drive h (Slot s) w ≡ false
  nothing w found = never_drove version p h (Slot s) w is.legal (ap (λ (o : Option Row). option_map_or (drives w) o false) found)

  pub masters_work : (has b.bbsy s || ((has b.addr s || has b.address_strobe s) || has b.data_strobe s)) ≡ not (master_waits p h s)
  masters_work =
      same_four (λ b a s d. b || ((a || s) || d)) (has b.bbsy s) (has b.addr s) (has b.address_strobe s) (has b.data_strobe s) (drive h (Slot s) Bbsy) (drive h (Slot s) Addr) (drive h (Slot s) AddressStrobe) (drive h (Slot s) DataStrobe)
      (is.bbsy s) (is.addr s) (is.address_strobe s) (is.data_strobe s)
      ∙ by_board (board p s) refl
    where
      by_board : (o : Option Row) → board p s ≡ o → (drive h (Slot s) Bbsy || ((drive h (Slot s) Addr || drive h (Slot s) AddressStrobe) || drive h (Slot s) DataStrobe)) ≡ not (option_map_or (λ (r : Row). waits_for_bus (readings p h (Slot s))) o true)
      by_board None found =
          same_four (λ b a s d. b || ((a || s) || d)) (drive h (Slot s) Bbsy) (drive h (Slot s) Addr) (drive h (Slot s) AddressStrobe) (drive h (Slot s) DataStrobe) false false false false
          (nothing Bbsy found) (nothing Addr found) (nothing AddressStrobe found) (nothing DataStrobe found)
      by_board (Some r) found = any_of_four (drive h (Slot s) Bbsy) (drive h (Slot s) Addr) (drive h (Slot s) AddressStrobe) (drive h (Slot s) DataStrobe)
