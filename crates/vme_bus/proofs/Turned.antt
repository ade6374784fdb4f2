-- When the edge that moves a wire to its other state is open: `BusState::may_control`, `may_request` and their like.
use Rattle.std.proofs.Common.{◌≡◌, ◌≤◌, ◌∙◌, refl, sym, ap, arith, ℕ, Bool, true, false, List}
use Rattle.std.specs.Prelude.{◌&&◌, not, Ok, Option, Some, None, is_ok}
use Rattle.std.specs.Option.{option_map_or}
use Rattle.vme_model.specs.declared.boards.Row.{Row}
use Rattle.vme_model.specs.declared.refusals.Refused.TheVariants.{NoSuchDriver, AlreadyThere, Rule, NotSettled}
use Rattle.vme_model.specs.declared.signals.Version.{Version}
use Rattle.vme_model.specs.declared.signals.Driver.{Driver}
use Rattle.vme_model.specs.declared.signals.Driver.TheVariants.{Slot}
use Rattle.vme_model.specs.declared.signals.Edge.{Edge}
use Rattle.vme_model.specs.declared.signals.Wire.{Wire}
use Rattle.vme_model.specs.declared.signals.Wire.TheVariants.{Bg, Bclr, Iack, Berr, Br, BgOut, Bbsy, Addr, AddressStrobe, DataStrobe, Irq, IackOut, Dtack}
use Rattle.vme_model.specs.Accepted.{IsAccepted}
use Rattle.vme_model.specs.Plan.{Plan, board, drives}
use Rattle.vme_model.specs.History.{drive}
use Rattle.vme_model.specs.Readings.{readings}
use Rattle.vme_model.specs.Rules.{rule}
use Rattle.vme_model.specs.Settling.{settling}
use Rattle.vme_model.specs.Verdict.{check, is_other_state}
use Rattle.vme_model.specs.Offers.{turned}
use Rattle.vme_histories.specs.Asked.{exists}
use Rattle.vme_histories.specs.Offered.{is_open}
use Rattle.vme_histories.proofs.AllowedBoards.{stands}
use Rattle.vme_histories.proofs.NoOffers.{lacking}
use Rattle.vme_model.specs.declared.signals.Part.TheVariants as parts
use Rattle.vme_model.specs.Signals.{is_of}

opens : (there low a b : Bool) (n m : ℕ) → there ≡ true → (a && b) ≡ is_ok
    (check there NoSuchDriver (check (is_other_state low (not low)) AlreadyThere (check a (Rule n) (check b (NotSettled m) (Ok tt)))))
opens true true true true n m e = refl
opens true true true false n m e = refl
opens true true false b n m e = refl
opens true false true true n m e = refl
opens true false true false n m e = refl
opens true false false b n m e = refl
opens false low a b n m e = absurd (cc)

alone : (a b : Bool) → b ≡ true → a ≡ (a && b)
alone true true e = refl
alone false b e = refl
alone true false e = absurd (cc)

module _ (version : Version) (p : Plan) (h : List Edge) (d : Driver) (w : Wire) where
  abbrev by_rule : ℕ × Bool
  by_rule = rule version (readings p h d) w (not (drive h d w)) None

  abbrev by_settling : ℕ × Bool
  by_settling = settling version p h w (not (drive h d w))

  -- where there is such an edge, by its rule and its settling rule
  pub open_where : exists p (turned h d w) ≡ true → (by_rule.1 && by_settling.1) ≡ is_open version p h (turned h d w)
  open_where there = opens (exists p (turned h d w)) (drive h d w) by_rule.1 by_settling.1 by_rule.0 by_settling.0 there

  -- by its rule alone, where no settling rule names it
  pub open_by_rule : exists p (turned h d w) ≡ true → by_settling.1 ≡ true → by_rule.1 ≡ is_open version p h (turned h d w)
  open_by_rule there free = alone by_rule.1 by_settling.1 free ∙ open_where there

-- no board stands beyond the last slot
pub beyond_shut : (version : Version) (p : Plan) (h : List Edge) (s : ℕ) (w : Wire) → IsAccepted p → 22 ≤ s → false ≡ is_open version p h (turned h (Slot s) w)
beyond_shut version p h s w ok far = sym (lacking version p h (turned h (Slot s) w) (by_board (board p s) refl))
  where
    by_board : (o : Option Row) → board p s ≡ o → option_map_or (drives w) (board p s) false ≡ false
    by_board None found = ap (λ (o : Option Row). option_map_or (drives w) o false) found
    by_board (Some r) found = let near = (stands p s r ok found).near in absurd (omega arith)

-- no settling rule names a requester's edge
pub requesters_settle : (version : Version) (p : Plan) (h : List Edge) (w : Wire) (fall : Bool) → is_of parts.Requester w ≡ true → (settling version p h w fall).1 ≡ true
requesters_settle version p h Br fall e = refl
requesters_settle version p h BgOut fall e = refl
requesters_settle version p h Bbsy fall e = refl
requesters_settle version p h (Bg n) fall e = absurd (cc)
requesters_settle version p h Bclr fall e = absurd (cc)
requesters_settle version p h Iack fall e = absurd (cc)
requesters_settle version p h Berr fall e = absurd (cc)
requesters_settle version p h Addr fall e = absurd (cc)
requesters_settle version p h AddressStrobe fall e = absurd (cc)
requesters_settle version p h DataStrobe fall e = absurd (cc)
requesters_settle version p h Irq fall e = absurd (cc)
requesters_settle version p h IackOut fall e = absurd (cc)
requesters_settle version p h Dtack fall e = absurd (cc)

-- nor an interrupter's, nor an answer
pub interrupters_settle : (version : Version) (p : Plan) (h : List Edge) (w : Wire) (fall : Bool) → is_of parts.Interrupter w ≡ true → (settling version p h w fall).1 ≡ true
interrupters_settle version p h Irq fall e = refl
interrupters_settle version p h IackOut fall e = refl
interrupters_settle version p h Dtack fall e = refl
interrupters_settle version p h (Bg n) fall e = absurd (cc)
interrupters_settle version p h Bclr fall e = absurd (cc)
interrupters_settle version p h Iack fall e = absurd (cc)
interrupters_settle version p h Berr fall e = absurd (cc)
interrupters_settle version p h Br fall e = absurd (cc)
interrupters_settle version p h BgOut fall e = absurd (cc)
interrupters_settle version p h Bbsy fall e = absurd (cc)
interrupters_settle version p h Addr fall e = absurd (cc)
interrupters_settle version p h AddressStrobe fall e = absurd (cc)
interrupters_settle version p h DataStrobe fall e = absurd (cc)
