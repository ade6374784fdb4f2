-- Before any edge: `BusState::new`.
use Rattle.std.proofs.Common.{◌≡◌, ◌∙◌, refl, sym, ap, ℕ, false, [], ◌<◌, get_or}
use Rattle.std.specs.Prelude.{Option, Some, None, min, replicate, ◌==◌, ◌&&◌, is_some}
use Rattle.std.specs.Option.{option_map_or}
use Rattle.std.proofs.Math.Nat.{zero-min}
use Rattle.std.proofs.lemmas.List.{get_or-replicate}
use Rattle.std.proofs.lemmas.Nat.Bits.{bit_at-zero}
use Rattle.vme_model.specs.declared.boards.Row.{Row}
use Rattle.vme_model.specs.declared.boards.RequesterRow.{RequesterRow}
use Rattle.vme_model.specs.declared.boards.InterrupterRow.{InterrupterRow}
use Rattle.vme_model.specs.declared.signals.Driver.TheVariants.{Slot}
use Rattle.vme_model.specs.declared.sets.ChainId.{ChainId}
use Rattle.vme_model.specs.declared.sets.ChainId.TheVariants as chain
use Rattle.vme_model.specs.Plan.{Plan, board, upstream, grant_chain}
use Rattle.vme_model.specs.History.{segment, input}
use Rattle.vme_model.specs.Readings.{grant_in, iack_in, is_served}
use Rattle.vme_master.specs.Local.{most_cycles}
use Rattle.vme_bus.specs.declared.sets.SlotSet.{SlotSet}
use Rattle.vme_bus.specs.Sets.{has}
use Rattle.vme_bus.specs.States.{counted}
use Rattle.vme_bus.proofs.Masks.{with_false}

abbrev no_slot : SlotSet
no_slot = record { bits = 0 }

pub none_held : (s : ℕ) → has no_slot s ≡ false
none_held s = ap (λ x. x == 1) (bit_at-zero s)

no_input : (p : Plan) (c : ChainId) (s : ℕ) → input p [] c s ≡ false
no_input p c s = by_slot (upstream p c s)
  where
    by_slot : (o : Option ℕ) → segment [] c o ≡ false
    by_slot None = refl
    by_slot (Some t) = refl

pub none_granted : (p : Plan) (s : ℕ) → has no_slot s ≡ grant_in p [] (Slot s)
none_granted p s = none_held s ∙ sym (by_board (board p s))
  where
    by_row : (slot : ℕ) (o : Option RequesterRow) → option_map_or (λ q. input p [] (grant_chain q.level) slot) o false ≡ false
    by_row slot None = refl
    by_row slot (Some q) = no_input p (grant_chain q.level) slot

    by_board : (o : Option Row) → option_map_or (λ r. option_map_or (λ q. input p [] (grant_chain q.level) r.slot) r.requester false) o false ≡ false
    by_board None = refl
    by_board (Some r) = by_row r.slot r.requester

pub none_acknowledged : (p : Plan) (s : ℕ) → has no_slot s ≡ iack_in p [] (Slot s)
none_acknowledged p s = none_held s ∙ sym (by_board (board p s))
  where
    by_board : (o : Option Row) → option_map_or (λ r. is_some r.interrupter && input p [] chain.Iack r.slot) o false ≡ false
    by_board None = refl
    by_board (Some r) = ap (λ b. is_some r.interrupter && b) (no_input p chain.Iack r.slot) ∙ with_false (is_some r.interrupter)

pub none_served : (p : Plan) (s : ℕ) → has no_slot s ≡ is_served p [] (Slot s)
none_served p s = none_held s ∙ sym (by_board (board p s))
  where
    by_row : (o : Option InterrupterRow) → option_map_or (λ i. false) o false ≡ false
    by_row None = refl
    by_row (Some i) = refl

    by_board : (o : Option Row) → option_map_or (λ r. option_map_or (λ i. false) r.interrupter false) o false ≡ false
    by_board None = refl
    by_board (Some r) = by_row r.interrupter

none_counted : (p : Plan) (s : ℕ) → counted p [] s ≡ 0
none_counted p s = by_board (board p s)
  where
    by_row : (o : Option RequesterRow) → option_map_or (λ q. min 0 (most_cycles q.release)) o 0 ≡ 0
    by_row None = refl
    by_row (Some q) = zero-min (most_cycles q.release)

    by_board : (o : Option Row) → option_map_or (λ r. option_map_or (λ q. min 0 (most_cycles q.release)) r.requester 0) o 0 ≡ 0
    by_board None = refl
    by_board (Some r) = by_row r.requester

pub no_cycles : (p : Plan) (s : ℕ) → s < 22 → get_or (replicate 22 0) s 0 ≡ counted p [] s
no_cycles p s near = get_or-replicate 22 s 0 0 near ∙ sym (none_counted p s)
