-- What the requests are covered by behind an edge that moves none of them, and behind one by which a board passes an acknowledge on.
use Rattle.std.proofs.Common.{◌≡◌, ◌⊎◌, ◌∙◌, refl, sym, ap, subst, ℕ, Bool, true, false, List, ◌∷◌, ◌<◌, arith, inl, inr, ⊎_elim}
use Rattle.std.specs.Prelude.{◌==◌, ◌&&◌, ◌||◌, not, if◌then◌else◌, Option, Some}
use Rattle.std.specs.Option.{option_map_or, option_and_then}
use Rattle.vme_model.specs.declared.boards.Row.{Row}
use Rattle.vme_model.specs.declared.signals.Version.{Version}
use Rattle.vme_model.specs.declared.signals.Driver.TheVariants.{Slot}
use Rattle.vme_model.specs.declared.signals.Wire.{Wire}
use Rattle.vme_model.specs.declared.signals.Wire.TheVariants.{Irq, Dtack, IackOut}
use Rattle.vme_model.specs.declared.signals.Cycle.TheVariants.{Acknowledge}
use Rattle.vme_model.specs.declared.signals.Edge.{Edge}
use Rattle.vme_model.specs.Signals.{is_same_driver}
use Rattle.vme_model.specs.Plan.{Plan, board, interrupts_on}
use Rattle.vme_model.specs.Accepted.{IsAccepted}
use Rattle.vme_model.specs.Guards.{holds}
use Rattle.vme_model.specs.History.{drive, interrupt_line, pulls_interrupt, serves, shown}
use Rattle.vme_model.specs.Readings.{is_served, readings}
use Rattle.vme_model.specs.Rules.{pass_guard}
use Rattle.vme_model.specs.Verdict.{IsLegal}
use Rattle.vme_model.proofs.Bools.{and_left, and_right, same_number}
use Rattle.vme_model.proofs.Members.{some_row}
use Rattle.vme_model.proofs.Ranges.{IsRowInRange, in_range}
use Rattle.vme_bus.specs.declared.sets.SlotSet.{SlotSet}
use Rattle.vme_bus.specs.Sets.{has}
use Rattle.vme_standings.specs.declared.requests.Request.{Request}
use Rattle.vme_standings.specs.declared.requests.Request.TheVariants.{High, Pending, Served}
use Rattle.vme_standings.specs.declared.requests.Requests.{Requests}
use Rattle.vme_standings.specs.Requests.{request_by, request_of, is_interrupter, is_on_level, AreOnLevel, CoversRequests}
use Rattle.vme_standings.specs.RequestSets.{may_be, pulls_without, Passes, CannotPass}
use Rattle.vme_standings.proofs.Tests.{never, or_left, or_true}
use Rattle.vme_standings.proofs.RequestSteps.{step, Interrupts, interrupts, after}
use Rattle.vme_standings.proofs.RequestRows.{interrupts_there, on_level_is, passed_as}
use Rattle.vme_standings.proofs.RequestLaws.{InSlot, interrupter_in}

step_stays : (w : Wire) (fall serves : Bool) (q : Request) → (w ≡ Irq → ⊥) → (w ≡ Dtack → fall ≡ false) → step w fall serves q ≡ q
step_stays Irq true serves q unlike off = absurd (unlike refl)
step_stays Irq false serves q unlike off = absurd (unlike refl)
step_stays Dtack true serves q unlike off = absurd (never true refl (off refl))
step_stays w fall serves q unlike off = refl

-- an edge that is of no `irq`, and no fall of a `dtack`, moves no request
other_request : (p : Plan) (h : List Edge) (e : Edge) → (e.wire ≡ Irq → ⊥) → (e.wire ≡ Dtack → e.fall ≡ false) → (t : ℕ) → is_interrupter p t ≡ true → request_of p (e ∷ h) t ≡ request_of p h t
other_request p h e unlike off t some = after p t on h e ∙ by_driver (is_same_driver e.driver (Slot t))
  where
    on : Interrupts p t
    on = interrupts p t some

    by_driver : (b : Bool) → (if b then step e.wire e.fall (serves on.interrupter.kind (shown p h)) (request_of p h t) else request_of p h t) ≡ request_of p h t
    by_driver true = step_stays e.wire e.fall (serves on.interrupter.kind (shown p h)) (request_of p h t) unlike off
    by_driver false = refl

pub other_keeps : (p : Plan) (h : List Edge) (e : Edge) (may : ℕ → Request → Bool) → (e.wire ≡ Irq → ⊥) → (e.wire ≡ Dtack → e.fall ≡ false) → CoversRequests p h may → CoversRequests p (e ∷ h) may
other_keeps p h e may unlike off covers t some = ap (may t) (other_request p h e unlike off t some) ∙ covers t some

-- a board that is not pending at its level
not_pending : (level low served : Bool) → level ≡ true → not (level && low && not served) ≡ true → (request_by low served ≡ High) ⊎ (request_by low served ≡ Served)
not_pending true false served on n = inl refl
not_pending true true true on n = inr refl
not_pending true true false on n = absurd (never false n refl)
not_pending false low served on n = absurd (never false on refl)

not_this : IackOut ≡ Irq → ⊥
not_this e = cc

not_that : IackOut ≡ Dtack → ⊥
not_that e = cc

module _ (version : Version) (p : Plan) (h : List Edge) (e : Edge) (s n : ℕ) (old : Requests) (ok : IsAccepted p) (legal : IsLegal version p (e ∷ h)) (driver : is_same_driver e.driver (Slot s) ≡ true)
    (wire : e.wire ≡ IackOut) (way : e.fall ≡ true) (shows : shown p h ≡ Some (Acknowledge n)) (on : is_on_level p n s ≡ true) (covers : CoversRequests p h (may_be old)) where
  some_at : is_interrupter p s ≡ true
  some_at = interrupts_there p n s on

  stood : (request_of p h s ≡ High) ⊎ (request_of p h s ≡ Served)
  stood =
      let passed = passed_as version p h e s IackOut true legal driver wire way in
      let b = on_level_is p n s on in
      not_pending (option_map_or (λ i. i.level == n) (option_and_then (λ r. r.interrupter) (board p s)) false) (drive h (Slot s) Irq) (is_served p h (Slot s))
      (ap (λ (o : Option Row). option_map_or (λ i. i.level == n) (option_and_then (λ r. r.interrupter) o) false) b.found ∙ b.on)
      (subst (λ v. holds (pass_guard (readings p h (Slot s)) v) ≡ true) shows (and_right _ (holds (pass_guard (readings p h (Slot s)) (shown p h))) passed.rule))

  never_pending : request_of p h s ≡ Pending → ⊥
  never_pending is = ⊎_elim (λ (a : request_of p h s ≡ High). high_not (sym a ∙ is)) (λ (a : request_of p h s ≡ Served). served_not (sym a ∙ is)) stood
    where
      high_not : High ≡ Pending → ⊥
      high_not x = cc

      served_not : Served ≡ Pending → ⊥
      served_not x = cc

  pub pass_keeps : (boards : SlotSet) (low : Bool) (new : Requests) → Passes s boards low old new → CoversRequests p (e ∷ h) (may_be new)
  pass_keeps boards low new m t some =
      ap (may_be new t) (other_request p h e (λ is. not_this (sym wire ∙ is)) (λ is. absurd (not_that (sym wire ∙ is))) t some)
      ∙ by_request (request_of p h t) refl (covers t some)
    where
      i : InSlot t
      i = interrupter_in p ok t some

      keeps : (o b : Bool) → o ≡ true → b ≡ false → (o && not b) ≡ true
      keeps o b e f = grind arith

      by_slot : (b : Bool) → (t == s) ≡ b → request_of p h t ≡ Pending → may_be old t Pending ≡ true → may_be new t Pending ≡ true
      by_slot true is q may = absurd (never_pending (subst (λ x. request_of p h x ≡ Pending) (same_number t s is) q))
      by_slot false is q may = m.pending t i.from i.near ∙ keeps _ _ may is

      by_request : (q : Request) → request_of p h t ≡ q → may_be old t q ≡ true → may_be new t q ≡ true
      by_request High is may = m.high t ∙ may
      by_request Pending is may = by_slot (t == s) refl is may
      by_request Served is may = m.served t ∙ may

  -- so it may pass
  pub can_pass : (boards : SlotSet) → AreOnLevel p n boards → CannotPass s boards (interrupt_line p h n) old → ⊥
  can_pass boards held = ⊎_elim unable (λ (x : (interrupt_line p h n ≡ true) × ((t : ℕ) → t < 22 → pulls_without s old boards t ≡ false)). nobody x.0 x.1)
    where
      unable : (may_be old s High || may_be old s Served) ≡ false → ⊥
      unable none =
          ⊎_elim (λ (a : request_of p h s ≡ High). never (may_be old s High || may_be old s Served) (or_left _ _ (subst (λ q. may_be old s q ≡ true) a (covers s some_at))) none)
          (λ (a : request_of p h s ≡ Served). never (may_be old s High || may_be old s Served) (or_true _ _ (subst (λ q. may_be old s q ≡ true) a (covers s some_at))) none) stood

      pulls : (b p a v : Bool) → b ≡ true → p ≡ true → a ≡ false → (b && ((p && not a) || v)) ≡ true
      pulls b p a v e f g = grind arith

      pulls_served : (b p a v : Bool) → b ≡ true → v ≡ true → (b && ((p && not a) || v)) ≡ true
      pulls_served b p a v e f = grind arith

      by_slot : (t : ℕ) → is_on_level p n t ≡ true → may_be old t Pending ≡ true → request_of p h t ≡ Pending → (b : Bool) → (t == s) ≡ b → pulls_without s old boards t ≡ true
      by_slot t there may q true is = absurd (never_pending (subst (λ x. request_of p h x ≡ Pending) (same_number t s is) q))
      by_slot t there may q false is = pulls (has boards t) (may_be old t Pending) (t == s) (may_be old t Served) (held t ∙ there) may is

      by_request : (t : ℕ) → is_on_level p n t ≡ true → (served : Bool) → request_of p h t ≡ request_by true served → may_be old t (request_of p h t) ≡ true → pulls_without s old boards t ≡ true
      by_request t there true q may = pulls_served (has boards t) (may_be old t Pending) (t == s) (may_be old t Served) (held t ∙ there) (sym (ap (may_be old t) q) ∙ may)
      by_request t there false q may = by_slot t there (sym (ap (may_be old t) q) ∙ may) q (t == s) refl

      nobody : interrupt_line p h n ≡ true → ((t : ℕ) → t < 22 → pulls_without s old boards t ≡ false) → ⊥
      nobody line none =
          let f = some_row (pulls_interrupt h n) (IsRowInRange p) p.rows (in_range p ok).rows line in
          let there : is_on_level p n f.0.slot ≡ true = ap (λ (o : Option Row). option_map_or (interrupts_on n) o false) f.2.alone ∙ and_left (interrupts_on n f.0) (drive h (Slot f.0.slot) Irq) f.1 in
          let some = interrupts_there p n f.0.slot there in
          let q : request_of p h f.0.slot ≡ request_by true (is_served p h (Slot f.0.slot)) = ap (λ b. request_by b (is_served p h (Slot f.0.slot)))
          (and_right (interrupts_on n f.0) (drive h (Slot f.0.slot) Irq) f.1) in
          never (pulls_without s old boards f.0.slot)
          (by_request f.0.slot there (is_served p h (Slot f.0.slot)) q (covers f.0.slot some))
          (none f.0.slot (interrupter_in p ok f.0.slot some).near)
