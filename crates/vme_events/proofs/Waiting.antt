-- `before`: a search of the slots, a burst, and what a board has answered.
use Rattle.std.proofs.Common.{◌≡◌, ◌∙◌, ℕ, zero, suc, ◌+◌, ◌-◌, ◌<◌, ◌≤◌, Bool, true, false, List, [], ◌∷◌, Option, Some, None, refl, sym, ap, arith, inl, inr, add-one}
use Rattle.std.specs.Prelude.{◌&&◌, ◌||◌, ◌==◌, if◌then◌else◌, nat_lt, is_some}
use Rattle.std.specs.List.{list_any}
use Rattle.std.specs.Option.{option_map_or, option_and_then, option_or}
use Rattle.std.proofs.lemmas.Bool.{cases_lt}
use Rattle.std.proofs.lemmas.Bool.Decides.{nat_tests}
use Rattle.std.proofs.lemmas.List.Folds.{list_any-append}
use Rattle.vme_model.specs.declared.boards.IrqKind.{IrqKind}
use Rattle.vme_model.specs.declared.boards.RequesterRow.{RequesterRow}
use Rattle.vme_model.specs.declared.boards.Release.TheVariants.{Done}
use Rattle.vme_model.specs.declared.signals.Driver.{Driver}
use Rattle.vme_model.specs.declared.signals.Wire.{Wire}
use Rattle.vme_model.specs.declared.signals.Wire.TheVariants.{Irq, Dtack}
use Rattle.vme_model.specs.declared.signals.Edge.{Edge}
use Rattle.vme_model.specs.Signals.{is_edge_of, is_fall_of}
use Rattle.vme_model.specs.Plan.{Plan, board_of, up_to}
use Rattle.vme_model.specs.History.{cycles, serves, served_since_request, shown}
use Rattle.vme_model.specs.Numbered.{Numbered, edges_in, since, served_since}
use Rattle.vme_events.specs.Events.{fills_burst, is_filled}

-- none of the slots so far passes the test
pub none_passes : (test : ℕ → Bool) (i : ℕ) → list_any test (up_to i) ≡ false → test (i + 1) ≡ false → list_any test (up_to (i + 1)) ≡ false
none_passes test i none fails =
    ap (λ n. list_any test (up_to n)) (add-one i) ∙ list_any-append test (up_to i) (suc i ∷ [])
    ∙ ap (λ b. b || (test (suc i) || false)) none ∙ ap (λ b. b || false) (ap test (sym (add-one i)) ∙ fails)

or_true : (b : Bool) → (b || true) ≡ true
or_true true = refl
or_true false = refl

-- one of them does
pub one_passes : (test : ℕ → Bool) (n i : ℕ) → i < n → test (i + 1) ≡ true → list_any test (up_to n) ≡ true
one_passes test zero i lt holds = absurd (omega (arith, lt))
one_passes test (suc n) i lt holds =
    list_any-append test (up_to n) (suc n ∷ [])
    ∙ elim (cases_lt i n) [
      | inl below ↦ ap (λ b. b || (test (suc n) || false)) (one_passes test n i below holds)
      | inr above ↦
          let last : suc n ≡ i + 1 = omega (arith, lt, above) in
          ap (λ b. list_any test (up_to n) || (b || false)) (ap test last ∙ holds) ∙ or_true (list_any test (up_to n))
    ]

-- a board whose `dtack` never moved has answered nothing
pub nothing_answered : (p : Plan) (k : Numbered) (d : Driver) (kind : IrqKind) → since k d Dtack ≡ None → served_since_request p (edges_in k) d kind ≡ false
nothing_answered p [] d kind none = refl
nothing_answered p ((n, e) ∷ k) d kind none =
    one (is_edge_of d Dtack e) e.fall (is_fall_of d Irq e) none (λ f. nothing_answered p k d kind f)
  where
    one : (t fall asks : Bool) → (if t then Some n else since k d Dtack) ≡ None → (since k d Dtack ≡ None → served_since_request p (edges_in k) d kind ≡ false)
        → (if asks then false else ((fall && t) && serves kind (shown p (edges_in k))) || served_since_request p (edges_in k) d kind) ≡ false
    one true fall asks none f = absurd (cc)
    one false fall true none f = refl
    one false true false none f = f none
    one false false false none f = f none
