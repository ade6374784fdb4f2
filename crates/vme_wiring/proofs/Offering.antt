-- What is considered by the stored fields is what is considered after the history.
use Rattle.std.proofs.Common.{◌≡◌, ◌∙◌, refl, ap, arith, Bool, true, false, List, [], ◌∷◌, ◌++◌, map, ℕ, zero, suc}
use Rattle.std.specs.Prelude.{◌&&◌, not, if◌then◌else◌, Option, Some, None, option_map, find, nat_lt, is_some}
use Rattle.std.specs.Option.{option_map_or, option_or, option_to_list}
use Rattle.std.proofs.Math.Path.{fun_ext}
use Rattle.std.proofs.lemmas.Bool.Decides.{nat_tests}
use Rattle.std.proofs.lemmas.List.Folds.{find-append}
use Rattle.vme_model.specs.declared.boards.Row.{Row}
use Rattle.vme_model.specs.declared.pins.Pins.{Pins}
use Rattle.vme_model.specs.declared.signals.Version.{Version}
use Rattle.vme_model.specs.declared.signals.Driver.{Driver}
use Rattle.vme_model.specs.declared.signals.Driver.TheVariants.{Controller, Slot}
use Rattle.vme_model.specs.declared.signals.Wire.{Wire}
use Rattle.vme_model.specs.declared.signals.Wire.TheVariants.{Bg, Bclr, Iack, Berr, Br, BgOut, Bbsy, Addr, AddressStrobe, DataStrobe, Irq, IackOut, Dtack}
use Rattle.vme_model.specs.declared.signals.Cycle.TheVariants.{Acknowledge, Access}
use Rattle.vme_model.specs.declared.signals.Edge.{Edge}
use Rattle.vme_model.specs.Sets.{has_level}
use Rattle.vme_model.specs.Plan.{Plan, board, up_to}
use Rattle.vme_model.specs.History.{drive, interrupt_line}
use Rattle.vme_model.specs.Offers.{wanted, next_board, cycles_of, going_on, turned, considered, irq_descending}
use Rattle.vme_model.proofs.PinSets.{wanted_of_pins}
use Rattle.vme_arbiter.specs.Local.{low}
use Rattle.vme_wiring.specs.Boards.{parts_of, place, low_of}
use Rattle.vme_wiring.specs.Considered.{own_by, wanted_by, next_by, cycles_by, going_on_by, turned_by, considered_by}
use Rattle.vme_wiring.specs.Wired.{IsWiringOf}
use Rattle.vme_wiring.specs.declared.boards.Board.{Board}
use Rattle.vme_wiring.specs.declared.wirings.Wiring.{Wiring}
use Rattle.vme_wiring.proofs.Standing.{stands}
use Rattle.vme_wiring.proofs.Seeing.{own_of_controller, own_of_board, own_of_none}

-- each slot is above 0
pub find_above_zero : (test : ℕ → Bool) (n : ℕ) → find (λ t. nat_lt 0 t && test t) (up_to n) ≡ find test (up_to n)
find_above_zero test zero = refl
find_above_zero test (suc n) =
    let above : nat_lt 0 (suc n) ≡ true = grind (arith, nat_tests) in
    let last : find (λ t. nat_lt 0 t && test t) (suc n ∷ []) ≡ find test (suc n ∷ []) = rw above in
    rw (find-append, find-append, find_above_zero test n, last)

module _ (version : Version) (p : Plan) (h : List Edge) (w : Wiring) (is : IsWiringOf version p h w) where
  own_slot : (s : ℕ) (x : Wire) (o : Option Row) → board p s ≡ o → option_map_or (λ b. low_of b x) (option_map (parts_of version p h) o) false ≡ drive h (Slot s) x
  own_slot s x None found = own_of_none version p h s x is.legal found
  own_slot s x (Some r) found = own_of_board version p h s r (parts_of version p h r) x is.legal found (stands p s r is.accepted found).slot refl

  pub own : (d : Driver) (x : Wire) → own_by w d x ≡ drive h d x
  own Controller x = ap (λ a. low a.1 x) is.arbiter ∙ own_of_controller version p h x is.legal
  own (Slot s) x = ap (λ o. option_map_or (λ b. low_of b x) o false) (is.boards s) ∙ own_slot s x (board p s) refl

  wants : (r : Row) → wanted_by w r ≡ wanted p h r
  wants r = ap (λ (x : Pins). find (λ v. has_level r.handler v && has_level x.irq v) irq_descending) is.shared ∙ wanted_of_pins r.handler (interrupt_line p h)

  some_parts : (o : Option Row) → is_some (option_map (parts_of version p h) o) ≡ is_some o
  some_parts None = refl
  some_parts (Some r) = refl

  has_board : (t : ℕ) → is_some (place w.boards t) ≡ is_some (board p t)
  has_board t = ap (λ o. is_some o) (is.boards t) ∙ some_parts (board p t)

  next : (s : ℕ) → next_by w s ≡ next_board p s
  next s =
      let same : (λ (t : ℕ). is_some (place w.boards t)) ≡ (λ t. is_some (board p t)) = fun_ext has_board in
      ap (λ (f : ℕ → Bool). option_or (find (λ t. nat_lt s t && f t) (up_to w.slots)) (find f (up_to w.slots))) same
      ∙ ap (λ n. option_or (find (λ t. nat_lt s t && is_some (board p t)) (up_to n)) (find (λ t. is_some (board p t)) (up_to n))) is.slots

  cycles : (r : Row) → cycles_by w r ≡ cycles_of p h r
  cycles r =
      ap (λ o. option_to_list (option_map (λ v. Acknowledge v) o) ++ option_to_list (option_map (λ t. Access t) (next_by w r.slot))) (wants r)
      ∙ ap (λ o. option_to_list (option_map (λ v. Acknowledge v) (wanted p h r)) ++ option_to_list (option_map (λ t. Access t) o)) (next r.slot)

  going_slot : (s : ℕ) (o : Option Row) → option_map_or {T = Board} {U = List Edge} (λ b. map (λ c. record { driver = Slot s; wire = Addr; fall = true; value = Some c }) (cycles_by w b.row)) (option_map (parts_of version p h) o) [] ≡ option_map_or (λ r. map (λ c. record { driver = Slot s; wire = Addr; fall = true; value = Some c }) (cycles_of p h r)) o []
  going_slot s None = refl
  going_slot s (Some r) = ap (λ cs. map (λ c. record { driver = Slot s; wire = Addr; fall = true; value = Some c }) cs) (cycles r)

  going : (d : Driver) → going_on_by w d ≡ going_on p h d
  going Controller = refl
  going (Slot s) = ap (λ (o : Option Board). option_map_or {T = Board} {U = List Edge} (λ b. map (λ c. record { driver = Slot s; wire = Addr; fall = true; value = Some c }) (cycles_by w b.row)) o []) (is.boards s) ∙ going_slot s (board p s)

  pub turns : (d : Driver) (x : Wire) → turned_by w d x ≡ turned h d x
  turns d x = let f : Bool → Edge = λ b. record { driver = d; wire = x; fall = not b; value = None } in ap f (own d x)

  one_edge : (d : Driver) (x : Wire) → turned_by w d x ∷ [] ≡ turned h d x ∷ []
  one_edge d x = ap (λ e. e ∷ []) (turns d x)

  pub considers : (d : Driver) (x : Wire) → considered_by w d x ≡ considered p h d x
  considers d Addr =
      ap (λ b. if b then turned_by w d Addr ∷ [] else going_on_by w d) (own d Addr)
      ∙ ap (λ es. if drive h d Addr then es else going_on_by w d) (one_edge d Addr)
      ∙ ap (λ es. if drive h d Addr then turned h d Addr ∷ [] else es) (going d)
  considers d (Bg n) = one_edge d (Bg n)
  considers d Bclr = one_edge d Bclr
  considers d Iack = one_edge d Iack
  considers d Berr = one_edge d Berr
  considers d Br = one_edge d Br
  considers d BgOut = one_edge d BgOut
  considers d Bbsy = one_edge d Bbsy
  considers d AddressStrobe = one_edge d AddressStrobe
  considers d DataStrobe = one_edge d DataStrobe
  considers d Irq = one_edge d Irq
  considers d IackOut = one_edge d IackOut
  considers d Dtack = one_edge d Dtack
