-- Every wire that is named for a condition has a word.
use Rattle.std.proofs.Common.{◌≡◌, ◌<◌, ℕ, Bool, true, false, List, [], ◌∷◌, ◌++◌, map, filter, get_or, arith}
use Rattle.std.specs.Prelude.{◌&&◌, if◌then◌else◌, Option, Some, None, option_map, nat_lt}
use Rattle.std.specs.Option.{option_map_or, option_and_then, option_to_list}
use Rattle.std.specs.List.{All}
use Rattle.std.proofs.lemmas.Bool.{and_parts}
use Rattle.std.proofs.lemmas.Bool.Decides.{nat_tests}
use Rattle.std.proofs.lemmas.List.Elements.{All-nil, All-cons, All-append, All-filter, All-map}
use Rattle.vme_model.specs.declared.boards.InterrupterRow.{InterrupterRow}
use Rattle.vme_model.specs.declared.boards.RequesterRow.{RequesterRow}
use Rattle.vme_model.specs.declared.boards.Release.{Release}
use Rattle.vme_model.specs.declared.boards.Release.TheVariants.{Done, Request}
use Rattle.vme_model.specs.declared.boards.Row.{Row}
use Rattle.vme_model.specs.declared.conditions.Condition.{Condition}
use Rattle.vme_model.specs.declared.conditions.Condition.TheVariants as condition
use Rattle.vme_model.specs.declared.sets.ChainId.{ChainId}
use Rattle.vme_model.specs.declared.sets.ChainId.TheVariants as chain
use Rattle.vme_model.specs.declared.signals.Driver.{Driver}
use Rattle.vme_model.specs.declared.signals.Driver.TheVariants.{Controller, Slot}
use Rattle.vme_model.specs.declared.signals.Edge.{Edge}
use Rattle.vme_model.specs.declared.signals.Wire.{Wire}
use Rattle.vme_model.specs.declared.signals.Wire.TheVariants.{Bg, Bclr, Iack, Berr, Br, BgOut, Bbsy, Addr, AddressStrobe, DataStrobe, Irq, IackOut, Dtack}
use Rattle.vme_model.specs.declared.witnesses.Witness.{Witness}
use Rattle.vme_model.specs.declared.witnesses.Witness.TheVariants as witness
use Rattle.vme_model.specs.Signals.{grant_level, has_wire, has_value, is_acknowledge, is_well_formed}
use Rattle.vme_model.specs.Plan.{board_of, interrupts_on, upstream, last_active, grant_chain, has_driver, drivers}
use Rattle.vme_model.specs.History.{drive, addressing, shown}
use Rattle.vme_model.specs.Numbered.{Numbered, served_since, strobed_at}
use Rattle.vme_model.specs.Rules.{bus_numbers}
use Rattle.vme_model.specs.Spoken.{level_of}
use Rattle.vme_model.specs.Text.{HasWord}
use Rattle.vme_model.specs.Verdict.{State}
use Rattle.vme_model.specs.Witnesses.{requester_of, interrupter_of, wire_at, seen, own, holds_low, low, low_grants, requests, granted, picked, interrupts, segment_at, grant_input, acknowledge_input, last_segment, addressed, cycles_of, strobe, service, pending_at, own_witnesses, witnesses_of}
use Rattle.vme_explain.specs.Blocks.{IsSpoken}

abbrev AreSpoken : List Witness → Type 0
AreSpoken ws = All IsSpoken ws

none : AreSpoken []
none = All-nil IsSpoken

with : (w : Witness) (ws : List Witness) → IsSpoken w → AreSpoken ws → AreSpoken (w ∷ ws)
with w ws h hs = All-cons IsSpoken w ws h hs

one : (w : Witness) → IsSpoken w → AreSpoken (w ∷ [])
one w h = with w [] h none

both : (ws vs : List Witness) → AreSpoken ws → AreSpoken vs → AreSpoken (ws ++ vs)
both ws vs h hs = All-append IsSpoken ws vs h hs

if_true : (b : Bool) (ws : List Witness) → AreSpoken ws → AreSpoken (if b then ws else [])
if_true true ws h = h
if_true false ws h = none

each : {X : Type 0} (f : X → Witness) (xs : List X) → ((x : X) → IsSpoken (f x)) → AreSpoken (map f xs)
each {X} f xs h = All-map IsSpoken f xs (λ i d _. h (get_or xs i d))

maybe : {X : Type 0} (f : X → Witness) (o : Option X) → ((x : X) → IsSpoken (f x)) → AreSpoken (option_to_list (option_map f o))
maybe {X} f None h = none
maybe {X} f (Some x) h = one (f x) (h x)

maybe_in : {X Y : Type 0} (part : X → Option Y) (f : X → Y → Witness) (o : Option X) → ((x : X) (y : Y) → IsSpoken (f x y))
    → AreSpoken (option_to_list (option_and_then (λ x. option_map (λ y. f x y) (part x)) o))
maybe_in {X} {Y} part f None h = none
maybe_in {X} {Y} part f (Some x) h = maybe (f x) (part x) (h x)

below_four : (n : ℕ) → nat_lt n 4 ≡ true → n < 4
below_four n h = grind (arith, nat_tests)

has_word : (d : Driver) (w : Wire) → has_wire d w ≡ true → HasWord w
has_word Controller (Bg n) h = below_four n h
has_word (Slot s) (Bg n) h = absurd (cc)
has_word d Bclr h = tt
has_word d Iack h = tt
has_word d Berr h = tt
has_word d Br h = tt
has_word d BgOut h = tt
has_word d Bbsy h = tt
has_word d Addr h = tt
has_word d AddressStrobe h = tt
has_word d DataStrobe h = tt
has_word d Irq h = tt
has_word d IackOut h = tt
has_word d Dtack h = tt

module _ (b : State) (k : Numbered) where
  wire_spoken : (d : Driver) (w : Wire) (level : Option ℕ) → HasWord w → IsSpoken (wire_at b k d w level)
  wire_spoken d Addr level h = tt
  wire_spoken d w level h = h

  own_spoken : (d : Driver) (w : Wire) → HasWord w → AreSpoken (own b k d w)
  own_spoken d w h = if_true (has_driver b.plan d w) (seen b k d w ∷ []) (one (seen b k d w) (wire_spoken d w None h))

  low_spoken : (w : Wire) → HasWord w → AreSpoken (low b k w)
  low_spoken w h = each (λ d. seen b k d w) (filter (holds_low b w) (drivers b.plan)) (λ d. wire_spoken d w None h)

  grant_spoken : (n : ℕ) → n < 4 → IsSpoken (seen b k Controller (Bg n))
  grant_spoken n h = h

  four_below : All (λ n. IsSpoken (seen b k Controller (Bg n))) bus_numbers
  four_below =
      let P = λ (n : ℕ). IsSpoken (seen b k Controller (Bg n)) in
      All-cons P 0 (1 ∷ 2 ∷ 3 ∷ []) (grant_spoken 0 (omega arith))
      (All-cons P 1 (2 ∷ 3 ∷ []) (grant_spoken 1 (omega arith))
      (All-cons P 2 (3 ∷ []) (grant_spoken 2 (omega arith))
      (All-cons P 3 [] (grant_spoken 3 (omega arith)) (All-nil P))))

  low_grants_spoken : AreSpoken (low_grants b k)
  low_grants_spoken =
      All-map IsSpoken (λ n. seen b k Controller (Bg n)) (filter (λ n. drive b.history Controller (Bg n)) bus_numbers)
      (All-filter (λ n. drive b.history Controller (Bg n)) (λ n. IsSpoken (seen b k Controller (Bg n))) bus_numbers four_below)

  requests_spoken : AreSpoken (requests b k)
  requests_spoken = each (λ d. wire_at b k d Br (option_map (λ q. q.level) (requester_of b d))) (filter (holds_low b Br) (drivers b.plan)) (λ d. tt)

  interrupts_spoken : (level : ℕ) → AreSpoken (interrupts b k level)
  interrupts_spoken level =
      each (λ d. seen b k d Irq) (filter (λ d. option_map_or (interrupts_on level) (board_of b.plan d) false && drive b.history d Irq) (drivers b.plan)) (λ d. tt)

  head_spoken : (c : ChainId) → IsSpoken (segment_at b k c None)
  head_spoken chain.Bg0 = grant_spoken 0 (omega arith)
  head_spoken chain.Bg1 = grant_spoken 1 (omega arith)
  head_spoken chain.Bg2 = grant_spoken 2 (omega arith)
  head_spoken chain.Bg3 = grant_spoken 3 (omega arith)
  head_spoken chain.Iack = tt

  out_spoken : (c : ChainId) (s : ℕ) → IsSpoken (segment_at b k c (Some s))
  out_spoken chain.Bg0 s = tt
  out_spoken chain.Bg1 s = tt
  out_spoken chain.Bg2 s = tt
  out_spoken chain.Bg3 s = tt
  out_spoken chain.Iack s = tt

  segment_spoken : (c : ChainId) (at : Option ℕ) → IsSpoken (segment_at b k c at)
  segment_spoken c None = head_spoken c
  segment_spoken c (Some s) = out_spoken c s

  grant_input_spoken : (d : Driver) → AreSpoken (grant_input b k d)
  grant_input_spoken d =
      maybe_in (λ (r : Row). r.requester) (λ (r : Row) (q : RequesterRow). segment_at b k (grant_chain q.level) (upstream b.plan (grant_chain q.level) r.slot)) (board_of b.plan d)
      (λ r q. segment_spoken (grant_chain q.level) (upstream b.plan (grant_chain q.level) r.slot))

  acknowledge_input_spoken : (d : Driver) → AreSpoken (acknowledge_input b k d)
  acknowledge_input_spoken d =
      maybe_in (λ (r : Row). r.interrupter) (λ (r : Row) (i : InterrupterRow). segment_at b k chain.Iack (upstream b.plan chain.Iack r.slot)) (board_of b.plan d)
      (λ r i. segment_spoken chain.Iack (upstream b.plan chain.Iack r.slot))

  addressed_spoken : AreSpoken (addressed b k)
  addressed_spoken = maybe (λ (s : ℕ). seen b k (Slot s) Addr) (addressing b.plan b.history) (λ s. tt)

  cycles_spoken : (d : Driver) (release : Release) → AreSpoken (cycles_of b d release)
  cycles_spoken d (Done burst) = one _ tt
  cycles_spoken d Request = none

  bursts_by : (d : Driver) (q : Option RequesterRow) → AreSpoken (option_map_or (λ q. cycles_of b d q.release) q [])
  bursts_by d None = none
  bursts_by d (Some q) = cycles_spoken d q.release

  strobe_spoken : (d : Driver) → AreSpoken (strobe k d)
  strobe_spoken d = maybe (λ (n : ℕ). witness.Strobed d n) (strobed_at k d) (λ n. tt)

  service_spoken : (d : Driver) → AreSpoken (service b k d)
  service_spoken d =
      if_true (drive b.history d Irq) (option_to_list (option_map (λ n. witness.Served d n) (option_and_then (λ i. served_since b.plan k d i.kind) (interrupter_of b d))))
      (maybe (λ (n : ℕ). witness.Served d n) (option_and_then (λ i. served_since b.plan k d i.kind) (interrupter_of b d)) (λ n. tt))

  pending_spoken : (d : Driver) → AreSpoken (pending_at b k d)
  pending_spoken d =
      both (option_to_list (option_map (λ i. wire_at b k d Irq (Some i.level)) (interrupter_of b d))) (service b k d)
      (maybe (λ (i : InterrupterRow). wire_at b k d Irq (Some i.level)) (interrupter_of b d) (λ i. tt)) (service_spoken d)

  all_own_spoken : (d : Driver) (c : Condition) → AreSpoken (own_witnesses b k d c)
  all_own_spoken d condition.GrantInHigh = grant_input_spoken d
  all_own_spoken d condition.GrantInLow = grant_input_spoken d
  all_own_spoken d condition.AcknowledgeInLow = acknowledge_input_spoken d
  all_own_spoken d condition.OwnRequestHigh = own_spoken d Br tt
  all_own_spoken d condition.OwnRequestLow = own_spoken d Br tt
  all_own_spoken d condition.OwnGrantOutHigh = own_spoken d BgOut tt
  all_own_spoken d condition.OwnBusyHigh = own_spoken d Bbsy tt
  all_own_spoken d condition.OwnBusyLow = own_spoken d Bbsy tt
  all_own_spoken d condition.OwnAddressOn = own_spoken d Addr tt
  all_own_spoken d condition.OwnAddressOff = own_spoken d Addr tt
  all_own_spoken d condition.AddressFree = both (own b k d Addr) (own b k d AddressStrobe) (own_spoken d Addr tt) (own_spoken d AddressStrobe tt)
  all_own_spoken d condition.OwnAddressStrobeLow = own_spoken d AddressStrobe tt
  all_own_spoken d condition.OwnDataStrobeHigh = own_spoken d DataStrobe tt
  all_own_spoken d condition.OwnAcknowledgeOutHigh = own_spoken d IackOut tt
  all_own_spoken d condition.OwnDtackHigh = own_spoken d Dtack tt
  all_own_spoken d condition.Strobed = strobe_spoken d
  all_own_spoken d condition.NotStrobed = strobe_spoken d
  all_own_spoken d condition.WithinBurst = bursts_by d (requester_of b d)
  all_own_spoken d condition.Served = both (own b k d Irq) (service b k d) (own_spoken d Irq tt) (service_spoken d)
  all_own_spoken d condition.Pending = pending_spoken d
  all_own_spoken d condition.NotPending = pending_spoken d
  all_own_spoken d c = none

  granted_spoken : (ws : List Witness) → AreSpoken ws → AreSpoken (granted b k ∷ ws)
  granted_spoken ws h = with (granted b k) ws tt h

  pub spoken : (e : Edge) (c : Condition) → is_well_formed e ≡ true → AreSpoken (witnesses_of b k e c)
  spoken e condition.GrantsHigh well = low_grants_spoken
  spoken e condition.Picked well =
      both (requests b k) (granted b k ∷ picked b ∷ []) requests_spoken (granted_spoken (picked b ∷ []) (one (picked b) tt))
  spoken e condition.HigherAsked well = both (requests b k) (granted b k ∷ []) requests_spoken (granted_spoken [] none)
  spoken e condition.ClearNotDue well =
      both ((low b k Bbsy ++ low_grants b k) ++ requests b k) (granted b k ∷ [])
      (both (low b k Bbsy ++ low_grants b k) (requests b k) (both (low b k Bbsy) (low_grants b k) (low_spoken Bbsy tt) low_grants_spoken) requests_spoken)
      (granted_spoken [] none)
  spoken e condition.BusyHigh well = low_spoken Bbsy tt
  spoken e condition.BusyLow well = low_spoken Bbsy tt
  spoken e condition.AddressStrobeHigh well = low_spoken AddressStrobe tt
  spoken e condition.AddressStrobeLow well = low_spoken AddressStrobe tt
  spoken e condition.DataStrobeHigh well = low_spoken DataStrobe tt
  spoken e condition.DataStrobeLow well = low_spoken DataStrobe tt
  spoken e condition.DtackHigh well = low_spoken Dtack tt
  spoken e condition.BerrHigh well = low_spoken Berr tt
  spoken e condition.Answered well = both (low b k Berr) (low b k Dtack) (low_spoken Berr tt) (low_spoken Dtack tt)
  spoken e condition.AcknowledgeShown well = addressed_spoken
  spoken e condition.CycleShown well = addressed_spoken
  spoken e condition.OwnSlotShown well = addressed_spoken
  spoken e condition.Asked well = low_spoken Br tt
  spoken e condition.InterruptLow well = interrupts_spoken (level_of e.value)
  spoken e condition.ChainHigh well = both (low b k Iack) (low b k IackOut) (low_spoken Iack tt) (low_spoken IackOut tt)
  spoken e condition.NobodyCanAnswer well =
      both (addressed b k) (if is_acknowledge (shown b.plan b.history) then last_segment b k chain.Iack ∷ [] else []) addressed_spoken
      (if_true (is_acknowledge (shown b.plan b.history)) (last_segment b k chain.Iack ∷ []) (one (last_segment b k chain.Iack) (segment_spoken chain.Iack (last_active b.plan chain.Iack))))
  spoken e condition.PassedTheLastBoard well =
      one (last_segment b k (grant_chain (grant_level e.wire))) (segment_spoken (grant_chain (grant_level e.wire)) (last_active b.plan (grant_chain (grant_level e.wire))))
  spoken e condition.GrantsThrough well = low_spoken BgOut tt
  spoken e condition.OtherState well =
      one (seen b k e.driver e.wire) (wire_spoken e.driver e.wire None (has_word e.driver e.wire (and_parts (has_wire e.driver e.wire) (has_value e.wire e.fall e.value) well).0))
  spoken e c well = all_own_spoken e.driver c
