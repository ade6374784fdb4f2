-- What is reported of edges and of a bus, to the byte: examples, computed.
use Rattle.std.proofs.Common.{◌≡◌, ℕ, true, false, List, [], ◌∷◌, ◌++◌, Some, None, refl, codes}
use Rattle.std.specs.Fmt.{digits}
use Rattle.vme_model.specs.Sentences.{all_rules}
use Rattle.vme_model.specs.declared.boards.Row.{Row}
use Rattle.vme_model.specs.declared.boards.IrqKind.{IrqKind}
use Rattle.vme_model.specs.declared.boards.IrqKind.TheVariants.{Roak, Rora}
use Rattle.vme_model.specs.declared.boards.Release.{Release}
use Rattle.vme_model.specs.declared.boards.Release.TheVariants.{Done, Request}
use Rattle.vme_model.specs.declared.boards.ArbiterKind.TheVariants.{Sgl, Pri}
use Rattle.vme_model.specs.declared.sets.Levels.{Levels}
use Rattle.vme_model.specs.declared.signals.Version.TheVariants.{One}
use Rattle.vme_model.specs.declared.signals.Driver.{Driver}
use Rattle.vme_model.specs.declared.signals.Driver.TheVariants.{Controller, Slot}
use Rattle.vme_model.specs.declared.signals.Wire.{Wire}
use Rattle.vme_model.specs.declared.signals.Wire.TheVariants.{Bg, Iack, Berr, Br, BgOut, Bbsy, Addr, AddressStrobe, DataStrobe, Irq, IackOut, Dtack}
use Rattle.vme_model.specs.declared.signals.Cycle.{Cycle}
use Rattle.vme_model.specs.declared.signals.Cycle.TheVariants.{Acknowledge, Access}
use Rattle.vme_model.specs.declared.signals.Edge.{Edge}
use Rattle.vme_model.specs.Sets.{no_levels, with_level}
use Rattle.vme_model.specs.Plan.{Plan}
use Rattle.vme_model.specs.Report.{at_power_up}
use Rattle.vme_model.specs.Verdict.{kept}
use Rattle.vme_model.specs.Numbered.{numbered}
use Rattle.vme_model.specs.Why.{why_text}
use Rattle.vme_model.specs.Stands.{stands_text}

abbrev fall : Driver → Wire → Edge
fall d w = record { driver = d; wire = w; fall = true; value = None }

abbrev rise : Driver → Wire → Edge
rise d w = record { driver = d; wire = w; fall = false; value = None }

abbrev shows : ℕ → Cycle → Edge
shows s cycle = record { driver = Slot s; wire = Addr; fall = true; value = Some cycle }

-- what is reported of an edge after others, and of the bus, in version 1
abbrev told : Plan → ℕ → List Edge → Edge → List ℕ
told p n es e = why_text n (kept (at_power_up One p 100) es) (numbered (at_power_up One p 100) es) e

abbrev stand : Plan → ℕ → List Edge → List ℕ
stand p n es = stands_text n (kept (at_power_up One p 100) es) (numbered (at_power_up One p 100) es)

-- boards with a requester, an interrupter, both, or neither
abbrev bare : ℕ → Row
bare s = record { slot = s; requester = None; interrupter = None; handler = no_levels }

abbrev asking : ℕ → ℕ → Release → Row
asking s level release = record (bare s) { requester = Some (record { level = level; release = release }) }

abbrev calling : Row → ℕ → IrqKind → ℕ → Row
calling r level kind status =
    record r { interrupter = Some (record { level = level; kind = kind; status = status }) }

abbrev handling : Row → Levels → Row
handling r levels = record r { handler = levels }

abbrev four_slots : Plan
four_slots = record {
  slots = 4;
  rows = bare 1 ∷ asking 2 3 (Done 1) ∷ asking 3 3 (Done 1) ∷ asking 4 3 (Done 1) ∷ [];
  jumpers = [];
  arbiter = Sgl;
}

-- two processors, memory, and boards that request the bus, an interrupt or both; slot 6 is empty
abbrev nine_slots : Plan
nine_slots = record {
  slots = 9;
  rows = handling (asking 1 1 Request) (with_level (with_level (with_level (with_level no_levels 1) 2) 3) 4)
      ∷ bare 2
      ∷ calling (asking 3 3 (Done 8)) 3 Rora 48
      ∷ calling (asking 4 3 Request) 4 Roak 80
      ∷ handling (asking 5 1 (Done 4)) (with_level (with_level (with_level no_levels 5) 6) 7)
      ∷ calling (bare 7) 4 Roak 96
      ∷ calling (asking 8 3 (Done 2)) 3 Roak 112
      ∷ calling (bare 9) 6 Rora 64
      ∷ [];
  jumpers = [];
  arbiter = Pri;
}

-- slot 2 takes the bus although it passed the grant on
abbrev before_takes_after_a_pass : List Edge
before_takes_after_a_pass =
    fall (Slot 4) Br ∷ fall Controller (Bg 3) ∷ fall (Slot 2) BgOut ∷ fall (Slot 2) Br
    ∷ fall (Slot 3) Br ∷ fall (Slot 3) BgOut ∷ fall (Slot 3) Bbsy ∷ []

takes_after_a_pass : told four_slots 8 before_takes_after_a_pass (fall (Slot 2) Bbsy) ≡
    codes "8 2 bbsy- E3 G13\n"
    ++ codes "holds own grant-in is low\n"
    ++ codes "    c bg3 low since 2\n"
    ++ codes "fails own bgout is high (profile)\n"
    ++ codes "    2 bgout low since 3\n"
    ++ codes "holds own br is low (profile)\n"
    ++ codes "    2 br low since 4\n"
unfolding digits all_rules
takes_after_a_pass = refl

-- slot 3 leaves before slot 2 has let its part of the chain rise
abbrev before_leaves_under_a_grant : List Edge
before_leaves_under_a_grant =
    fall (Slot 4) Br ∷ fall Controller (Bg 3) ∷ fall (Slot 2) BgOut ∷ fall (Slot 2) Br
    ∷ fall (Slot 3) Br ∷ fall (Slot 3) BgOut ∷ fall (Slot 3) Bbsy ∷ fall (Slot 2) Bbsy
    ∷ fall (Slot 4) Bbsy ∷ rise (Slot 3) Br ∷ rise Controller (Bg 3) ∷ []

leaves_under_a_grant : told four_slots 12 before_leaves_under_a_grant (rise (Slot 3) Bbsy) ≡
    codes "12 3 bbsy+ E3 G14\n"
    ++ codes "holds own br is high (profile)\n"
    ++ codes "    3 br high since 10\n"
    ++ codes "fails own grant-in is high (profile)\n"
    ++ codes "    2 bgout low since 3\n"
    ++ codes "holds own addr is off or own as is low\n"
    ++ codes "    3 addr off\n"
    ++ codes "    3 as high\n"
unfolding digits all_rules
leaves_under_a_grant = refl

-- the bus timer ends an acknowledge that a board can answer
abbrev before_times_out_an_acknowledge : List Edge
before_times_out_an_acknowledge =
    fall (Slot 7) Irq ∷ fall (Slot 1) Br ∷ fall Controller (Bg 1) ∷ fall (Slot 1) Bbsy
    ∷ rise (Slot 1) Br ∷ rise Controller (Bg 1) ∷ shows 1 (Acknowledge 4)
    ∷ fall (Slot 1) AddressStrobe ∷ fall (Slot 1) DataStrobe ∷ fall Controller Iack
    ∷ fall (Slot 3) IackOut ∷ fall (Slot 4) IackOut ∷ []

times_out_an_acknowledge : told nine_slots 13 before_times_out_an_acknowledge (fall Controller Berr) ≡
    codes "13 c berr- E4 S2\n"
    ++ codes "holds DS0* is low\n"
    ++ codes "    1 ds low since 9\n"
    ++ codes "holds DTACK* is high\n"
    ++ codes "fails nobody can answer (profile)\n"
    ++ codes "    1 addr on i4 since 7\n"
    ++ codes "    9 iackout high\n"
unfolding digits all_rules
times_out_an_acknowledge = refl

-- slot 3 lets go of a request that was acknowledged and not accessed
abbrev before_leaves_unserved : List Edge
before_leaves_unserved =
    fall (Slot 3) Irq ∷ fall (Slot 8) Irq ∷ fall (Slot 1) Br ∷ fall Controller (Bg 1)
    ∷ fall (Slot 1) Bbsy ∷ rise (Slot 1) Br ∷ rise Controller (Bg 1) ∷ shows 1 (Acknowledge 3)
    ∷ fall (Slot 1) AddressStrobe ∷ fall (Slot 1) DataStrobe ∷ fall Controller Iack
    ∷ fall (Slot 3) Dtack ∷ rise (Slot 1) DataStrobe ∷ rise (Slot 3) Dtack ∷ rise (Slot 1) Addr
    ∷ rise (Slot 1) AddressStrobe ∷ rise Controller Iack ∷ shows 1 (Acknowledge 3)
    ∷ fall (Slot 1) AddressStrobe ∷ fall (Slot 1) DataStrobe ∷ fall Controller Iack
    ∷ fall (Slot 3) Dtack ∷ rise (Slot 1) DataStrobe ∷ rise (Slot 3) Dtack ∷ []

leaves_unserved : told nine_slots 25 before_leaves_unserved (rise (Slot 3) Irq) ≡
    codes "25 3 irq+ E3 G22\n"
    ++ codes "fails the request was served by an access\n"
    ++ codes "    3 irq low since 1\n"
unfolding digits all_rules
leaves_unserved = refl

-- the grant has passed slot 3 and stands at slot 4
abbrev before_grant_stands_at_4 : List Edge
before_grant_stands_at_4 =
    fall (Slot 8) Br ∷ fall Controller (Bg 3) ∷ fall (Slot 3) BgOut ∷ fall (Slot 3) Br ∷ []

grant_stands_at_4 : stand nine_slots 4 before_grant_stands_at_4 ≡
    codes "after 4 accepted 4\n"
    ++ codes "holder none\n"
    ++ codes "grant bg3 at 4\n"
    ++ codes "shown none\n"
    ++ codes "asks 3 level 3 since 4\n"
    ++ codes "asks 8 level 3 since 1\n"
    ++ codes "low c bg3\n"
    ++ codes "low 3 br, bgout\n"
    ++ codes "low 8 br\n"
    ++ codes "open 1 br-\n"
    ++ codes "open 3 irq-\n"
    ++ codes "open 4 br-, bgout-, irq-\n"
    ++ codes "open 5 br-\n"
    ++ codes "open 7 irq-\n"
    ++ codes "open 8 irq-\n"
    ++ codes "open 9 irq-\n"
unfolding digits
grant_stands_at_4 = refl

-- slot 1 holds the bus after three accesses, and slot 5 requests it
abbrev before_slot_1_holds : List Edge
before_slot_1_holds =
    fall (Slot 1) Br ∷ fall Controller (Bg 1) ∷ fall (Slot 1) Bbsy ∷ rise (Slot 1) Br
    ∷ rise Controller (Bg 1) ∷ fall (Slot 5) Br ∷ shows 1 (Access 2)
    ∷ fall (Slot 1) AddressStrobe ∷ fall (Slot 1) DataStrobe ∷ fall (Slot 2) Dtack
    ∷ rise (Slot 1) DataStrobe ∷ rise (Slot 1) Addr ∷ rise (Slot 1) AddressStrobe
    ∷ rise (Slot 2) Dtack ∷ shows 1 (Access 2) ∷ fall (Slot 1) AddressStrobe
    ∷ fall (Slot 1) DataStrobe ∷ fall (Slot 2) Dtack ∷ rise (Slot 1) DataStrobe
    ∷ rise (Slot 1) Addr ∷ rise (Slot 1) AddressStrobe ∷ rise (Slot 2) Dtack
    ∷ shows 1 (Access 2) ∷ fall (Slot 1) AddressStrobe ∷ fall (Slot 1) DataStrobe
    ∷ fall (Slot 2) Dtack ∷ rise (Slot 1) DataStrobe ∷ rise (Slot 1) Addr
    ∷ rise (Slot 1) AddressStrobe ∷ rise (Slot 2) Dtack ∷ []

slot_1_holds : stand nine_slots 30 before_slot_1_holds ≡
    codes "after 30 accepted 30\n"
    ++ codes "holder 1 since 3\n"
    ++ codes "grant none\n"
    ++ codes "shown none\n"
    ++ codes "asks 5 level 1 since 6\n"
    ++ codes "low 1 bbsy\n"
    ++ codes "low 5 br\n"
    ++ codes "open 1 bbsy+, addr- r1..r21\n"
    ++ codes "open 3 br-, irq-\n"
    ++ codes "open 4 br-, irq-\n"
    ++ codes "open 7 irq-\n"
    ++ codes "open 8 br-, irq-\n"
    ++ codes "open 9 irq-\n"
unfolding digits
slot_1_holds = refl

at_rest : stand four_slots 0 [] ≡
    codes "after 0 accepted 0\n"
    ++ codes "holder none\n"
    ++ codes "grant none\n"
    ++ codes "shown none\n"
    ++ codes "open 2 br-\n"
    ++ codes "open 3 br-\n"
    ++ codes "open 4 br-\n"
unfolding digits
at_rest = refl
