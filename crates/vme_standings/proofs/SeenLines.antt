-- What a line is before and behind an edge, by what the probes see of it.
use Rattle.std.proofs.Common.{◌≡◌, ◌∙◌, refl, sym, ap, subst, ℕ, Bool, true, false, List, ◌∷◌}
use Rattle.std.specs.Prelude.{◌==◌, if◌then◌else◌, Option, Some, None, option_map}
use Rattle.std.specs.Option.{option_map_or, option_and_then}
use Rattle.vme_model.specs.declared.boards.Row.{Row}
use Rattle.vme_model.specs.declared.boards.InterrupterRow.{InterrupterRow}
use Rattle.vme_model.specs.declared.signals.Wire.TheVariants as wire
use Rattle.vme_model.specs.declared.signals.Edge.{Edge}
use Rattle.vme_model.specs.Plan.{Plan, board_of}
use Rattle.vme_model.specs.Accepted.{IsAccepted}
use Rattle.vme_model.specs.History.{line, interrupt_line}
use Rattle.vme_model.proofs.Bools.{never, same_number}
use Rattle.vme_captures.specs.declared.signals.Change.{Change}
use Rattle.vme_captures.specs.declared.signals.Line.{Line}
use Rattle.vme_captures.specs.declared.signals.Line.TheVariants as on_line
use Rattle.vme_captures.specs.declared.signals.Pin.{Pin}
use Rattle.vme_captures.specs.declared.signals.Signal.{Signal}
use Rattle.vme_captures.specs.declared.signals.Signal.TheVariants as signal
use Rattle.vme_captures.specs.Changes.{change_of, differ, is_line_low, is_low, line_of, seen, segment_of, signal_of, signal_on, value_at}
use Rattle.vme_standings.proofs.RequestSteps.{IrqStays, DtackStays, same_driver}
use Rattle.vme_standings.proofs.RequestRows.{on_level_is, irq_fell, irq_rose, dtack_rose}

none_differ : (a b : Bool) (x : Change) → (if differ a b then Some x else None) ≡ None → b ≡ a
none_differ true true x e = refl
none_differ false false x e = refl
none_differ true false x e = absurd (cc)
none_differ false true x e = absurd (cc)

-- the change that would be seen
abbrev change : Plan → List Edge → Edge → Signal → Change
change p h e x = record { signal = x; fall = e.fall; value = value_at p h e e.wire e.fall }

-- an edge that no probe sees leaves its line
pub line_stays : (p : Plan) (pins : List Pin) (h : List Edge) (e : Edge) (l : Line) → line_of e.wire (board_of p e.driver) ≡ Some l → seen p pins h e ≡ None
    → is_line_low p (e ∷ h) l ≡ is_line_low p h l
line_stays p pins h e l is none =
    none_differ (is_line_low p h l) (is_line_low p (e ∷ h) l) (change p h e (signal.Line l))
    (sym (ap (λ (o : Option Line). option_and_then (change_of p h e) (signal_on p pins o (segment_of e.wire (board_of p e.driver)))) is) ∙ none)

irq_of : (o : Option InterrupterRow) (n : ℕ) → option_map_or (λ i. i.level == n) o false ≡ true → option_map (λ i. on_line.Irq i.level) o ≡ Some (on_line.Irq n)
irq_of None n on = absurd (cc)
irq_of (Some i) n on = ap (λ x. Some (on_line.Irq x)) (same_number i.level n on)

pub irq_stays : (p : Plan) (pins : List Pin) (h : List Edge) (e : Edge) → seen p pins h e ≡ None → IrqStays p h e
irq_stays p pins h e none n t is driver on =
    let b = on_level_is p n t on in
    line_stays p pins h e (on_line.Irq n)
    (ap (λ w. line_of w (board_of p e.driver)) is
    ∙ ap (λ d. line_of wire.Irq (board_of p d)) (same_driver e.driver t driver)
    ∙ ap (λ (o : Option Row). line_of wire.Irq o) b.found
    ∙ irq_of b.row.interrupter n b.on)
    none

pub dtack_stays : (p : Plan) (pins : List Pin) (h : List Edge) (e : Edge) → seen p pins h e ≡ None → DtackStays p h e
dtack_stays p pins h e none is = line_stays p pins h e on_line.Dtack (ap (λ w. line_of w (board_of p e.driver)) is) none

-- a change that is seen moves what it names, in the edge's direction
pub record IsSeen (p : Plan) (h : List Edge) (e : Edge) (v : Change) : Type 0 where
  pub differs : differ (is_low p h v.signal) (is_low p (e ∷ h) v.signal) ≡ true
  pub way : e.fall ≡ v.fall

pub is_seen : (p : Plan) (pins : List Pin) (h : List Edge) (e : Edge) (v : Change) → seen p pins h e ≡ Some v → IsSeen p h e v
is_seen p pins h e v s = by_signal (signal_of p pins e) s
  where
    same_some : (a b : Change) → Some a ≡ Some b → a ≡ b
    same_some a b e = cc

    by_level : (x : Signal) (b : Bool) → differ (is_low p h x) (is_low p (e ∷ h) x) ≡ b → (if b then Some (change p h e x) else None) ≡ Some v → IsSeen p h e v
    by_level x true is found =
        let same = same_some (change p h e x) v found in
        record {
          differs = subst (λ y. differ (is_low p h y) (is_low p (e ∷ h) y) ≡ true) (ap (λ (c : Change). c.signal) same) is;
          way = ap (λ (c : Change). c.fall) same;
        }
    by_level x false is found = absurd (cc)

    by_signal : (o : Option Signal) → option_and_then (change_of p h e) o ≡ Some v → IsSeen p h e v
    by_signal None found = absurd (cc)
    by_signal (Some x) found = by_level x (differ (is_low p h x) (is_low p (e ∷ h) x)) refl found

-- so a fall that is seen moves a line from high to low, and a rise from low to high
module _ (p : Plan) (ok : IsAccepted p) (pins : List Pin) (h : List Edge) (e : Edge) (v : Change) (s : seen p pins h e ≡ Some v) where
  pub way : (fall : Bool) → v.fall ≡ fall → e.fall ≡ fall
  way fall is = (is_seen p pins h e v s).way ∙ is

  pub differs : (x : Signal) → v.signal ≡ x → differ (is_low p h x) (is_low p (e ∷ h) x) ≡ true
  differs x is = subst (λ y. differ (is_low p h y) (is_low p (e ∷ h) y) ≡ true) is (is_seen p pins h e v s).differs

  pub irq_falls : (n : ℕ) → v.signal ≡ signal.Line (on_line.Irq n) → v.fall ≡ true → (interrupt_line p h n ≡ false) × (interrupt_line p (e ∷ h) n ≡ true)
  irq_falls n is fall = by_levels (interrupt_line p h n) (interrupt_line p (e ∷ h) n) refl refl (differs (signal.Line (on_line.Irq n)) is)
    where
      by_levels : (a b : Bool) → interrupt_line p h n ≡ a → interrupt_line p (e ∷ h) n ≡ b → differ a b ≡ true → (interrupt_line p h n ≡ false) × (interrupt_line p (e ∷ h) n ≡ true)
      by_levels false true before behind d = (before, behind)
      by_levels true false before behind d = absurd (never (sym (irq_rose p ok h e n before behind).way ∙ way true fall))
      by_levels true true before behind d = absurd (never d)
      by_levels false false before behind d = absurd (never d)

  pub irq_rises : (n : ℕ) → v.signal ≡ signal.Line (on_line.Irq n) → v.fall ≡ false → (interrupt_line p h n ≡ true) × (interrupt_line p (e ∷ h) n ≡ false)
  irq_rises n is fall = by_levels (interrupt_line p h n) (interrupt_line p (e ∷ h) n) refl refl (differs (signal.Line (on_line.Irq n)) is)
    where
      by_levels : (a b : Bool) → interrupt_line p h n ≡ a → interrupt_line p (e ∷ h) n ≡ b → differ a b ≡ true → (interrupt_line p h n ≡ true) × (interrupt_line p (e ∷ h) n ≡ false)
      by_levels true false before behind d = (before, behind)
      by_levels false true before behind d = absurd (never (sym (way false fall) ∙ (irq_fell p ok h e n before behind).way))
      by_levels true true before behind d = absurd (never d)
      by_levels false false before behind d = absurd (never d)

  pub dtack_falls : v.signal ≡ signal.Line on_line.Dtack → v.fall ≡ true → (line p h wire.Dtack ≡ false) × (line p (e ∷ h) wire.Dtack ≡ true)
  dtack_falls is fall = by_levels (line p h wire.Dtack) (line p (e ∷ h) wire.Dtack) refl refl (differs (signal.Line on_line.Dtack) is)
    where
      by_levels : (a b : Bool) → line p h wire.Dtack ≡ a → line p (e ∷ h) wire.Dtack ≡ b → differ a b ≡ true → (line p h wire.Dtack ≡ false) × (line p (e ∷ h) wire.Dtack ≡ true)
      by_levels false true before behind d = (before, behind)
      by_levels true false before behind d = absurd (never (sym (dtack_rose p ok h e before behind).way ∙ way true fall))
      by_levels true true before behind d = absurd (never d)
      by_levels false false before behind d = absurd (never d)
