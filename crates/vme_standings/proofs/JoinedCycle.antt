-- What is known of a cycle, behind an edge: what is shown, and whether DS* fell.
use Rattle.std.proofs.Common.{◌≡◌, ◌∙◌, refl, sym, subst, ℕ, Bool, true, false, List, [], ◌∷◌}
use Rattle.std.specs.Prelude.{not, Option, Some, None}
use Rattle.vme_model.specs.declared.signals.Version.{Version}
use Rattle.vme_model.specs.declared.signals.Cycle.{Cycle}
use Rattle.vme_model.specs.declared.signals.Driver.{Driver}
use Rattle.vme_model.specs.declared.signals.Driver.TheVariants.{Controller, Slot}
use Rattle.vme_model.specs.declared.signals.Wire.{Wire}
use Rattle.vme_model.specs.declared.signals.Wire.TheVariants as wire
use Rattle.vme_model.specs.declared.signals.Edge.{Edge}
use Rattle.vme_model.specs.Signals.{has_value}
use Rattle.vme_model.specs.Plan.{Plan}
use Rattle.vme_model.specs.Accepted.{IsAccepted}
use Rattle.vme_model.specs.History.{drive, line, shown}
use Rattle.vme_model.specs.Verdict.{IsLegal}
use Rattle.vme_model.proofs.Bools.{and_left, and_right, not_true}
use Rattle.vme_model.proofs.AllowedEdges.{all_passed}
use Rattle.vme_model.proofs.CyclePhases.{Quiet, Fresh, Asking, Done}
use Rattle.vme_model.proofs.Cycles.{Going, going_of, line_from}
use Rattle.vme_model.proofs.Ranges.{in_range}
use Rattle.vme_histories.proofs.Addressing.{one_addresses, showing}
use Rattle.vme_histories.proofs.AllowedBoards.{at, driven, own_after, stands}
use Rattle.vme_histories.proofs.Drivers.{standing}
use Rattle.vme_captures.specs.declared.signals.Line.TheVariants as on_line
use Rattle.vme_captures.specs.declared.signals.Pin.{Pin}
use Rattle.vme_captures.specs.Changes.{seen}
use Rattle.vme_standings.specs.declared.standings.Shown.{Shown}
use Rattle.vme_standings.specs.Covers.{KnowsShown, KnowsStrobed}
use Rattle.vme_standings.proofs.JoinedLevels.{drive_shrinks, lines_stay}
use Rattle.vme_standings.proofs.Tests.{never}
use Rattle.vme_standings.proofs.WhoDrives.{line_shows}

-- one board at a time drives AS*, and one DS*, within its AS* and with its address on
module _ (p : Plan) (h : List Edge) where
  pub strobe_alone : Going p h → (s t : ℕ) → drive h (Slot s) wire.AddressStrobe ≡ true → drive h (Slot t) wire.AddressStrobe ≡ true → s ≡ t
  strobe_alone (Quiet, i) s t a b = absurd (never (drive h (Slot s) wire.AddressStrobe) a (i.strobe_high s))
  strobe_alone (Fresh m, i) s t a b = i.opened.strobe_only s a ∙ sym (i.opened.strobe_only t b)
  strobe_alone (Asking m g hi, i) s t a b = i.opened.strobe_only s a ∙ sym (i.opened.strobe_only t b)
  strobe_alone (Done m, i) s t a b = i.opened.strobe_only s a ∙ sym (i.opened.strobe_only t b)

  pub data_alone : Going p h → (s t : ℕ) → drive h (Slot s) wire.DataStrobe ≡ true → drive h (Slot t) wire.DataStrobe ≡ true → s ≡ t
  data_alone (Quiet, i) s t a b = absurd (never (drive h (Slot s) wire.DataStrobe) a (i.dstrobe_high s))
  data_alone (Fresh m, i) s t a b = absurd (never (drive h (Slot s) wire.DataStrobe) a (i.dstrobe_high s))
  data_alone (Asking m g hi, i) s t a b = i.dstrobe_only s a ∙ sym (i.dstrobe_only t b)
  data_alone (Done m, i) s t a b = absurd (never (drive h (Slot s) wire.DataStrobe) a (i.dstrobe_high s))

  pub data_within : Going p h → (s : ℕ) → drive h (Slot s) wire.DataStrobe ≡ true → (drive h (Slot s) wire.AddressStrobe ≡ true) × (drive h (Slot s) wire.Addr ≡ true)
  data_within (Quiet, i) s a = absurd (never (drive h (Slot s) wire.DataStrobe) a (i.dstrobe_high s))
  data_within (Fresh m, i) s a = absurd (never (drive h (Slot s) wire.DataStrobe) a (i.dstrobe_high s))
  data_within (Asking m g hi, i) s a =
      let same = sym (i.dstrobe_only s a) in
      (subst (λ t. drive h (Slot t) wire.AddressStrobe ≡ true) same i.opened.strobe_low, subst (λ t. drive h (Slot t) wire.Addr ≡ true) same i.group_on)
  data_within (Done m, i) s a = absurd (never (drive h (Slot s) wire.DataStrobe) a (i.dstrobe_high s))

no_value : (v : Option Cycle) → has_value wire.Addr false v ≡ true → v ≡ None
no_value None e = refl
no_value (Some c) e = absurd (cc)

some_value : (v : Option Cycle) → has_value wire.Addr true v ≡ true → (c : Cycle) × (v ≡ Some c)
some_value None e = absurd (cc)
some_value (Some c) e = (c, refl)

module _ (version : Version) (p : Plan) (ok : IsAccepted p) where
  pub goes : (h : List Edge) → IsLegal version p h → Going p h
  goes h legal = going_of version p (in_range p ok) h legal

  pub driven_by : (h : List Edge) (w : Wire) → line p h w ≡ true → (s : ℕ) × (drive h (Slot s) w ≡ true)
  driven_by h w low = line_from p (in_range p ok) h w low

  -- what an edge of an address group shows
  shows_after : (h : List Edge) (s : ℕ) (fall : Bool) (v : Option Cycle) → IsLegal version p (at s wire.Addr fall v ∷ h) → (shown p (at s wire.Addr fall v ∷ h) ≡ v)
      × (has_value wire.Addr fall v ≡ true)
  shows_after h s fall v legal =
      let b = standing version p h s (at s wire.Addr fall v) legal.0 refl in
      let d = driven version p h s b.row wire.Addr fall v b.found legal.0 in
      ((showing version p h s b.row fall v ok legal.1 legal.0 (stands p s b.row ok b.found) d).shown, d.value)

  -- while an address group is on, something is shown
  pub shows_some : (h : List Edge) → IsLegal version p h → (s : ℕ) → drive h (Slot s) wire.Addr ≡ true → (c : Cycle) × (shown p h ≡ Some c)
  shows_some [] legal s on = absurd (cc)
  shows_some (e ∷ h) legal s on = by_edge e.driver e.wire e.fall e.value legal on (shows_some h legal.1 s)
    where
      by_edge : (d : Driver) (w : Wire) (fall : Bool) (v : Option Cycle) → (let x : Edge = record { driver = d; wire = w; fall = fall; value = v } in
          IsLegal version p (x ∷ h) → drive (x ∷ h) (Slot s) wire.Addr ≡ true → (drive h (Slot s) wire.Addr ≡ true → (c : Cycle) × (shown p h ≡ Some c)) → (c : Cycle) × (shown p (x ∷ h) ≡ Some c))
      by_edge (Slot t) wire.Addr true v l o before =
          let a = shows_after h t true v l in
          let c = some_value v a.1 in
          (c.0, a.0 ∙ c.1)
      by_edge (Slot t) wire.Addr false v l o before =
          let was : drive h (Slot t) wire.Addr ≡ true = (all_passed version p h (Slot t) wire.Addr false v l.0).before in
          let on_now : drive h (Slot s) wire.Addr ≡ true = drive_shrinks h (at t wire.Addr false v) (Slot s) wire.Addr refl o in
          let same : s ≡ t = one_addresses version p h ok l.1 s t on_now was in
          absurd (never (drive (at t wire.Addr false v ∷ h) (Slot s) wire.Addr) o (own_after h t s wire.Addr false v same))
      by_edge Controller wire.Addr fall v l o before = absurd (cc (all_passed version p h Controller wire.Addr fall v l.0).wire)
      by_edge d w fall v l o before = before o

  -- while DS* is low a cycle is shown, and AS* is low
  pub record IsAsked (h : List Edge) : Type 0 where
    pub cycle : Cycle
    pub shows : shown p h ≡ Some cycle
    pub strobe : line p h wire.AddressStrobe ≡ true

  pub is_asked : (h : List Edge) → IsLegal version p h → line p h wire.DataStrobe ≡ true → IsAsked h
  is_asked h legal low =
      let s = driven_by h wire.DataStrobe low in
      let w = data_within p h (goes h legal) s.0 s.1 in
      let c = shows_some h legal s.0 w.1 in
      record { cycle = c.0; shows = c.1; strobe = line_shows version p ok h legal s.0 wire.AddressStrobe w.0 }

  -- a wire that one board at a time drives does not rise and leave its line
  no_rise : (h : List Edge) (w : Wire) (s : ℕ) (v : Option Cycle) → IsLegal version p (at s w false v ∷ h) → ((t : ℕ) → drive h (Slot s) w ≡ true → drive h (Slot t) w ≡ true → s ≡ t)
      → line p (at s w false v ∷ h) w ≡ line p h w → ⊥
  no_rise h w s v l alone stays =
      let was : drive h (Slot s) w ≡ true = (all_passed version p h (Slot s) w false v l.0).before in
      let t = driven_by (at s w false v ∷ h) w (stays ∙ line_shows version p ok h l.1 s w was) in
      let same = alone t.0 was (drive_shrinks h (at s w false v) (Slot t.0) w refl t.1) in
      never (drive (at s w false v ∷ h) (Slot t.0) w) t.1 (own_after h s t.0 w false v (sym same))

  -- each edge of AS* and of DS* moves its line
  pub strobe_is_seen : (pins : List Pin) (h : List Edge) (e : Edge) → IsLegal version p (e ∷ h) → seen p pins h e ≡ None → e.wire ≡ wire.AddressStrobe → ⊥
  strobe_is_seen pins h e legal none is = by_edge e.driver e.wire e.fall e.value legal (lines_stay p ok h e pins none on_line.AddressStrobe) is
    where
      by_edge : (d : Driver) (w : Wire) (fall : Bool) (v : Option Cycle) → (let x : Edge = record { driver = d; wire = w; fall = fall; value = v } in
          IsLegal version p (x ∷ h) → line p (x ∷ h) wire.AddressStrobe ≡ line p h wire.AddressStrobe → w ≡ wire.AddressStrobe → ⊥)
      by_edge (Slot s) wire.AddressStrobe true v l stays same =
          let rule = (all_passed version p h (Slot s) wire.AddressStrobe true v l.0).rule in
          never (line p h wire.AddressStrobe)
          (sym stays ∙ line_shows version p ok (at s wire.AddressStrobe true v ∷ h) l s wire.AddressStrobe (own_after h s s wire.AddressStrobe true v refl))
          (not_true (line p h wire.AddressStrobe) (and_right (drive h (Slot s) wire.Addr) (not (line p h wire.AddressStrobe)) rule))
      by_edge (Slot s) wire.AddressStrobe false v l stays same =
          no_rise h wire.AddressStrobe s v l (λ t a b. strobe_alone p h (goes h l.1) s t a b) stays
      by_edge Controller wire.AddressStrobe fall v l stays same = absurd (cc (all_passed version p h Controller wire.AddressStrobe fall v l.0).wire)
      by_edge d w fall v l stays same = absurd (cc)

  pub data_is_seen : (pins : List Pin) (h : List Edge) (e : Edge) → IsLegal version p (e ∷ h) → seen p pins h e ≡ None → e.wire ≡ wire.DataStrobe → ⊥
  data_is_seen pins h e legal none is = by_edge e.driver e.wire e.fall e.value legal (lines_stay p ok h e pins none on_line.DataStrobe) is
    where
      by_edge : (d : Driver) (w : Wire) (fall : Bool) (v : Option Cycle) → (let x : Edge = record { driver = d; wire = w; fall = fall; value = v } in
          IsLegal version p (x ∷ h) → line p (x ∷ h) wire.DataStrobe ≡ line p h wire.DataStrobe → w ≡ wire.DataStrobe → ⊥)
      by_edge (Slot s) wire.DataStrobe true v l stays same =
          let passed = all_passed version p h (Slot s) wire.DataStrobe true v l.0 in
          let strobe : drive h (Slot s) wire.AddressStrobe ≡ true = and_left _ (drive h (Slot s) wire.Addr) (and_left _ _ (and_left _ _ (and_left _ _ passed.rule))) in
          let low : line p h wire.DataStrobe ≡ true = sym stays ∙ line_shows version p ok (at s wire.DataStrobe true v ∷ h) l s wire.DataStrobe (own_after h s s wire.DataStrobe true v refl) in
          let t = driven_by h wire.DataStrobe low in
          let one = strobe_alone p h (goes h l.1) t.0 s (data_within p h (goes h l.1) t.0 t.1).0 strobe in
          never (drive h (Slot s) wire.DataStrobe) (subst (λ x. drive h (Slot x) wire.DataStrobe ≡ true) one t.1) passed.before
      by_edge (Slot s) wire.DataStrobe false v l stays same = no_rise h wire.DataStrobe s v l (λ t a b. data_alone p h (goes h l.1) s t a b) stays
      by_edge Controller wire.DataStrobe fall v l stays same = absurd (cc (all_passed version p h Controller wire.DataStrobe fall v l.0).wire)
      by_edge d w fall v l stays same = absurd (cc)

  -- an edge that is not of AS* leaves what is known to be shown
  pub shown_kept : (h : List Edge) (e : Edge) (x : Option Shown) → IsLegal version p (e ∷ h) → (e.wire ≡ wire.AddressStrobe → ⊥) → KnowsShown p h x → KnowsShown p (e ∷ h) x
  shown_kept h e x legal other k = by_edge e.driver e.wire e.fall e.value legal other
    where
      by_edge : (d : Driver) (w : Wire) (fall : Bool) (v : Option Cycle) → (let y : Edge = record { driver = d; wire = w; fall = fall; value = v } in
          IsLegal version p (y ∷ h) → (w ≡ wire.AddressStrobe → ⊥) → KnowsShown p (y ∷ h) x)
      by_edge d wire.AddressStrobe fall v l o = absurd (o refl)
      by_edge (Slot s) wire.Addr true v l o = record {
        high = k.high;
        low = k.low;
        shown = λ c low is.
            let rule = (all_passed version p h (Slot s) wire.Addr true v l.0).rule in
            absurd (never (line p h wire.AddressStrobe) low (not_true (line p h wire.AddressStrobe) (and_right (drive h (Slot s) wire.Bbsy) _ (and_left _ _ (and_left _ _ rule)))));
      }
      by_edge (Slot s) wire.Addr false v l o = record {
        high = k.high;
        low = k.low;
        shown = λ c low is.
            let a = shows_after h s false v l in
            absurd (none_some c (sym (no_value v a.1) ∙ (sym a.0 ∙ is)));
      }
        where
          none_some : (c : Cycle) → None ≡ Some c → ⊥
          none_some c e = cc
      by_edge Controller wire.Addr fall v l o = absurd (cc (all_passed version p h Controller wire.Addr fall v l.0).wire)
      by_edge d w fall v l o = record { high = k.high; low = k.low; shown = k.shown }

-- an edge that is neither of AS* nor a fall of DS* leaves what is known of DS*
pub strobed_kept : (h : List Edge) (e : Edge) (x : Bool) → (e.wire ≡ wire.AddressStrobe → ⊥) → (e.wire ≡ wire.DataStrobe → e.fall ≡ false) → KnowsStrobed h x → KnowsStrobed (e ∷ h) x
strobed_kept h e x a b k = by_edge e.driver e.wire e.fall e.value a b
  where
    by_edge : (d : Driver) (w : Wire) (fall : Bool) (v : Option Cycle) → (w ≡ wire.AddressStrobe → ⊥) → (w ≡ wire.DataStrobe → fall ≡ false)
        → KnowsStrobed (record { driver = d; wire = w; fall = fall; value = v } ∷ h) x
    by_edge d wire.AddressStrobe fall v a b = absurd (a refl)
    by_edge d wire.DataStrobe true v a b = absurd (never true refl (b refl))
    by_edge d w true v a b = k
    by_edge d w false v a b = k
