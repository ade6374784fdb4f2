-- Each cycle of a legal list is answered once before it ends.
use Rattle.std.proofs.Common.{◌≡◌, ◌≢◌, ◌⊎◌, inl, inr, ℕ, Bool, true, false, List, [], ◌∷◌, Option, Some, None, is_some, refl, sym, ◌∙◌, ap, subst}
use Rattle.std.specs.Prelude.{◌||◌, ◌==◌, if◌then◌else◌}
use Rattle.std.specs.Option.{option_map_or}
use Rattle.vme_model.specs.declared.boards.Row.{Row}
use Rattle.vme_model.specs.declared.signals.Version.{Version}
use Rattle.vme_model.specs.declared.signals.Cycle.{Cycle}
use Rattle.vme_model.specs.declared.signals.Driver.{Driver}
use Rattle.vme_model.specs.declared.signals.Driver.TheVariants.{Controller, Slot}
use Rattle.vme_model.specs.declared.signals.Wire.{Wire}
use Rattle.vme_model.specs.declared.signals.Wire.TheVariants.{Berr, Addr, AddressStrobe, DataStrobe, Dtack}
use Rattle.vme_model.specs.declared.signals.Edge.{Edge}
use Rattle.vme_model.specs.Signals.{is_same_driver}
use Rattle.vme_model.specs.Plan.{Plan, board, drives}
use Rattle.vme_model.specs.Accepted.{IsAccepted}
use Rattle.vme_model.specs.History.{drive, has_strobed, line, pulls_line}
use Rattle.vme_model.specs.Numbered.{Numbered, edges_in}
use Rattle.vme_model.specs.Verdict.{IsLegal}
use Rattle.vme_model.proofs.AllowedEdges.{all_passed}
use Rattle.vme_model.proofs.Bools.{and_left, and_right, is_false, is_true, never, not_true}
use Rattle.vme_model.proofs.CycleClaims.{one_answers}
use Rattle.vme_model.proofs.CyclePhases.{Quiet, Fresh, Asking, Done}
use Rattle.vme_model.proofs.Cycles.{Going, going_of, has_board, line_from, masters}
use Rattle.vme_model.proofs.Members.{found_row}
use Rattle.vme_model.proofs.Ranges.{IsInRange, IsRowInRange, in_range}
use Rattle.vme_cycles.specs.Transactions.{answered, cycle_of, is_answer, is_rise_on}
use Rattle.vme_cycles.proofs.NamedEdges.{edge, IsNext, AtEach, both}
use Rattle.vme_cycles.proofs.OneCycle.{low_is_under_way, low_other, one_strobe, own_low, self, still_low}

-- ---- lines

found_at : (p : Plan) (f : Row → Bool) (s : ℕ) (found : Option Row) → board p s ≡ found → option_map_or f found false ≡ true → (row : Row) × (board p s ≡ Some row) × (f row ≡ true)
found_at p f s None e h = absurd (cc)
found_at p f s (Some r) e h = (r, e, h)

-- a low wire of a board shows on the line
shows : (p : Plan) → IsInRange p → (h : List Edge) (w : Wire) (s : ℕ) → option_map_or (drives w) (board p s) false ≡ true → drive h (Slot s) w ≡ true → line p h w ≡ true
shows p range h w s there low =
    let b = found_at p (drives w) s (board p s) refl there in
    let f = found_row (IsRowInRange p) p.rows s b.0 range.rows b.1 in
    f.passes (pulls_line h w) (both (drives w b.0) (drive h (Slot b.0.slot) w) b.2 (subst (λ x. drive h (Slot x) w ≡ true) (sym f.slot) low))

answers_there : (p : Plan) (s : ℕ) (found : Option Row) → is_some found ≡ true → option_map_or (drives Dtack) found false ≡ true
answers_there p s None e = absurd (cc)
answers_there p s (Some r) e = refl

-- ---- what is so while a data strobe is low, and behind a strobe

record Asks (p : Plan) (h : List Edge) (s : ℕ) : Type 0 where
  strobed : has_strobed h (Slot s) ≡ true
  strobe : drive h (Slot s) AddressStrobe ≡ true
  master : masters p s ≡ true

record IsOver (h : List Edge) (s : ℕ) : Type 0 where
  strobed : has_strobed h (Slot s) ≡ true
  data_high : drive h (Slot s) DataStrobe ≡ false

-- a cycle is answered as its wires say
record IsAnsweredSo (h : List Edge) (yes : Bool) : Type 0 where
  fresh : (s : ℕ) → drive h (Slot s) AddressStrobe ≡ true → has_strobed h (Slot s) ≡ false → yes ≡ false
  silent_dtack : (s : ℕ) → drive h (Slot s) DataStrobe ≡ true → yes ≡ false → (t : ℕ) → drive h (Slot t) Dtack ≡ false
  silent_berr : (s : ℕ) → drive h (Slot s) DataStrobe ≡ true → yes ≡ false → drive h Controller Berr ≡ false
  stays : (s : ℕ) → drive h (Slot s) DataStrobe ≡ true → yes ≡ true → ((t : ℕ) × (drive h (Slot t) Dtack ≡ true)) ⊎ (drive h Controller Berr ≡ true)
  done : (s : ℕ) → drive h (Slot s) AddressStrobe ≡ true → has_strobed h (Slot s) ≡ true → drive h (Slot s) DataStrobe ≡ false → yes ≡ true

not_slot : (t : ℕ) → Controller ≡ Slot t → ⊥
not_slot t same = never (sym (ap (λ d. is_same_driver Controller d) same))

one_of : (a b : Bool) → (a || b) ≡ true → (a ≡ true) ⊎ (b ≡ true)
one_of true b h = inl refl
one_of false b h = inr h

module _ (v : Version) (p : Plan) (range : IsInRange p) where
  asks : (h : List Edge) → IsLegal v p h → (s : ℕ) → drive h (Slot s) DataStrobe ≡ true → Asks p h s
  asks h l s low = at (going_of v p range h l)
    where
      at : Going p h → Asks p h s
      at (Quiet, q) = absurd (never (sym (q.dstrobe_high s) ∙ low))
      at (Fresh r, q) = absurd (never (sym (q.dstrobe_high s) ∙ low))
      at (Asking r g hi, q) =
          let same = sym (q.dstrobe_only s low) in
          record {
            strobed = subst (λ x. has_strobed h (Slot x) ≡ true) same q.was_strobed;
            strobe = subst (λ x. drive h (Slot x) AddressStrobe ≡ true) same q.opened.strobe_low;
            master = subst (λ x. masters p x ≡ true) same q.opened.is_master;
          }
      at (Done r, q) = absurd (never (sym (q.dstrobe_high s) ∙ low))

  is_there : (h : List Edge) → IsLegal v p h → (t : ℕ) → drive h (Slot t) Dtack ≡ true → has_board p t ≡ true
  is_there h l t low = at (going_of v p range h l)
    where
      at : Going p h → has_board p t ≡ true
      at (Quiet, q) = q.answers.boards t low
      at (Fresh r, q) = q.answers.boards t low
      at (Asking r g hi, q) = q.answers.boards t low
      at (Done r, q) = q.answers.boards t low

  is_over : (h : List Edge) → IsLegal v p h → (s : ℕ) → drive h (Slot s) AddressStrobe ≡ true → drive h (Slot s) Addr ≡ false → IsOver h s
  is_over h l s low off = at (going_of v p range h l)
    where
      at : Going p h → IsOver h s
      at (Quiet, q) = absurd (never (sym (q.strobe_high s) ∙ low))
      at (Fresh r, q) = absurd (never (sym off ∙ subst (λ x. drive h (Slot x) Addr ≡ true) (sym (q.opened.strobe_only s low)) q.group_on))
      at (Asking r g hi, q) = absurd (never (sym off ∙ subst (λ x. drive h (Slot x) Addr ≡ true) (sym (q.opened.strobe_only s low)) q.group_on))
      at (Done r, q) = record { strobed = subst (λ x. has_strobed h (Slot x) ≡ true) (sym (q.opened.strobe_only s low)) q.was_strobed; data_high = q.dstrobe_high s }

  -- a high line has no low wire
  dtack_high : (h : List Edge) → IsLegal v p h → line p h Dtack ≡ false → (t : ℕ) → drive h (Slot t) Dtack ≡ false
  dtack_high h l high t = is_false (drive h (Slot t) Dtack) (λ low. never (sym high ∙ shows p range h Dtack t (answers_there p t (board p t) (is_there h l t low)) low))

  data_high : (h : List Edge) → IsLegal v p h → line p h DataStrobe ≡ false → (s : ℕ) → drive h (Slot s) DataStrobe ≡ false
  data_high h l high s = is_false (drive h (Slot s) DataStrobe) (λ low. never (sym high ∙ shows p range h DataStrobe s (asks h l s low).master low))

  -- who asks has its strobe low alone
  alone : (h : List Edge) → IsLegal v p h → (s t : ℕ) → drive h (Slot s) DataStrobe ≡ true → drive h (Slot t) AddressStrobe ≡ true → s ≡ t
  alone h l s t asking low = one_strobe v p range h l s t (asks h l s asking).strobe low

  module _ (k : Numbered) (n : ℕ) (c : Option Cycle) (so : IsAnsweredSo (edges_in k) (is_some (answered p k))) where
    abbrev h : List Edge
    h = edges_in k

    abbrev After : Driver → Wire → Bool → Type 0
    After d w fall = IsNext v p k (edge d w fall c) → IsAnsweredSo (edge d w fall c ∷ h) (is_some (answered p ((n, edge d w fall c) ∷ k)))

    after_strobe : (t : ℕ) → After (Slot t) AddressStrobe true
    after_strobe t l =
        let e = edge (Slot t) AddressStrobe true c in
        let unstrobed : has_strobed (e ∷ h) (Slot t) ≡ false = ap (λ (b : Bool). if b then false else has_strobed h (Slot t)) (self t) in
        let mine : (s : ℕ) → drive (e ∷ h) (Slot s) AddressStrobe ≡ true → has_strobed (e ∷ h) (Slot s) ≡ true → ⊥ = λ s low strobed.
        never (sym unstrobed ∙ subst (λ x. has_strobed (e ∷ h) (Slot x) ≡ true) (one_strobe v p range (e ∷ h) l s t low (own_low v p range h t c)) strobed) in
        let none : (s : ℕ) → drive (e ∷ h) (Slot s) DataStrobe ≡ true → ⊥ = λ s asking. let a = asks (e ∷ h) l s asking in mine s a.strobe a.strobed in
        record {
          fresh = λ s low un. refl;
          silent_dtack = λ s asking no. absurd (none s asking);
          silent_berr = λ s asking no. absurd (none s asking);
          stays = λ s asking yes. absurd (none s asking);
          done = λ s low strobed high. absurd (mine s low strobed);
        }

    after_strobe_rise : (t : ℕ) → After (Slot t) AddressStrobe false
    after_strobe_rise t l =
        let e = edge (Slot t) AddressStrobe false c in
        let a = all_passed v p h (Slot t) AddressStrobe false c l.0 in
        let off : (s : ℕ) → drive (e ∷ h) (Slot s) AddressStrobe ≡ true → ⊥ = λ s low.
        let q = low_other (t == s) (drive h (Slot s) AddressStrobe) low in
        never (sym q.0 ∙ subst (λ x. (t == x) ≡ true) (one_strobe v p range h l.1 t s a.before q.1) (self t)) in
        record {
          fresh = λ s low un. absurd (off s low);
          silent_dtack = λ s asking no. absurd (off s (asks (e ∷ h) l s asking).strobe);
          silent_berr = λ s asking no. absurd (off s (asks (e ∷ h) l s asking).strobe);
          stays = λ s asking yes. absurd (off s (asks (e ∷ h) l s asking).strobe);
          done = λ s low strobed high. absurd (off s low);
        }

    after_data : (t : ℕ) → After (Slot t) DataStrobe true
    after_data t l =
        let a = all_passed v p h (Slot t) DataStrobe true c l.0 in
        let r = and_left _ _ a.rule in
        let r2 = and_left _ _ r in
        let own = and_left _ _ (and_left _ _ r2) in
        let un : is_some (answered p k) ≡ false = so.fresh t own (not_true _ (and_right _ _ a.rule)) in
        record {
          fresh = λ s low none. un;
          silent_dtack = λ s asking no. dtack_high h l.1 (not_true _ (and_right _ _ r2));
          silent_berr = λ s asking no. not_true _ (and_right _ _ r);
          stays = λ s asking yes. absurd (never (sym un ∙ yes));
          done = λ s low strobed high. absurd (never (sym high ∙ now t s (one_strobe v p range h l.1 t s own low) (drive h (Slot s) DataStrobe)));
        }
      where
        now : (t s : ℕ) → t ≡ s → (b : Bool) → (if t == s then true else b) ≡ true
        now t s same b = ap (λ (x : Bool). if x then true else b) (subst (λ x. (t == x) ≡ true) same (self t))

    after_data_rise : (t : ℕ) → After (Slot t) DataStrobe false
    after_data_rise t l =
        let a = all_passed v p h (Slot t) DataStrobe false c l.0 in
        let off : (s : ℕ) → (if t == s then false else drive h (Slot s) DataStrobe) ≡ true → ⊥ = λ s low.
        let q = low_other (t == s) (drive h (Slot s) DataStrobe) low in
        never (sym q.0 ∙ subst (λ x. (t == x) ≡ true) (alone h l.1 t s a.before (asks h l.1 s q.1).strobe) (self t)) in
        let yes : is_some (answered p k) ≡ true = is_true (is_some (answered p k)) (λ no. elim (one_of (line p h Dtack) (drive h Controller Berr) a.rule) [
          | inl low ↦ (let w = line_from p range h Dtack low in never (sym (so.silent_dtack t a.before no w.0) ∙ w.1))
          | inr low ↦ never (sym (so.silent_berr t a.before no) ∙ low)
        ]) in
        record {
          fresh = so.fresh;
          silent_dtack = λ s asking no. absurd (off s asking);
          silent_berr = λ s asking no. absurd (off s asking);
          stays = λ s asking is. absurd (off s asking);
          done = λ s low strobed high. yes;
        }

    -- an answer comes only while a data strobe is low
    unfresh : IsLegal v p h → line p h DataStrobe ≡ true → (s : ℕ) → drive h (Slot s) AddressStrobe ≡ true → has_strobed h (Slot s) ≡ false → ⊥
    unfresh l low s strobe un =
        let w = line_from p range h DataStrobe low in
        never (sym un ∙ subst (λ x. has_strobed h (Slot x) ≡ true) (alone h l w.0 s w.1 strobe) (asks h l w.0 w.1).strobed)

    after_dtack : (t : ℕ) → After (Slot t) Dtack true
    after_dtack t l =
        let a = all_passed v p h (Slot t) Dtack true c l.0 in
        record {
          fresh = λ s low un. absurd (unfresh l.1 (and_left _ _ (and_left _ _ a.rule)) s low un);
          silent_dtack = λ s asking no. absurd (never (sym no));
          silent_berr = λ s asking no. absurd (never (sym no));
          stays = λ s asking yes. inl (t, ap (λ (b : Bool). if b then true else drive h (Slot t) Dtack) (self t));
          done = λ s low strobed high. refl;
        }

    after_berr : After Controller Berr true
    after_berr l =
        let a = all_passed v p h Controller Berr true c l.0 in
        record {
          fresh = λ s low un. absurd (unfresh l.1 (and_left _ _ a.rule) s low un);
          silent_dtack = λ s asking no. absurd (never (sym no));
          silent_berr = λ s asking no. absurd (never (sym no));
          stays = λ s asking yes. inr refl;
          done = λ s low strobed high. refl;
        }

    -- an answer goes off only while every data strobe is high
    after_dtack_rise : (t : ℕ) → After (Slot t) Dtack false
    after_dtack_rise t l =
        let high = data_high h l.1 (not_true _ (all_passed v p h (Slot t) Dtack false c l.0).rule) in
        record {
          fresh = so.fresh;
          silent_dtack = λ s asking no. absurd (never (sym (high s) ∙ asking));
          silent_berr = λ s asking no. absurd (never (sym (high s) ∙ asking));
          stays = λ s asking yes. absurd (never (sym (high s) ∙ asking));
          done = so.done;
        }

    after_berr_rise : After Controller Berr false
    after_berr_rise l =
        let high = data_high h l.1 (not_true _ (all_passed v p h Controller Berr false c l.0).rule) in
        record {
          fresh = so.fresh;
          silent_dtack = λ s asking no. absurd (never (sym (high s) ∙ asking));
          silent_berr = λ s asking no. absurd (never (sym (high s) ∙ asking));
          stays = λ s asking yes. absurd (never (sym (high s) ∙ asking));
          done = so.done;
        }

    after_other : (d : Driver) (w : Wire) (fall : Bool) → After d w fall
    after_other (Slot t) AddressStrobe true l = after_strobe t l
    after_other (Slot t) AddressStrobe false l = after_strobe_rise t l
    after_other (Slot t) DataStrobe true l = after_data t l
    after_other (Slot t) DataStrobe false l = after_data_rise t l
    after_other (Slot t) Dtack true l = after_dtack t l
    after_other (Slot t) Dtack false l = after_dtack_rise t l
    after_other Controller Berr true l = after_berr l
    after_other Controller Berr false l = after_berr_rise l
    after_other Controller AddressStrobe fall l = absurd (cc (all_passed v p h Controller AddressStrobe fall c l.0).wire)
    after_other Controller DataStrobe fall l = absurd (cc (all_passed v p h Controller DataStrobe fall c l.0).wire)
    after_other Controller Dtack fall l = absurd (cc (all_passed v p h Controller Dtack fall c l.0).wire)
    after_other (Slot t) Berr fall l = absurd (cc (all_passed v p h (Slot t) Berr fall c l.0).wire)
    after_other d w true l = record { fresh = so.fresh; silent_dtack = so.silent_dtack; silent_berr = so.silent_berr; stays = so.stays; done = so.done }
    after_other d w false l = record { fresh = so.fresh; silent_dtack = so.silent_dtack; silent_berr = so.silent_berr; stays = so.stays; done = so.done }

  answered_so : (k : Numbered) → IsLegal v p (edges_in k) → IsAnsweredSo (edges_in k) (is_some (answered p k))
  answered_so [] l = record { fresh = λ s low un. refl; silent_dtack = λ s e. absurd (never e); silent_berr = λ s e. absurd (never e); stays = λ s e. absurd (never e); done = λ s e. absurd (never e) }
  answered_so ((n, e) ∷ k) l = after_other k n e.value (answered_so k l.1) e.driver e.wire e.fall l

  -- ---- the claims

  no_answer : {A : Type 0} (o : Option A) → is_some o ≡ false → o ≡ None
  no_answer None h = refl
  no_answer (Some a) h = absurd (never (sym h))

  there : (k : Numbered) (d : Driver) → cycle_of k ≡ Some d → cycle_of k ≢ None
  there k d is none = never (sym (ap is_some none) ∙ ap is_some is)

  -- an answer comes in a cycle that has none
  once : AtEach v p (λ k e. is_answer e ≡ true → (cycle_of k ≢ None) × (answered p k ≡ None))
  once k (Slot t) Dtack true c l is =
      let h = edges_in k in
      let e = edge (Slot t) Dtack true c in
      let a = all_passed v p h (Slot t) Dtack true c l.0 in
      let w = line_from p range h DataStrobe (and_left _ _ (and_left _ _ a.rule)) in
      let own : drive (e ∷ h) (Slot t) Dtack ≡ true = ap (λ (b : Bool). if b then true else drive h (Slot t) Dtack) (self t) in
      let only = one_answers p (e ∷ h) (going_of v p range (e ∷ h) l) in (
        there k (Slot w.0) (low_is_under_way v p range k l.1 w.0 (asks h l.1 w.0 w.1).strobe),
        no_answer (answered p k) (is_false (is_some (answered p k)) (λ yes. elim ((answered_so k l.1).stays w.0 w.1 yes) [
          | inl low ↦ never (sym a.before ∙ subst (λ x. drive h x Dtack ≡ true) (only (Slot low.0) (Slot t) (still_low (t == low.0) (drive h (Slot low.0) Dtack) low.1) own) low.1)
          | inr low ↦ not_slot t (only Controller (Slot t) low own)
        ])),
      )
  once k Controller Berr true c l is =
      let h = edges_in k in
      let e = edge Controller Berr true c in
      let a = all_passed v p h Controller Berr true c l.0 in
      let w = line_from p range h DataStrobe (and_left _ _ a.rule) in
      let only = one_answers p (e ∷ h) (going_of v p range (e ∷ h) l) in (
        there k (Slot w.0) (low_is_under_way v p range k l.1 w.0 (asks h l.1 w.0 w.1).strobe),
        no_answer (answered p k) (is_false (is_some (answered p k)) (λ yes. elim ((answered_so k l.1).stays w.0 w.1 yes) [
          | inl low ↦ not_slot low.0 (only Controller (Slot low.0) refl low.1)
          | inr low ↦ never (sym a.before ∙ low)
        ])),
      )
  once k Controller Dtack true c l is = absurd (cc (all_passed v p (edges_in k) Controller Dtack true c l.0).wire)
  once k (Slot t) Berr true c l is = absurd (cc (all_passed v p (edges_in k) (Slot t) Berr true c l.0).wire)
  once k d w true c l is = absurd (cc)
  once k d w false c l is = absurd (cc)

  -- a cycle ends only answered
  over : AtEach v p (λ k e. is_rise_on AddressStrobe e ≡ true → is_some (answered p k) ≡ true)
  over k (Slot t) AddressStrobe false c l is =
      let h = edges_in k in
      let a = all_passed v p h (Slot t) AddressStrobe false c l.0 in
      let o = is_over h l.1 t a.before (not_true _ a.rule) in
      (answered_so k l.1).done t a.before o.strobed o.data_high
  over k Controller AddressStrobe false c l is = absurd (cc (all_passed v p (edges_in k) Controller AddressStrobe false c l.0).wire)
  over k d w true c l is = absurd (cc)
  over k d w false c l is = absurd (cc)

pub cycle_ends_answered : (v : Version) (p : Plan) (k : Numbered) (n : ℕ) (e : Edge) → IsAccepted p → IsNext v p k e → is_rise_on AddressStrobe e ≡ true → answered p k ≢ None
cycle_ends_answered v p k n e fit l is = λ none. never (sym (ap is_some none) ∙ over v p (in_range p fit) k e.driver e.wire e.fall e.value l is)

pub cycle_is_answered_once : (v : Version) (p : Plan) (k : Numbered) (n : ℕ) (e : Edge) → IsAccepted p → IsNext v p k e
    → is_answer e ≡ true → (cycle_of k ≢ None) × (answered p k ≡ None)
cycle_is_answered_once v p k n e fit l is = once v p (in_range p fit) k e.driver e.wire e.fall e.value l is
