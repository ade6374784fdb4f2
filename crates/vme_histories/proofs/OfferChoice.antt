-- The offers and the open edges, from those without the end of the trace.
use Rattle.std.proofs.Common.{◌≡◌, ◌∙◌, refl, sym, ap, subst, Bool, true, false, List, [], ◌∷◌, filter, length}
use Rattle.std.specs.Prelude.{◌==◌, ◌&&◌, not, Ok, Err, is_ok}
use Rattle.std.specs.List.{flat_map}
use Rattle.vme_model.specs.declared.refusals.Refused.{Refused}
use Rattle.vme_model.specs.declared.refusals.Refused.TheVariants.{NoSuchDriver, AlreadyThere, Rule, NotSettled, TraceFull}
use Rattle.vme_model.specs.declared.signals.Driver.{Driver}
use Rattle.vme_model.specs.declared.signals.Edge.{Edge}
use Rattle.vme_model.specs.Signals.{is_well_formed}
use Rattle.vme_model.specs.Plan.{has_driver}
use Rattle.vme_model.specs.History.{drive}
use Rattle.vme_model.specs.Readings.{readings}
use Rattle.vme_model.specs.Rules.{rule}
use Rattle.vme_model.specs.Settling.{settling}
use Rattle.vme_model.specs.Verdict.{State, Judgement, check, is_other_state, settled, judged, verdict}
use Rattle.vme_model.specs.Offers.{considered, wires, offered}
use Rattle.vme_model.specs.Open.{moves, open_edges, IsAllThatIsAllowed}
use Rattle.vme_model.proofs.OpenEdges.{open_are_all}
use Rattle.vme_histories.specs.Offered.{is_open, offered_but_full}
use Rattle.vme_histories.specs.Opens.{open_but_full}

four_err : (a b c d : Bool) (w x y z r : Refused) → is_ok {T = Unit {0}} {E = Refused} (check a w (check b x (check c y (check d z (Err r))))) ≡ false
four_err true true true true w x y z r = refl
four_err true true true false w x y z r = refl
four_err true true false d w x y z r = refl
four_err true false c d w x y z r = refl
four_err false b c d w x y z r = refl

none_pass : {A : Type 0} (test : A → Bool) (xs : List A) → ((x : A) → test x ≡ false) → filter test xs ≡ []
none_pass {A} test [] fails = refl
none_pass {A} test (x ∷ xs) fails = rw (fails x) (none_pass test xs fails)

-- which of some edges are accepted
module _ (b : State) (es : List Edge) where
  -- the verdict if the trace is full, or if it is not
  abbrev at_end : Bool → Edge → Judgement
  at_end full e = judged b.version b.plan b.history e (check (not full) TraceFull (Ok tt))

  all_refused : (e : Edge) → is_ok (at_end true e) ≡ false
  all_refused e =
      four_err (is_well_formed e && has_driver b.plan e.driver e.wire) (is_other_state (drive b.history e.driver e.wire) e.fall) (rule b.version (readings b.plan b.history e.driver) e.wire e.fall
      e.value).1 (settled b.version b.plan b.history e)
      NoSuchDriver AlreadyThere (Rule (rule b.version (readings b.plan b.history e.driver) e.wire e.fall e.value).0) (NotSettled (settling b.version b.plan b.history e.wire e.fall).0) TraceFull

  abbrev accepted_at : Bool → List Edge
  accepted_at full = filter (λ e. is_ok (at_end full e)) es

  accepted_full : (length b.history == b.max) ≡ true → filter (λ e. is_ok (verdict b e)) es ≡ []
  accepted_full full = ap accepted_at full ∙ none_pass (λ e. is_ok (at_end true e)) es all_refused

  accepted_with_room : (length b.history == b.max) ≡ false → filter (λ e. is_ok (verdict b e)) es ≡ filter (is_open b.version b.plan b.history) es
  accepted_with_room room = ap accepted_at room

module _ (b : State) (d : Driver) where
  pub offered_full : (length b.history == b.max) ≡ true → offered b d ≡ []
  offered_full = accepted_full b (flat_map (considered b.plan b.history d) (wires d))

  pub offered_with_room : (length b.history == b.max) ≡ false → offered b d ≡ offered_but_full b.version b.plan b.history d
  offered_with_room = accepted_with_room b (flat_map (considered b.plan b.history d) (wires d))

  pub open_full : (length b.history == b.max) ≡ true → open_edges b d ≡ []
  open_full = accepted_full b (flat_map (moves b.history d) (wires d))

  pub open_with_room : (length b.history == b.max) ≡ false → open_edges b d ≡ open_but_full b.version b.plan b.history d
  open_with_room = accepted_with_room b (flat_map (moves b.history d) (wires d))

  by_end : (full : Bool) → (length b.history == b.max) ≡ full → offered_but_full b.version b.plan b.history d ≡ [] → offered b d ≡ []
  by_end true is none = offered_full is
  by_end false is none = offered_with_room is ∙ none

  pub none_offered : offered_but_full b.version b.plan b.history d ≡ [] → offered b d ≡ []
  none_offered none = by_end (length b.history == b.max) refl none

  -- a list that is the open edges has all that is allowed
  pub all_of : (es : List Edge) → es ≡ open_edges b d → IsAllThatIsAllowed b d es
  all_of es is = subst (IsAllThatIsAllowed b d) (sym is) (open_are_all b d)
