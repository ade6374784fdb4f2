-- The answers to all later edges, after histories after which the bus stands alike.
use Rattle.std.proofs.Common.{◌≡◌, ◌∙◌, refl, ap, subst, ℕ, suc, Bool, true, false, List, [], ◌∷◌, length}
use Rattle.std.specs.Prelude.{◌==◌, ◌&&◌, not, if◌then◌else◌, Ok, is_ok}
use Rattle.vme_model.specs.declared.refusals.Refused.{Refused}
use Rattle.vme_model.specs.declared.refusals.Refused.TheVariants.{NoSuchDriver, AlreadyThere, Rule, NotSettled, TraceFull}
use Rattle.vme_model.specs.declared.signals.Version.{Version}
use Rattle.vme_model.specs.declared.signals.Edge.{Edge}
use Rattle.vme_model.specs.Signals.{is_well_formed}
use Rattle.vme_model.specs.Plan.{Plan, has_driver}
use Rattle.vme_model.specs.Accepted.{IsAccepted}
use Rattle.vme_model.specs.History.{drive}
use Rattle.vme_model.specs.Readings.{readings}
use Rattle.vme_model.specs.Rules.{rule}
use Rattle.vme_model.specs.Deliveries.{with_delivery}
use Rattle.vme_model.specs.Verdict.{State, Judgement, IsLegal, check, is_other_state, settled, judged, verdict, verdict_but_full, made, after, kept}
use Rattle.vme_model.specs.Settling.{settling}
use Rattle.vme_bus.specs.Answers.{answers}
use Rattle.vme_swaps.specs.Alike.{StandAlike}
use Rattle.vme_swaps.specs.Swaps.{IsFree}
use Rattle.vme_swaps.proofs.Alike.{judged_alike, delivery_alike, allowed_alike, alike_behind}

all_ok : (a b c d : Bool) (w x y z : Refused) (rest : Judgement)
    → is_ok (check a w (check b x (check c y (check d z rest)))) ≡ true → check a w (check b x (check c y (check d z (Ok tt)))) ≡ Ok tt
all_ok true true true true w x y z rest e = refl
all_ok true true true false w x y z rest e = absurd (cc)
all_ok true true false d w x y z rest e = absurd (cc)
all_ok true false c d w x y z rest e = absurd (cc)
all_ok false b c d w x y z rest e = absurd (cc)

allowed_where : (version : Version) (p : Plan) (h : List Edge) (e : Edge) (rest : Judgement) → is_ok (judged version p h e rest) ≡ true → verdict_but_full version p h e ≡ Ok tt
allowed_where version p h e rest is = all_ok
    (is_well_formed e && has_driver p e.driver e.wire) (is_other_state (drive h e.driver e.wire) e.fall)
    (rule version (readings p h e.driver) e.wire e.fall e.value).1 (settled version p h e)
    NoSuchDriver AlreadyThere (Rule (rule version (readings p h e.driver) e.wire e.fall e.value).0) (NotSettled (settling version p h e.wire e.fall).0) rest is

-- the two backplanes answer alike, and stand alike behind
record AnswerAlike (p : Plan) (b c : State) (es : List Edge) : Type 0 where
  answers : answers b es ≡ answers c es
  stand : StandAlike p (kept b es).history (kept c es).history

module _ (version : Version) (p : Plan) (max : ℕ) (accepted : IsAccepted p) where
  abbrev state : List Edge → State
  state h = record { version = version; plan = p; history = h; max = max }

  abbrev room : List Edge → Judgement
  room h = check (not (length h == max)) TraceFull (Ok tt)

  verdicts : (g h : List Edge) (e : Edge) → length g ≡ length h → StandAlike p g h → verdict (state g) e ≡ verdict (state h) e
  verdicts g h e same a = judged_alike p g h a version e (room g) ∙ (λ i. judged version p h e (check (not (same i == max)) TraceFull (Ok tt)))

  abbrev All : List Edge → Type 0
  All es = (g h : List Edge) → IsLegal version p g → IsLegal version p h → length g ≡ length h → StandAlike p g h → AnswerAlike p (state g) (state h) es

  one_more : (e : Edge) (es : List Edge) → All es → All (e ∷ es)
  one_more e es all g h legal also same a =
      let rest = subst (λ v. AnswerAlike p (after (state g) e) (if is_ok v then made (state h) e else state h) es) (verdicts g h e same a) (by_test (is_ok (verdict (state g) e)) refl) in
      record {
        answers = λ i. with_delivery (verdicts g h e same a i) (delivery_alike p g h a e i) ∷ rest.answers i;
        stand = rest.stand;
      }
    where
      by_test : (t : Bool) → is_ok (verdict (state g) e) ≡ t → AnswerAlike p (if t then made (state g) e else state g) (if t then made (state h) e else state h) es
      by_test true is =
          let allowed = allowed_where version p g e (room g) is in
          all (e ∷ g) (e ∷ h) (allowed, legal) (allowed_alike version p g h e accepted legal allowed also a, also) (ap suc same) (alike_behind version p g h e accepted legal allowed also a)
      by_test false is = all g h legal also same a

  alike_answers : (es : List Edge) → All es
  alike_answers [] = λ g h legal also same a. record { answers = refl; stand = a }
  alike_answers (e ∷ es) = one_more e es (alike_answers es)

module _ (b : State) (first second : Edge) (later : List Edge) (accepted : IsAccepted b.plan) (f : IsFree b.version b.plan b.history first second) where
  both : AnswerAlike b.plan (made (made b first) second) (made (made b second) first) later
  both = alike_answers b.version b.plan b.max accepted later (second ∷ first ∷ b.history) (first ∷ second ∷ b.history) f.legal f.swapped refl f.alike

  pub free_answers : answers (made (made b first) second) later ≡ answers (made (made b second) first) later
  free_answers = both.answers

  pub free_stands : StandAlike b.plan (kept (made (made b first) second) later).history (kept (made (made b second) first) later).history
  free_stands = both.stand
