-- Why the rules are needed: histories that break a claim, although all of their edges but one are
-- allowed. That one is refused by the rule named; if it were allowed too, the list would be legal
-- and not safe.
use Rattle.std.proofs.Common.{◌≡◌, ◌⊎◌, ℕ, zero, suc, ◌++◌, Bool, true, false, List, [], ◌∷◌, Option, Some, None, Ok, refl, sym, ◌∙◌, subst, arith, inl, inr, map}
use Rattle.std.specs.List.{Contains}
use Rattle.vme_model.specs.declared.boards.Row.{Row}
use Rattle.vme_model.specs.declared.boards.IrqKind.TheVariants.{Roak}
use Rattle.vme_model.specs.declared.boards.Release.TheVariants.{Done}
use Rattle.vme_model.specs.declared.boards.ArbiterKind.TheVariants.{Sgl, Pri}
use Rattle.vme_model.specs.declared.signals.Version.{Version}
use Rattle.vme_model.specs.declared.signals.Version.TheVariants.{One, Two}
use Rattle.vme_model.specs.declared.signals.Driver.{Driver}
use Rattle.vme_model.specs.declared.signals.Driver.TheVariants.{Controller, Slot}
use Rattle.vme_model.specs.declared.signals.Wire.{Wire}
use Rattle.vme_model.specs.declared.signals.Wire.TheVariants.{Bg, Iack, Berr, Br, BgOut, Bbsy, Addr, AddressStrobe, DataStrobe, Irq, IackOut, Dtack}
use Rattle.vme_model.specs.declared.signals.Cycle.{Cycle}
use Rattle.vme_model.specs.declared.signals.Cycle.TheVariants.{Acknowledge, Access}
use Rattle.vme_model.specs.declared.signals.Edge.{Edge}
use Rattle.vme_model.specs.Sets.{no_levels, with_level}
use Rattle.vme_model.specs.Signals.{is_two}
use Rattle.vme_model.specs.Plan.{Plan, grant_chain}
use Rattle.vme_model.specs.History.{drive}
use Rattle.vme_model.specs.Accepted.{IsAccepted}
use Rattle.vme_model.specs.Verdict.{IsLegal, verdict_but_full}
use Rattle.vme_model.specs.GrantSafety.{NoneTravelsWhileBusy, IsLow, IsEndLow, IsAwaited, was_withdrawn, slots_below, TakesRightfully, BeginsAtController, ReleasesAfterGrants, NoneLost}
use Rattle.vme_model.specs.CycleSafety.{OneAddresses, OneAnswers, AnswersRightfully, AnswersOnce, ReleasesAnswered}
use Rattle.vme_model.proofs.Bools.{never}

-- the later edges, the newest first, were each allowed after those before them
abbrev AreAllowed : Version → Plan → List Edge → List Edge → Type 0
AreAllowed version p h [] = Unit {0}
AreAllowed version p h (e ∷ es) = (verdict_but_full version p (es ++ h) e ≡ Ok tt) × AreAllowed version p h es

-- all edges but e were allowed, h before it and the later ones after it
record AreOthersAllowed (version : Version) (p : Plan) (h : List Edge) (e : Edge) (later : List Edge) : Type 0 where
  accepted : IsAccepted p
  before : IsLegal version p h
  after : AreAllowed version p (e ∷ h) later

abbrev fall : Driver → Wire → Edge
fall d w = record { driver = d; wire = w; fall = true; value = None }

abbrev rise : Driver → Wire → Edge
rise d w = record { driver = d; wire = w; fall = false; value = None }

abbrev shows : ℕ → Cycle → Edge
shows s cycle = record { driver = Slot s; wire = Addr; fall = true; value = Some cycle }

-- boards with a requester that gives the bus up when it is done, and with a ROAK interrupter of
-- level 4
abbrev requester : ℕ → ℕ → Row
requester s level = record { slot = s; requester = Some (record { level = level; release = Done 2 }); interrupter = None; handler = no_levels }

abbrev handler : ℕ → Row
handler s = record (requester s 3) { handler = with_level no_levels 4 }

abbrev interrupter : ℕ → Row
interrupter s = record { slot = s; requester = None; interrupter = Some (record { level = 4; kind = Roak; status = 65 }); handler = no_levels }

-- backplanes with one board, with two on level 3, with two on levels 3 and 2, and with a handler
-- and two interrupters
abbrev one_board : Plan
one_board = record { slots = 1; rows = requester 1 3 ∷ []; jumpers = []; arbiter = Sgl }

abbrev one_level : Plan
one_level = record { slots = 2; rows = requester 1 3 ∷ requester 2 3 ∷ []; jumpers = []; arbiter = Sgl }

abbrev two_levels : Plan
two_levels = record { slots = 2; rows = requester 1 3 ∷ requester 2 2 ∷ []; jumpers = []; arbiter = Pri }

abbrev interrupters : Plan
interrupters = record { slots = 3; rows = handler 1 ∷ interrupter 2 ∷ interrupter 3 ∷ []; jumpers = []; arbiter = Sgl }

only_slot : (s : ℕ) → Contains (1 ∷ []) s → 1 ≡ s
only_slot s (zero, l, e) = e
only_slot s (suc k, l, e) = absurd (omega arith)

-- G13: slot 1 takes the bus although it passed the grant on
abbrev before_take_after_pass : List Edge
before_take_after_pass = fall (Slot 1) Br ∷ fall (Slot 1) BgOut ∷ fall Controller (Bg 3) ∷ fall (Slot 2) Br ∷ []

take_after_pass : AreOthersAllowed One one_level before_take_after_pass (fall (Slot 1) Bbsy) ([])
take_after_pass = record { accepted = refl; before = (refl, (refl, (refl, (refl, tt)))); after = tt }

abbrev passed_by_1 : List (Driver × Bool)
passed_by_1 = (Slot 1, false) ∷ []

abbrev silent_below_1 : ℕ → List (Driver × Bool)
silent_below_1 n = map (λ t. (Slot t, false)) (slots_below one_level (grant_chain n) 1)

take_after_pass_is_not_rightful : TakesRightfully one_level before_take_after_pass (fall (Slot 1) Bbsy) → ⊥
take_after_pass_is_not_rightful f = go (f 1 refl).level (f 1 refl).granted (f 1 refl).passed
  where
    none : passed_by_1 ≡ [] → ⊥
    none q = cc

    go : (n : ℕ) → Some 3 ≡ Some n → passed_by_1 ≡ silent_below_1 n → ⊥
    go n e q = let same : n ≡ 3 = cc in none (subst (λ x. passed_by_1 ≡ silent_below_1 x) same q)

-- G14: slot 1 releases the bus while its grant is low
abbrev before_release_under_a_grant : List Edge
before_release_under_a_grant = rise (Slot 1) Br ∷ fall (Slot 1) Bbsy ∷ fall Controller (Bg 3) ∷ fall (Slot 1) Br ∷ []

release_under_a_grant : AreOthersAllowed One one_board before_release_under_a_grant (rise (Slot 1) Bbsy) ([])
release_under_a_grant = record { accepted = refl; before = (refl, (refl, (refl, (refl, tt)))); after = tt }

release_under_a_grant_is_early : ReleasesAfterGrants one_board before_release_under_a_grant (rise (Slot 1) Bbsy) → ⊥
release_under_a_grant_is_early f = f 1 3 None refl (record { part = omega arith; low = refl })

-- G15: slot 2 drives the address lines while a strobe is low
abbrev before_address_in_a_cycle : List Edge
before_address_in_a_cycle = fall (Slot 2) Bbsy ∷ fall Controller (Bg 2) ∷ rise (Slot 1) Bbsy ∷ fall (Slot 1) AddressStrobe ∷ shows 1 (Access 1) ∷ fall (Slot 2) Br ∷ rise (Slot 1) Br
    ∷ rise Controller (Bg 3) ∷ fall (Slot 1) Bbsy ∷ fall Controller (Bg 3) ∷ fall (Slot 1) Br ∷ []

address_in_a_cycle : AreOthersAllowed One two_levels before_address_in_a_cycle (shows 2 (Access 1)) ([])
address_in_a_cycle = record { accepted = refl; before = (refl, (refl, (refl, (refl, (refl, (refl, (refl, (refl, (refl, (refl, (refl, tt))))))))))); after = tt }

two_address : OneAddresses (shows 2 (Access 1) ∷ before_address_in_a_cycle) → ⊥
two_address f = omega (arith, f 1 2 refl refl)

-- G25: slot 2 answers again while its request is low
abbrev before_answer_again : List Edge
before_answer_again = fall Controller Iack ∷ fall (Slot 1) DataStrobe ∷ fall (Slot 1) AddressStrobe ∷ shows 1 (Acknowledge 4) ∷ rise Controller Iack ∷ rise (Slot 1) AddressStrobe ∷ rise (Slot 1) Addr
    ∷ rise (Slot 2) Dtack ∷ rise (Slot 1) DataStrobe ∷ fall (Slot 2) Dtack ∷ fall Controller Iack ∷ fall (Slot 1) DataStrobe ∷ fall (Slot 1) AddressStrobe ∷ shows 1 (Acknowledge 4)
    ∷ fall (Slot 1) Bbsy ∷ fall Controller (Bg 3) ∷ fall (Slot 1) Br ∷ fall (Slot 2) Irq ∷ []

answer_again : AreOthersAllowed One interrupters before_answer_again (fall (Slot 2) Dtack) ([])
answer_again = record {
  accepted = refl;
  before = (refl, (refl, (refl, (refl, (refl, (refl, (refl, (refl, (refl, (refl, (refl, (refl, (refl, (refl, (refl, (refl, (refl, (refl, tt))))))))))))))))));
  after = tt;
}

answered_twice : AnswersOnce interrupters (fall (Slot 2) Dtack ∷ before_answer_again) → ⊥
answered_twice f = omega (arith, f 2 refl)

-- G25: slot 2 requests after it passed the acknowledge on, and then answers
abbrev before_answer_after_pass : List Edge
before_answer_after_pass = fall (Slot 2) Irq ∷ fall (Slot 2) IackOut ∷ fall Controller Iack ∷ fall (Slot 1) DataStrobe ∷ fall (Slot 1) AddressStrobe ∷ shows 1 (Acknowledge 4) ∷ fall (Slot 3) Irq
    ∷ fall (Slot 1) Bbsy ∷ fall Controller (Bg 3) ∷ fall (Slot 1) Br ∷ []

answer_after_pass : AreOthersAllowed One interrupters before_answer_after_pass (fall (Slot 2) Dtack) ([])
answer_after_pass = record { accepted = refl; before = (refl, (refl, (refl, (refl, (refl, (refl, (refl, (refl, (refl, (refl, tt)))))))))); after = tt }

abbrev passed_by_2 : List (Driver × Option Cycle × Bool)
passed_by_2 = (Slot 2, Some (Acknowledge 4), false) ∷ []

answer_after_pass_is_not_rightful : AnswersRightfully interrupters before_answer_after_pass (fall (Slot 2) Dtack) → ⊥
answer_after_pass_is_not_rightful f = none (f 2 4 refl refl).passed
  where
    none : passed_by_2 ≡ [] → ⊥
    none e = cc

-- S2: BERR* ends an access that a board can answer, and the board answers too
abbrev before_error_of_an_access : List Edge
before_error_of_an_access = fall (Slot 1) DataStrobe ∷ fall (Slot 1) AddressStrobe ∷ shows 1 (Access 1) ∷ fall (Slot 1) Bbsy ∷ fall Controller (Bg 3) ∷ fall (Slot 1) Br ∷ []

error_of_an_access : AreOthersAllowed One one_board before_error_of_an_access (fall Controller Berr) (fall (Slot 1) Dtack ∷ [])
error_of_an_access = record { accepted = refl; before = (refl, (refl, (refl, (refl, (refl, (refl, tt)))))); after = (refl, tt) }

different : Controller ≡ Slot 1 → ⊥
different e = cc

access_answered_twice : OneAnswers (fall (Slot 1) Dtack ∷ fall Controller Berr ∷ before_error_of_an_access) → ⊥
access_answered_twice f = different (f Controller (Slot 1) refl refl)

-- S2 with an acknowledge
abbrev before_error_of_an_acknowledge : List Edge
before_error_of_an_acknowledge = fall Controller Iack ∷ fall (Slot 1) DataStrobe ∷ fall (Slot 1) AddressStrobe ∷ shows 1 (Acknowledge 4) ∷ fall (Slot 1) Bbsy ∷ fall Controller (Bg 3)
    ∷ fall (Slot 1) Br ∷ fall (Slot 2) Irq ∷ []

error_of_an_acknowledge : AreOthersAllowed One interrupters before_error_of_an_acknowledge (fall Controller Berr) (fall (Slot 2) Dtack ∷ [])
error_of_an_acknowledge = record { accepted = refl; before = (refl, (refl, (refl, (refl, (refl, (refl, (refl, (refl, tt)))))))); after = (refl, tt) }

different_from_2 : Controller ≡ Slot 2 → ⊥
different_from_2 e = cc

acknowledge_answered_twice : OneAnswers (fall (Slot 2) Dtack ∷ fall Controller Berr ∷ before_error_of_an_acknowledge) → ⊥
acknowledge_answered_twice f = different_from_2 (f Controller (Slot 2) refl refl)

-- S1: a cycle begins before the acknowledge chain is high, and slot 2 answers the old acknowledge
abbrev before_early_strobe : List Edge
before_early_strobe = shows 1 (Acknowledge 4) ∷ fall (Slot 2) Irq ∷ rise (Slot 1) AddressStrobe ∷ rise (Slot 1) Addr ∷ rise (Slot 2) Irq ∷ rise (Slot 2) Dtack ∷ rise (Slot 1) DataStrobe
    ∷ fall (Slot 2) Dtack ∷ fall Controller Iack ∷ fall (Slot 1) DataStrobe ∷ fall (Slot 1) AddressStrobe ∷ shows 1 (Acknowledge 4) ∷ fall (Slot 1) Bbsy ∷ fall Controller (Bg 3)
    ∷ fall (Slot 1) Br ∷ fall (Slot 2) Irq ∷ []

early_strobe : AreOthersAllowed One interrupters before_early_strobe (fall (Slot 1) AddressStrobe) (fall (Slot 2) Dtack ∷ fall (Slot 1) DataStrobe ∷ [])
early_strobe = record {
  accepted = refl;
  before = (refl, (refl, (refl, (refl, (refl, (refl, (refl, (refl, (refl, (refl, (refl, (refl, (refl, (refl, (refl, (refl, tt))))))))))))))));
  after = (refl, (refl, tt));
}

early_strobe_is_answered : AnswersRightfully interrupters (fall (Slot 1) DataStrobe ∷ fall (Slot 1) AddressStrobe ∷ before_early_strobe) (fall (Slot 2) Dtack) → ⊥
early_strobe_is_answered f = never (sym (f 2 4 refl refl).unanswered)

-- G22: slot 2 lets go of a request that nobody acknowledged
abbrev before_unanswered_release : List Edge
before_unanswered_release = fall (Slot 2) Irq ∷ []

unanswered_release : AreOthersAllowed One interrupters before_unanswered_release (rise (Slot 2) Irq) ([])
unanswered_release = record { accepted = refl; before = (refl, tt); after = tt }

none_answered : ReleasesAnswered interrupters before_unanswered_release (rise (Slot 2) Irq) → ⊥
none_answered f = omega (arith, f 2 refl refl)

-- G1: the controller grants while slot 1 holds the bus
abbrev before_grant_while_busy : List Edge
before_grant_while_busy = fall (Slot 2) Br ∷ rise Controller (Bg 3) ∷ fall (Slot 1) Bbsy ∷ fall Controller (Bg 3) ∷ fall (Slot 1) Br ∷ []

grant_while_busy : AreOthersAllowed One two_levels before_grant_while_busy (fall Controller (Bg 2)) ([])
grant_while_busy = record { accepted = refl; before = (refl, (refl, (refl, (refl, (refl, tt))))); after = tt }

travels_while_busy : NoneTravelsWhileBusy two_levels (fall Controller (Bg 2) ∷ before_grant_while_busy) → ⊥
travels_while_busy f = f 2 2 refl (record { level = omega arith; member = (0, omega arith, refl); granted = refl; unpassed = refl; untaken = refl })

-- G11: slot 1 passes on the grant that it waits for
abbrev before_pass_of_an_own_grant : List Edge
before_pass_of_an_own_grant = fall Controller (Bg 3) ∷ fall (Slot 1) Br ∷ []

pass_of_an_own_grant : AreOthersAllowed One one_board before_pass_of_an_own_grant (fall (Slot 1) BgOut) ([])
pass_of_an_own_grant = record { accepted = refl; before = (refl, (refl, tt)); after = tt }

low_grant : (h : List Edge) → drive h Controller (Bg 3) ≡ true → IsLow one_board h 3 None
low_grant h e = record { part = omega arith; low = e }

-- a grant that stands nowhere, with nobody withdrawn, is lost
lost : (version : Version) (h : List Edge) → drive h (Slot 1) BgOut ≡ true → was_withdrawn one_board h 3 ≡ false → IsAwaited one_board h 3
    ⊎ ((is_two version ≡ true) × (was_withdrawn one_board h 3 ≡ true)) → ⊥
lost version h passed still (inl a) = never (sym (subst (λ x. drive h (Slot x) BgOut ≡ false) (sym (only_slot a.slot a.travels.member)) a.travels.unpassed) ∙ passed)
lost version h passed still (inr w) = never (sym still ∙ w.1)

passed_grant_is_lost : NoneLost One one_board (fall (Slot 1) BgOut ∷ before_pass_of_an_own_grant) → ⊥
passed_grant_is_lost f = lost One _ refl refl (f 3 refl (low_grant _ refl))

-- S4: in the second version the controller grants before the last rise has come through
abbrev before_grant_after_an_old_rise : List Edge
before_grant_after_an_old_rise = fall (Slot 1) Br ∷ rise Controller (Bg 3) ∷ fall (Slot 1) BgOut ∷ rise (Slot 1) Br ∷ fall Controller (Bg 3) ∷ fall (Slot 1) Br ∷ []

grant_after_an_old_rise : AreOthersAllowed Two one_board before_grant_after_an_old_rise (fall Controller (Bg 3)) ([])
grant_after_an_old_rise = record { accepted = refl; before = (refl, (refl, (refl, (refl, (refl, (refl, tt)))))); after = tt }

new_grant_is_lost : NoneLost Two one_board (fall Controller (Bg 3) ∷ before_grant_after_an_old_rise) → ⊥
new_grant_is_lost f = lost Two _ refl refl (f 3 refl (low_grant _ refl))

-- S3: in the second version the controller takes a grant back before the last board has passed it
-- on
abbrev before_time_out_of_a_travelling_grant : List Edge
before_time_out_of_a_travelling_grant = fall (Slot 1) BgOut ∷ fall Controller (Bg 3) ∷ fall (Slot 2) Br ∷ []

time_out_of_a_travelling_grant : AreOthersAllowed Two one_level before_time_out_of_a_travelling_grant (rise Controller (Bg 3)) ([])
time_out_of_a_travelling_grant = record { accepted = refl; before = (refl, (refl, (refl, tt))); after = tt }

run_begins_late : BeginsAtController Two one_level (rise Controller (Bg 3) ∷ before_time_out_of_a_travelling_grant) → ⊥
run_begins_late f = go (f 3 (Some 1) refl (record { part = (omega arith, (0, omega arith, refl)); low = refl }))
  where
    go : IsLow one_level (rise Controller (Bg 3) ∷ before_time_out_of_a_travelling_grant) 3 None
        ⊎ ((is_two Two ≡ true) × IsEndLow one_level (rise Controller (Bg 3) ∷ before_time_out_of_a_travelling_grant) 3) → ⊥
    go (inl l) = never l.low
    go (inr w) = never w.1

-- G2 in the first version
time_out : AreOthersAllowed One one_level before_time_out_of_a_travelling_grant (rise Controller (Bg 3)) []
time_out = record { accepted = refl; before = (refl, (refl, (refl, tt))); after = tt }

run_begins_late_too : BeginsAtController One one_level (rise Controller (Bg 3) ∷ before_time_out_of_a_travelling_grant) → ⊥
run_begins_late_too f = go (f 3 (Some 1) refl (record { part = (omega arith, (0, omega arith, refl)); low = refl }))
  where
    go : IsLow one_level (rise Controller (Bg 3) ∷ before_time_out_of_a_travelling_grant) 3 None
        ⊎ ((is_two One ≡ true) × IsEndLow one_level (rise Controller (Bg 3) ∷ before_time_out_of_a_travelling_grant) 3) → ⊥
    go (inl l) = never l.low
    go (inr w) = never w.0

-- G10: in the first version slot 1 withdraws its request, so nobody waits for the grant
abbrev before_withdrawal : List Edge
before_withdrawal = fall Controller (Bg 3) ∷ fall (Slot 1) Br ∷ []

withdrawal : AreOthersAllowed One one_board before_withdrawal (rise (Slot 1) Br) ([])
withdrawal = record { accepted = refl; before = (refl, (refl, tt)); after = tt }

nobody_waits : NoneLost One one_board (rise (Slot 1) Br ∷ before_withdrawal) → ⊥
nobody_waits f = go (f 3 refl (low_grant _ refl))
  where
    go : IsAwaited one_board (rise (Slot 1) Br ∷ before_withdrawal) 3 ⊎ ((is_two One ≡ true) × (was_withdrawn one_board (rise (Slot 1) Br ∷ before_withdrawal) 3 ≡ true)) → ⊥
    go (inl a) = never (subst (λ x. drive (rise (Slot 1) Br ∷ before_withdrawal) (Slot x) Br ≡ true) (sym (only_slot a.waiter a.member)) a.waits)
    go (inr w) = never w.0
