use Rattle.std.proofs.Common.{◌≡◌, ◌∙◌, ◌≤◌, ◌+◌, inl, false, None, Some, ◌∷◌, ap, subst, sym, arith, get_or, is_ok}
use Rattle.std.specs.List.{slice_get}
use Rattle.std.proofs.lemmas.Option.{slice_get-get_or}
use Rattle.vme_model.specs.declared.signals.Driver.TheVariants.{Controller}
use Rattle.vme_model.specs.declared.signals.Wire.TheVariants.{Bg}
use Rattle.vme_moments.specs.declared.Seen.{Seen}
use Rattle.vme_bus.specs.declared.states.BusState.{BusState}
use Rattle.vme_order_search.specs.Searching.{GoesOn, IsBusOf}
use Rattle.vme_order_search.proofs.Outcomes.{an_error, given_leads, goes_on, never_legal, no_error}
use Rattle.vme_order_search.proofs.Searched.{far_place, front_path, other_state, refused_place}
use Rattle.vme_order_search.proofs.search.Search.try_place.Goals as goal

abbrev nothing : Seen
nothing = record {
  edge = record { driver = Controller; wire = Bg 0; fall = false; value = None };
  moment = 0;
  line = 0;
}

pub returns-then-is_err-clause-kept : goal.returns-then-is_err-clause-kept
returns-then-is_err-clause-kept c t n m eq here next =
    let there = here.there in
    let w = here.made in
    let place = c.args.place in
    let old = c.args.self.now in
    let front = c.args.front.now in
    let b = c.set_kind.new.self in
    let s : Seen = get_or c.args.seen.now place nothing in
    let at : slice_get t.seen place ≡ Some s = ap (λ l. slice_get l place) eq
    ∙ slice_get-get_or c.args.seen.now place nothing c.requires.within in
    let e = an_error c.step.result (sym c.if-is_err.ensures.value) in
    let first = front_path t n m place old front w there in
    refused_place t n m place old front c.step.new.self w there
    (never_legal t place s front old.state b e.0 c.set_kind.ensures w.bus at
    (λ version p h of. sym e.1 ∙ c.step.ensures.answer version p h of))
    (subst (λ (x : BusState). IsBusOf t x) (sym (c.step.ensures.refused (ap is_ok e.1)))
    (w.paths m, given_leads t old.state b front.bus (w.paths m) c.set_kind.ensures w.bus first.leads))

pub returns-then-place-least-ge-WINDOW-clause-kept : goal.returns-then-place-least-ge-WINDOW-clause-kept
returns-then-place-least-ge-WINDOW-clause-kept c t n m eq here next =
    let there = here.there in
    let w = here.made in
    let place = c.args.place in
    let old = c.args.self.now in
    let front = c.args.front.now in
    let b = c.set_kind.new.self in
    let s : Seen = get_or c.args.seen.now place nothing in
    let at : slice_get t.seen place ≡ Some s = ap (λ l. slice_get l place) eq
    ∙ slice_get-get_or c.args.seen.now place nothing c.requires.within in
    let f = no_error c.step.result (sym c.if-is_err.ensures.value) in
    let goes : GoesOn t front place c.step.new.self = goes_on t place s front old.state b
    c.step.new.self f.0 c.set_kind.ensures w.bus at
    (λ version p h of. sym f.1 ∙ c.step.ensures.answer version p h of) c.step.ensures.state next in
    let first = front_path t n m place old front w there in
    let bus : IsBusOf t c.step.new.self =
    (place ∷ w.paths m, (goes (w.paths m) first.leads first.taken).0) in
    let least : c.least.result ≡ front.taken.least = c.least.ensures in
    let far : front.taken.least + 128 ≤ place = omega arith in (
      other_state t n m place old c.step.new.self w bus,
      λ width. inl (far_place t n m place old front c.step.new.self w there goes far),
    )

pub returns-clause-kept : goal.returns-clause-kept
returns-clause-kept c t n m eq here next =
    let there = here.there in
    let w = here.made in
    let place = c.args.place in
    let old = c.args.self.now in
    let front = c.args.front.now in
    let b = c.set_kind.new.self in
    let s : Seen = get_or c.args.seen.now place nothing in
    let at : slice_get t.seen place ≡ Some s = ap (λ l. slice_get l place) eq
    ∙ slice_get-get_or c.args.seen.now place nothing c.requires.within in
    let f = no_error c.step.result (sym c.if-is_err.ensures.value) in
    let goes : GoesOn t front place c.step.new.self = goes_on t place s front old.state b
    c.step.new.self f.0 c.set_kind.ensures w.bus at
    (λ version p h of. sym f.1 ∙ c.step.ensures.answer version p h of) c.step.ensures.state next in
    let first = front_path t n m place old front w there in
    let bus : IsBusOf t c.step.new.self =
    (place ∷ w.paths m, (goes (w.paths m) first.leads first.taken).0) in
    c.keep.ensures.kept t n m (record { there = there; made = other_state t n m place old c.step.new.self w bus }) goes
