-- There are slots, so the rows decide, and then the jumpers.
use Rattle.std.proofs.Common.{◌≡◌, sym, ap, ◌∙◌, subst, map, rules}
use Rattle.std.specs.Prelude.{Some, None, option_map}
use Rattle.std.specs.Option.{option_or}
use Rattle.vme_model.specs.declared.refusals.Field.TheVariants.{Slots}
use Rattle.vme_model.specs.declared.refusals.PlanError.TheVariants.{OutOfRange}
use Rattle.vme_model.specs.Plan.{Plan}
use Rattle.vme_model.specs.Accepted.{out_of_range, first_of, row_range, jumper_range}
use Rattle.vme_slots.proofs.Slots.{first_past}
use Rattle.vme_slots.proofs.faults.Draft.out_of_range.Goals as goal

pub returns-in-Some : goal.returns-in-Some
returns-in-Some c =
    let p = c.self.inside in
    let rows = map (row_range p.slots) p.rows.now in
    let jumpers = map (jumper_range p.slots) p.jumpers.now in
    let found : first_of rows ≡ Some c.in-Some.field = sym c.rows_range.ensures ∙ c.in-Some.is in
    subst (λ (q : Plan). Some (OutOfRange c.in-Some.field) ≡ out_of_range q) c.self.view_is
    (sym (ap (option_map (λ f. OutOfRange f)) (first_past p.slots Slots rows jumpers c.if-self-eq0.false ∙ ap (λ o. option_or o (first_of jumpers)) found)))

pub returns : goal.returns
returns c =
    let p = c.self.inside in
    let rows = map (row_range p.slots) p.rows.now in
    let jumpers = map (jumper_range p.slots) p.jumpers.now in
    let none : first_of rows ≡ None = sym c.rows_range.ensures ∙ c.in_default.is in
    let mapped : c.map.result ≡ option_map (λ f. OutOfRange f) c.jumpers_range.result = search rules in
    subst (λ (q : Plan). c.map.result ≡ out_of_range q) c.self.view_is (mapped ∙ ap (option_map (λ f. OutOfRange f))
    (c.jumpers_range.ensures ∙ sym (first_past p.slots Slots rows jumpers c.if-self-eq0.false ∙ ap (λ o. option_or o (first_of jumpers)) none)))
