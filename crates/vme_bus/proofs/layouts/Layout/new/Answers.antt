use Rattle.std.proofs.Common.{◌≡◌, ◌∙◌, refl, ap, ℕ, zero, suc, ◌<◌, [], ◌∷◌, get_or, arith}
use Rattle.vme_model.specs.Plan.{grant_chain, last_active}
use Rattle.vme_bus.specs.declared.layouts.Line.TheVariants as line
use Rattle.vme_bus.specs.Layouts.{HoldsLine, place_of, grant_head}
use Rattle.vme_bus.proofs.Seats.{seats_in_places, each_of_four, each_of_eight}
use Rattle.vme_bus.proofs.layouts.Layout.new.Goals as goal

pub returns : goal.returns
returns c =
    let p = c.args.plan.now in
    record {
      seats = seats_in_places p c.seats_of-seats.result c.accepted.ensures c.seats_of-seats.ensures.room c.seats_of-seats.ensures.seats;
      requests_room = refl;
      interrupts_room = refl;
      ends_room = refl;
      requests = each_of_four (λ n set. HoldsLine p (line.Request n) set) _ _ _ _ c.slots_on.ensures c.slots_on-2.ensures c.slots_on-3.ensures c.slots_on-4.ensures;
      interrupts = each_of_eight (λ n set. HoldsLine p (line.Interrupt n) set) _ _ _ _ _ _ _ _ c.slots_on-5.ensures c.slots_on-6.ensures c.slots_on-7.ensures c.slots_on-8.ensures c.slots_on-9.ensures
          c.slots_on-10.ensures c.slots_on-11.ensures c.slots_on-12.ensures;
      grant_ends = four;
      acknowledge_end = c.place_of.ensures ∙ ap (place_of 24) c.last_active.ensures;
      slots = c.slots.ensures;
      requesters = c.slots_on-13.ensures;
      interrupters = c.slots_on-14.ensures;
      boards = c.slots_on-15.ensures;
      granted_by = c.fed_by_places.ensures;
      acknowledged_by = c.fed_by_places-2.ensures;
    }
  where
    four : (n : ℕ) → n < 4 → get_or (c.grant_end.result ∷ c.grant_end-2.result ∷ c.grant_end-3.result ∷ c.grant_end-4.result ∷ []) n 0 ≡ place_of (grant_head n)
        (last_active c.args.plan.now (grant_chain n))
    four zero l = c.grant_end.ensures
    four (suc zero) l = c.grant_end-2.ensures
    four (suc (suc zero)) l = c.grant_end-3.ensures
    four (suc (suc (suc zero))) l = c.grant_end-4.ensures
    four (suc (suc (suc (suc n)))) l = absurd (omega arith)
