-- `new` makes a value of no bytes, at the empty list.
use Rattle.std.proofs.Common.{[], ◌∷◌, refl}
use Rattle.std.proofs.raw_atomic.Walks.{proved}
use mir.Val.{vstruct, vcons, vnil, vunit}
use types.Kit.{raw, ◌$◌, ◌∵◌, !, qed, keep, move, suffices, done}
use types.Part.{agg}
use types.Run.{enter, returns, and_then, no_more, unit_lit}
use types.ByLocal.{alloc_all, pass_all, free_all, look_at, sets}
use denote.Shadow.{pure_i}
use denote.Triple.Entry.{on_entry}
use denote.Triple.Walked.{says, ends_at}
use denote.Steps.{nothing}
use Rattle.vme_bus.specs.contracts.past.Past.{the_row as Past}
use Rattle.vme_bus.specs.contracts.past.Past.new as f
use Rattle.vme_bus.proofs.past.Past.new.Statement.{statement}
use Rattle.vme_bus.proofs.past.Past.new.Code as code

pub new_spec : {M : Type 1} → statement M
new_spec 𝓤 𝓛 𝓜 𝓡 wired =
    let c = f.clauses 𝓛 𝓜.mem 𝓡.returns in
    proved 𝓛 f.ended tt c 𝓜 𝓡 tt f.Key.name code.function (code.unfolded 𝓤 𝓛.H 𝓜 𝓡 wired)
    (λ κs. tt) (λ κs. tt) (λ κs qs bounds a g _.
    let v = vstruct (vcons vunit vnil) in let made = [] in
    qed 𝓛 (raw (on_entry 𝓛 f.signature κs qs a tt) ∷ raw ((c κs a).requires g) ∷ []) ∵ keep ! [] $
    enter ! _ _ _ _ _ $ alloc_all ! (λ l. pass_all ! refl tt $
    sets ! (agg ! (and_then ! (unit_lit !) (no_more !))) refl (tt, (tt, tt)) $ returns ! (look_at ! 0 refl) $ free_all ! refl $
    suffices ! _ (ends_at 𝓛 f.ended tt c ((κs, qs, bounds, a, tt), g) v made tt tt) $ says ! refl $
    pure_i ! (Past.own_val made (v ∷ [])) (λ x. (((λ vss. (tt, (tt, tt))), tt), tt))
    ((record { seal = tt; edges = made }, (refl, tt)), ((((vunit ∷ [], tt), (refl, (refl, tt))), tt), tt)) $
    nothing ! $ nothing ! $ move ! (0 ∷ 1 ∷ 2 ∷ []) $ done !))
