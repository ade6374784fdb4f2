-- `with` makes a value of no bytes, at the list with one more edge.
use Rattle.std.proofs.Common.{[], ◌∷◌, refl}
use Rattle.std.proofs.raw_atomic.Walks.{proved}
use mir.Syntax.{named}
use mir.Val.{vstruct, vcons, vnil, vunit}
use types.Kit.{raw, ‵, ◌⊛◌, ◌$◌, ◌∵◌, !, qed, move, drop, split, suffices, done}
use types.Part.{agg}
use types.Run.{enter, returns, and_then, no_more, unit_lit}
use types.ByLocal.{alloc_all, pass_all, free_all, look_at, sets}
use denote.Exit.{yes}
use denote.RattleType.{owns}
use denote.Ref.{shr_vals, shr_Tells}
use denote.Shadow.{pure_i}
use denote.Signature.{plain, types_at}
use denote.Triple.Entry.{alive}
use denote.Triple.Walked.{says, Stays, stay_none_ref, Goes-none_ref, walk_of, ends_at}
use Rattle.vme_model.specs.contracts.signals.Edge.{the_row as Edge}
use Rattle.vme_bus.specs.contracts.past.Past.{the_row as Past}
use Rattle.vme_bus.specs.contracts.past.Past.with as f
use Rattle.vme_bus.proofs.past.Past.with.Statement.{statement}
use Rattle.vme_bus.proofs.past.Past.with.Code as code

abbrev stayed : Stays f.ended.signature.params f.ended.kept
stayed = (
  stay_none_ref (0 ∷ []) tt (plain (λ _. Past)) yes,
  (stay_none_ref (1 ∷ []) tt (plain (λ _. Edge)) yes, tt),
)

pub with_spec : {M : Type 1} → statement M
with_spec 𝓤 𝓛 𝓜 𝓡 wired =
    let c = f.clauses 𝓛 𝓜.mem 𝓡.returns in
    proved 𝓛 f.ended stayed c 𝓜 𝓡 (
      Goes-none_ref 𝓛 2 (0 ∷ []) tt (plain (λ _. Past)) yes,
      (Goes-none_ref 𝓛 2 (1 ∷ []) tt (plain (λ _. Edge)) yes, tt),
    )
    f.Key.name code.function (code.unfolded 𝓤 𝓛.H 𝓜 𝓡 wired)
    (λ κs. (shr_vals, (shr_vals, tt)))
    (λ κs. (shr_Tells (named 0) κs.0 Past, (shr_Tells (named 1) κs.1.0 Edge, tt)))
    (λ κs qs bounds a g _.
    let W = walk_of 𝓛 f.ended stayed c in
    let y : W.Ghost = ((κs, qs, bounds, a, (shr_vals a.0, (shr_vals a.1.0, tt))), g) in
    let v = vstruct (vcons vunit vnil) in
    let made = a.1.0.now ∷ a.0.now in
    qed 𝓛 ((raw (alive 𝓛 f.signature κs qs) ⊛ ‵ (owns (types_at f.signature.params κs) a y.0.4)) ∷ raw ((c κs a).requires g) ∷ []) ∵
    move ! (1 ∷ []) $ drop ! $ split ! $
    enter ! _ _ _ _ _ $ alloc_all ! (λ l. pass_all ! refl ((tt, tt), ((tt, tt), tt)) $
    sets ! (agg ! (and_then ! (unit_lit !) (no_more !))) refl (tt, (tt, tt)) $ returns ! (look_at ! 0 refl) $ free_all ! refl $
    suffices ! _ (ends_at 𝓛 f.ended stayed c y v made (tt, (tt, tt)) (tt, (tt, tt))) $ says ! refl $
    pure_i ! (Past.own_val made (v ∷ [])) (λ x. (((λ vss. (tt, (tt, tt))), tt), tt))
    ((record { seal = tt; edges = made }, (refl, tt)), ((((vunit ∷ [], tt), (refl, (refl, tt))), tt), tt)) $
    move ! (1 ∷ 2 ∷ 0 ∷ []) $ done !))
