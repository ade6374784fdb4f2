use Rattle.std.proofs.Common.{◌≡◌, ◌<◌, ◌≤◌, ◌-◌, ℕ, true, false, length, refl, sym, ◌∙◌, subst, ap, arith, get_or}
use Rattle.std.specs.List.{slice_get}
use Rattle.std.proofs.lemmas.Option.{get_or_from_slice_get, slice_get_read}
use Rattle.vme_order_search.specs.declared.layers.Beginning.{Beginning}
use Rattle.vme_bus.specs.declared.kinds.BusKind.{BusKind}
use Rattle.vme_order_search.specs.declared.layers.Layer.{Layer}
use Rattle.vme_order_search.specs.declared.layers.Match.{Match}
use Rattle.vme_order_search.specs.declared.layers.Match.TheVariants.{Kind, Nothing, Places}
use Rattle.vme_order_search.specs.declared.taken.Taken.{Taken}
use Rattle.vme_order_search.specs.Layers.{Finds, StandsAt, StandsBelow}
use Rattle.vme_order_search.specs.Places.{bucket_of}
use Rattle.vme_order_search.proofs.Lists.{one_there}
use Rattle.vme_order_search.proofs.SameKinds.{equal_kinds, equal_taken, is_taken}
use Rattle.vme_order_search.proofs.Tables.{before_all, before_falls, before_stands}
use Rattle.vme_order_search.proofs.layers.Layer.find.Goals as goal
use Rattle.vme_order_search.proofs.layers.Layer.find.Goals.{then-eq+else-eq-2, else-eq}

pub returns-then-eq-2 : goal.returns-then-eq-2
returns-then-eq-2 c =
    let there : StandsAt c.args.self.now (c.bucket.at - 1) c.index-beginning.result.now =
    slice_get_read c.args.self.now.kept.items (length c.args.self.now.kept.items) (c.bucket.at - 1)
    c.index-beginning.result.now refl
    (let le : c.bucket.at ≤ length c.args.self.now.kept.items = c.bucket.invariant.0 in omega arith)
    c.index-beginning.ensures in (
      c.bucket.at - 1,
      c.index-beginning.result.now,
      there,
      equal_taken c.index-beginning.result.now.taken c.args.taken.now c.if-eq.ensures,
      equal_kinds c.index-beginning.result.now.bus c.args.bus.now c.if-eq-2.ensures,
    )

pub returns : goal.returns
returns c =
    by c.args.self.now c.args.taken.now c.args.bus.now c.bucket.found c.bucket.at
    (let none : c.bucket.at ≡ 0 = omega arith in none) c.bucket.invariant.2 c.bucket.invariant.3
  where
    by : (l : Layer) (t : Taken) (b : BusKind) (found : Match) (at : ℕ) → at ≡ 0
        → (found ≡ Nothing → (i : ℕ) (b : Beginning) → StandsAt l i b → b.taken ≡ t → i < at)
        → (found ≡ Kind → ⊥) → Finds l t b found
    by l t b Kind at none all never = absurd (never refl)
    by l t b Places at none all never = tt
    by l t b Nothing at none all never =
        λ i b there is. let lt : i < at = all refl i b there is in absurd (omega arith)

pub bucket-preserved : goal.bucket-preserved
bucket-preserved c =
    let l = c.args.self.now in
    let at = c.bucket.at in
    let some : 0 < at = omega arith in
    let low : at ≤ length l.kept.items = c.bucket.invariant.0 in
    let both : length l.before.items ≡ length l.kept.items = c.requires.both in
    let e : get_or l.before.items (at - 1) 0 ≡ c.index-at.result.now =
    get_or_from_slice_get l.before.items (at - 1) c.index-at.result.now 0
    (slice_get_read l.before.items (length l.before.items) (at - 1) c.index-at.result.now refl
    (omega arith) c.index-at.ensures) in
    let less : get_or l.before.items (at - 1) 0 < at = before_falls l at c.requires some in (
      let le : c.index-at.result.now ≤ length l.kept.items = omega arith in le,
      λ more. subst (λ n. StandsBelow l (bucket_of c.args.taken.now) n) e
          (before_stands l (bucket_of c.args.taken.now) at c.requires some (c.bucket.invariant.1 some)
          (subst (λ n. 0 < n) (sym e) more)),
      elim c.if-eq.branch [
        | then-eq+else-eq-2 w ↦ (λ nothing. absurd (not_both (sym w.found-is ∙ nothing)))
        | else-eq w ↦ (λ nothing i b there is. subst (λ n. i < n) e
            (before_all l (bucket_of c.args.taken.now) at i b c.requires some (c.bucket.invariant.1 some) there
            (ap bucket_of is) (c.bucket.invariant.2 (sym w.found-is ∙ nothing) i b there is)
            (λ place. true_false (sym w.if-eq.false ∙ c.eq.ensures
            ∙ is_taken c.index-beginning.result.now.taken c.args.taken.now
            (ap (λ (x : Beginning). x.taken) (one_there l.kept.items (at - 1) c.index-beginning.result.now b
            (slice_get_read l.kept.items (length l.kept.items) (at - 1) c.index-beginning.result.now refl
            (omega arith) c.index-beginning.ensures) (ap (slice_get l.kept.items) (sym place) ∙ there)) ∙ is)))))
      ],
      elim c.if-eq.branch [
        | then-eq+else-eq-2 w ↦ (λ kind. no_kind (sym w.found-is ∙ kind))
        | else-eq w ↦ (λ kind. c.bucket.invariant.3 (sym w.found-is ∙ kind))
      ],
    )
  where
    no_kind : Places ≡ Kind → ⊥
    no_kind h = cc

    not_both : Places ≡ Nothing → ⊥
    not_both h = cc

    true_false : false ≡ true → ⊥
    true_false h = cc
