-- The last accepted edges with the next one.
use Rattle.std.proofs.Common.{◌≡◌, ◌+◌, ◌<◌, ◌≤◌, ◌++◌, ◌∷◌, [], ℕ, true, List, length, take, drop, refl, sym, ◌∙◌, ap, subst, take-append-drop, arith}
use Rattle.std.proofs.lemmas.List.{length-take}
use Rattle.vme_model.specs.declared.signals.Version.{Version}
use Rattle.vme_model.specs.Plan.{Plan}
use Rattle.vme_model.specs.Numbered.{Numbered, edges_in}
use Rattle.vme_races.specs.declared.earlier.Earlier.{Earlier}
use Rattle.vme_races.specs.declared.recent.Recent.{Recent}
use Rattle.vme_races.specs.Kinds.{IsKindOf}
use Rattle.vme_races.specs.Kept.{AreHeld, AreLast, IsReady}

module _ (v : Version) (p : Plan) where
  held_front : (k : Numbered) (xs ys : List Earlier) → AreHeld v p k (xs ++ ys) → AreHeld v p k xs
  held_front k [] ys h = tt
  held_front [] (x ∷ xs) ys h = absurd h
  held_front ((n, e) ∷ k) (x ∷ xs) ys h = (h.0, h.1, h.2, held_front k xs ys h.3)

  module _ (k : Numbered) (old now : Recent) (last : AreLast v p k old) where
    -- the oldest one went
    pub ready_full : (n : ℕ) → n + 1 ≡ length old.edges.items → 200 ≤ length old.edges.items
        → now.edges.items ≡ take n old.edges.items → now.has_more ≡ true → IsReady v p k now
    ready_full n one full is more =
        let items = ap length is ∙ length-take n old.edges.items in
        let count = last.count in
        record {
          held = subst (AreHeld v p k) (sym is)
              (held_front k (take n old.edges.items) (drop n old.edges.items)
              (subst (AreHeld v p k) (sym (take-append-drop n old.edges.items)) last.held));
          count = omega (arith, items, count, one, full);
          more = λ t. omega (arith, count, full);
          whole = λ t. absurd (cc (more, t));
        }

    -- there was room
    pub ready_within : length old.edges.items < 200 → IsReady v p k old
    ready_within room =
        let count = last.count in
        record {
          held = last.held;
          count = omega (arith, count, room);
          more = λ t. (let more = last.more t in omega (arith, more));
          whole = λ t. (let whole = last.whole t in omega (arith, count, room, whole));
        }

  pub pushed : (k : Numbered) (mid now : Recent) (a : Earlier) → IsReady v p k mid
      → IsKindOf v p (edges_in k) a.before → now.edges.items ≡ a ∷ mid.edges.items
      → now.has_more ≡ mid.has_more → AreLast v p ((a.number, a.edge) ∷ k) now
  pushed k mid now a ready state is same =
      let new = ap length is in
      let count = ready.count in
      record {
        held = subst (AreHeld v p ((a.number, a.edge) ∷ k)) (sym is) (refl, refl, state, ready.held);
        count = omega (arith, new, count);
        more = λ t. (let more = ready.more (sym same ∙ t) in omega (arith, more));
        whole = λ t. (let whole = ready.whole (sym same ∙ t) in omega (arith, whole));
      }
