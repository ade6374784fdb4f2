-- A walk, edge by edge.
use Rattle.std.proofs.Common.{◌≡◌, ◌∙◌, sym, ap, ℕ, zero, suc}
use Rattle.std.specs.Prelude.{Option, Some, None}
use Rattle.std.specs.Option.{option_map_or}
use Rattle.vme_model.specs.declared.signals.Edge.{Edge}
use Rattle.vme_model.specs.declared.signals.Version.{Version}
use Rattle.vme_model.specs.Plan.{Plan}
use Rattle.vme_seeds.specs.Walks.{Walk, next_edge, drawn, with_edge, walked}

module _ (more : ℕ) (w v : Walk) (is : v ≡ drawn w) where
  abbrev on_by : Option Edge → Walk
  on_by o = option_map_or (λ e. walked more (with_edge (drawn w) e)) o (drawn w)

  -- no edge is open
  pub walk_ends : None ≡ next_edge w → v ≡ walked (suc more) w
  walk_ends none = is ∙ ap on_by none

  -- an edge is made
  pub walk_goes_on : (e : Edge) (u : Walk) → Some e ≡ next_edge w → u ≡ with_edge v e → walked (suc more) w ≡ walked more u
  walk_goes_on e u drew made = sym (ap on_by drew) ∙ sym (ap (walked more) (made ∙ ap (λ (x : Walk). with_edge x e) is))

-- the version and the plan stay the same
pub record IsOn (v : Version) (p : Plan) (w : Walk) : Type 0 where
  pub version : w.state.version ≡ v
  pub plan : w.state.plan ≡ p

stays_by : (version : Version) (p : Plan) (more : ℕ) (w : Walk) (o : Option Edge) → IsOn version p w → ((v : Walk) → IsOn version p v → IsOn version p (walked more v))
    → IsOn version p (option_map_or (λ e. walked more (with_edge (drawn w) e)) o (drawn w))
stays_by version p more w None on rest = record { version = on.version; plan = on.plan }
stays_by version p more w (Some e) on rest = rest (with_edge (drawn w) e) (record { version = on.version; plan = on.plan })

pub stays_on : (version : Version) (p : Plan) (n : ℕ) (w : Walk) → IsOn version p w → IsOn version p (walked n w)
stays_on version p zero w on = on
stays_on version p (suc more) w on = stays_by version p more w (next_edge w) on (stays_on version p more)
