-- A look for one edge finds what the recursion reads.
use Rattle.std.proofs.Common.{◌≡◌, refl, true, false, List, [], ◌∷◌}
use Rattle.std.specs.Prelude.{Some, find, cond}
use Rattle.std.specs.Option.{option_map_or, option_and_then}
use Rattle.vme_model.specs.declared.signals.Driver.{Driver}
use Rattle.vme_model.specs.declared.signals.Wire.{Wire}
use Rattle.vme_model.specs.declared.signals.Wire.TheVariants.{Addr}
use Rattle.vme_model.specs.declared.signals.Edge.{Edge}
use Rattle.vme_model.specs.Signals.{is_edge_of, is_grant, grant_level}
use Rattle.vme_model.specs.History.{drive, last_value, last_level}

pub drive_find : (h : List Edge) (d : Driver) (w : Wire) → drive h d w ≡ option_map_or (λ e. e.fall) (find (is_edge_of d w) h) false
drive_find [] d w = refl
drive_find (e ∷ h) d w = elim (is_edge_of d w e) as (λ t. cond t e.fall (drive h d w) ≡ option_map_or (λ x. x.fall) (cond t (Some e) (find (is_edge_of d w) h)) false) [ true ↦ refl | false ↦ drive_find h d w ]

pub last_value_find : (h : List Edge) (d : Driver) → last_value h d ≡ option_and_then (λ e. e.value) (find (is_edge_of d Addr) h)
last_value_find [] d = refl
last_value_find (e ∷ h) d = elim (is_edge_of d Addr e) as (λ t. cond t e.value (last_value h d) ≡ option_and_then (λ x. x.value) (cond t (Some e) (find (is_edge_of d Addr) h))) [ true ↦ refl | false ↦ last_value_find h d ]

pub last_level_find : (h : List Edge) → last_level h ≡ option_map_or (λ e. grant_level e.wire) (find is_grant h) 0
last_level_find [] = refl
last_level_find (e ∷ h) = elim (is_grant e) as (λ t. cond t (grant_level e.wire) (last_level h) ≡ option_map_or (λ x. grant_level x.wire) (cond t (Some e) (find is_grant h)) 0) [ true ↦ refl | false ↦ last_level_find h ]
