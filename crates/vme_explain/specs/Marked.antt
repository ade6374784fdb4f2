-- Which marks numbered edges lead to.
use Rattle.std.specs.Prelude.{◌≡◌, ◌<◌, ◌^◌, ℕ, true, None, length, slice_index_or}
use Rattle.vme_model.specs.declared.boards.IrqKind.TheVariants.{Roak, Rora}
use Rattle.vme_model.specs.declared.signals.Driver.{Driver}
use Rattle.vme_model.specs.declared.signals.Driver.TheVariants.{Slot}
use Rattle.vme_model.specs.declared.signals.Wire.{Wire}
use Rattle.vme_model.specs.Signals.{has_wire}
use Rattle.vme_model.specs.Plan.{Plan}
use Rattle.vme_model.specs.History.{cycles}
use Rattle.vme_model.specs.Numbered.{Numbered, edges_in, since, granted_since, served_since, strobed_at}
use Rattle.vme_explain.specs.declared.marks.Marks.{Marks}
use Rattle.vme_explain.specs.declared.moves.Moves.{Moves}
use Rattle.vme_explain.specs.declared.services.Services.{Services}
use Rattle.vme_explain.specs.Marks.{place}

-- each field is that look back through the edges
pub record IsMovesOf (k : Numbered) (m : Moves) : Type 0 where
  pub places : length m.wires ≡ 198
  pub wires :
      (d : Driver) (w : Wire) → has_wire d w ≡ true
      → slice_index_or m.wires (place d w) None ≡ since k d w
  pub grant : m.grant ≡ granted_since k

pub record IsServicesOf (p : Plan) (k : Numbered) (m : Services) : Type 0 where
  pub boards :
      (length m.strobes ≡ 22) × (length m.acknowledged ≡ 22) × (length m.accessed ≡ 22)
      × (length m.made ≡ 22)
  pub strobes : (s : ℕ) → s < 22 → slice_index_or m.strobes s None ≡ strobed_at k (Slot s)
  pub acknowledged :
      (s : ℕ) → s < 22
      → slice_index_or m.acknowledged s None ≡ served_since p k (Slot s) Roak
  pub accessed :
      (s : ℕ) → s < 22 → slice_index_or m.accessed s None ≡ served_since p k (Slot s) Rora
  -- a count below 2^64
  pub made :
      (s : ℕ) → s < 22 → cycles (edges_in k) (Slot s) < 2 ^ 64
      → slice_index_or m.made s 0 ≡ cycles (edges_in k) (Slot s)

-- both parts are those of the same edges
pub record IsMarksOf (p : Plan) (k : Numbered) (m : Marks) : Type 0 where
  pub moves : IsMovesOf k m.moves
  pub services : IsServicesOf p k m.services

-- what holds of all numbered edges that the marks are of
abbrev pub OfNumbered : Marks → (Plan → Numbered → Type 0) → Type 0
OfNumbered m P = (p : Plan) (k : Numbered) → IsMarksOf p k m → P p k
