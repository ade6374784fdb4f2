-- A part that there is.
use Rattle.std.proofs.Common.{◌≡◌, ◌<◌, sym, refl, ap, ◌∙◌, length}
use Rattle.std.specs.Prelude.{◌||◌, not, ℕ, Bool, true, false, List, Option, Some, None, option_map, is_some, slice_index_or}
use Rattle.std.specs.Option.{option_map_or, option_and_then}
use Rattle.std.proofs.lemmas.Option.{slice_get-get_or}
use Rattle.vme_model.specs.declared.boards.Row.{Row}
use Rattle.vme_model.specs.declared.signals.Version.{Version}
use Rattle.vme_model.specs.declared.signals.Driver.TheVariants.{Slot}
use Rattle.vme_model.specs.declared.signals.Edge.{Edge}
use Rattle.vme_model.specs.declared.signals.Wire.{Wire}
use Rattle.vme_model.specs.declared.signals.Wire.TheVariants.{Br, BgOut, Bbsy, Addr, AddressStrobe, DataStrobe, Irq, IackOut, Dtack}
use Rattle.vme_model.specs.Plan.{Plan, drives}
use Rattle.vme_model.specs.History.{drive}
use Rattle.vme_requester.specs.Local.{requester_of}
use Rattle.vme_master.specs.Local.{master_of}
use Rattle.vme_interrupter.specs.Local.{seen, edges}
use Rattle.vme_interrupter.proofs.Seen.{edges_seen}
use Rattle.vme_wiring.specs.Boards.{parts_of, low_of, place}
use Rattle.vme_wiring.specs.declared.boards.Board.{Board}

-- what holds for each part holds for the part that there is
pub mapped : {X A : Type 0} (f g : X → A) (row : Option X) (a b : A) → Some a ≡ option_map f row → ((q : X) → a ≡ f q → b ≡ g q) → Some b ≡ option_map g row
mapped {X} {A} f g None a b e next = absurd (cc)
mapped {X} {A} f g (Some q) a b e next = ap (λ (x : A). Some x) (next q (cc))

pub record IsPart {X A : Type 0} (f : X → A) (row : Option X) (a : A) : Type 0 where
  pub of : X
  pub is_row : row ≡ Some of
  pub is_part : a ≡ f of

pub part : {X A : Type 0} (f : X → A) (row : Option X) (a : A) → Some a ≡ option_map f row → IsPart f row a
part {X} {A} f None a e = absurd (cc)
part {X} {A} f (Some q) a e = record { of = q; is_row = refl; is_part = cc }

-- the wires of a board's parts are those of its slot
low_part : {X A : Type 0} (g : A → Bool) (f : X → A) (b : Bool) (o : Option X) → is_some o ≡ true → ((q : X) → g (f q) ≡ b) → option_map_or g (option_map f o) false ≡ b
low_part {X} {A} g f b None some same = absurd (cc)
low_part {X} {A} g f b (Some q) some same = same q

low_seen : (p : Plan) (h : List Edge) (s : ℕ) (w : Wire) → drive (edges (seen p h)) (Slot s) w ≡ drive h (Slot s) w
low_seen p h s w = ap (λ (x : List Edge). drive x (Slot s) w) (edges_seen p h)

pub low_driven : (version : Version) (p : Plan) (h : List Edge) (r : Row) (w : Wire) → drives w r ≡ true → low_of (parts_of version p h r) w ≡ drive h (Slot r.slot) w
low_driven version p h r Br has = low_part (λ q. q.br) (λ q. requester_of r.slot q version h) (drive h (Slot r.slot) Br) r.requester has (λ q. refl)
low_driven version p h r BgOut has = low_part (λ q. q.bgout) (λ q. requester_of r.slot q version h) (drive h (Slot r.slot) BgOut) r.requester has (λ q. refl)
low_driven version p h r Bbsy has = low_part (λ q. q.bbsy) (λ q. requester_of r.slot q version h) (drive h (Slot r.slot) Bbsy) r.requester has (λ q. refl)
low_driven version p h r Addr has = low_part (λ m. m.addr) (λ q. master_of r.slot q r.handler h) (drive h (Slot r.slot) Addr) r.requester has (λ q. refl)
low_driven version p h r AddressStrobe has = low_part (λ m. m.address_strobe) (λ q. master_of r.slot q r.handler h) (drive h (Slot r.slot) AddressStrobe) r.requester has (λ q. refl)
low_driven version p h r DataStrobe has = low_part (λ m. m.data_strobe) (λ q. master_of r.slot q r.handler h) (drive h (Slot r.slot) DataStrobe) r.requester has (λ q. refl)
low_driven version p h r Irq has = low_seen p h r.slot Irq
low_driven version p h r IackOut has = low_seen p h r.slot IackOut
low_driven version p h r Dtack has = low_seen p h r.slot Dtack
low_driven version p h r w has = absurd (cc)

pub low_at : (version : Version) (p : Plan) (h : List Edge) (r : Row) (b : Board) (w : Wire) → b ≡ parts_of version p h r → drives w r ≡ true → low_of b w ≡ drive h (Slot r.slot) w
low_at version p h r b w same has = ap (λ (x : Board). low_of x w) same ∙ low_driven version p h r w has

pub free_at : (version : Version) (p : Plan) (h : List Edge) (r : Row) (b : Board) → b ≡ parts_of version p h r → is_some r.requester ≡ true →
    (not (low_of b Addr) || low_of b AddressStrobe) ≡ (not (drive h (Slot r.slot) Addr) || drive h (Slot r.slot) AddressStrobe)
free_at version p h r b same has =
    ap (λ t. not t || low_of b AddressStrobe) (low_at version p h r b Addr same has)
    ∙ ap (λ t. not (drive h (Slot r.slot) Addr) || t) (low_at version p h r b AddressStrobe same has)

-- what is read at a slot stands in its place
pub read_place : (boards : List (Option Board)) (s : ℕ) (other : Option Board) → s < length boards → slice_index_or boards s other ≡ place boards s
read_place boards s other l = sym (ap (option_and_then (λ (b : Option Board). b)) (slice_get-get_or boards s other l))
