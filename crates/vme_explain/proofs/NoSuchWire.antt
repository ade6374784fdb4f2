-- In a legal list no edge is of a wire that no driver has.
use Rattle.std.proofs.Common.{◌≡◌, ◌∙◌, Bool, true, false, List, [], ◌∷◌, Some, None, refl, sym, ap, subst}
use Rattle.std.specs.Prelude.{◌&&◌, if◌then◌else◌}
use Rattle.vme_model.specs.declared.signals.Version.{Version}
use Rattle.vme_model.specs.declared.signals.Driver.{Driver}
use Rattle.vme_model.specs.declared.signals.Driver.TheVariants.{Controller, Slot}
use Rattle.vme_model.specs.declared.signals.Wire.{Wire}
use Rattle.vme_model.specs.declared.signals.Wire.TheVariants.{Bg, Bclr, Iack, Berr, Br, BgOut, Bbsy, Addr, AddressStrobe, DataStrobe, Irq, IackOut, Dtack}
use Rattle.vme_model.specs.declared.signals.Edge.{Edge}
use Rattle.vme_model.specs.Signals.{is_same_driver, is_same_wire, is_edge_of, has_wire}
use Rattle.vme_model.specs.Plan.{Plan}
use Rattle.vme_model.specs.Verdict.{IsLegal}
use Rattle.vme_model.specs.Numbered.{Numbered, edges_in, since}
use Rattle.vme_model.proofs.AllowedEdges.{all_passed}
use Rattle.vme_model.proofs.Bools.{never, same_number}

same_wire : (a b : Wire) → is_same_wire a b ≡ true → a ≡ b
same_wire (Bg m) (Bg n) e = ap (λ x. Bg x) (same_number m n e)
same_wire Bclr Bclr e = refl
same_wire Iack Iack e = refl
same_wire Berr Berr e = refl
same_wire Br Br e = refl
same_wire BgOut BgOut e = refl
same_wire Bbsy Bbsy e = refl
same_wire Addr Addr e = refl
same_wire AddressStrobe AddressStrobe e = refl
same_wire DataStrobe DataStrobe e = refl
same_wire Irq Irq e = refl
same_wire IackOut IackOut e = refl
same_wire Dtack Dtack e = refl
same_wire a b e = absurd (cc)

same_driver : (a b : Driver) → is_same_driver a b ≡ true → a ≡ b
same_driver Controller Controller e = refl
same_driver (Slot s) (Slot t) e = ap (λ x. Slot x) (same_number s t e)
same_driver Controller (Slot t) e = absurd (cc)
same_driver (Slot s) Controller e = absurd (cc)

-- an edge of a wire that some driver has is not of one that none has
other_wire : (e f : Driver) (v w : Wire) (a b : Bool) → is_same_wire v w ≡ a → is_same_driver e f ≡ b → has_wire e v ≡ true → has_wire f w ≡ false → (a && b) ≡ false
other_wire e f v w false b p q has lacks = refl
other_wire e f v w true false p q has lacks = refl
other_wire e f v w true true p q has lacks =
    absurd (never (sym lacks ∙ sym (ap (λ d. has_wire d w) (same_driver e f q)) ∙ sym (ap (has_wire e) (same_wire v w p)) ∙ has))

not_of : (version : Version) (p : Plan) (h : List Edge) (e : Edge) (d : Driver) (w : Wire) → IsLegal version p (e ∷ h) → has_wire d w ≡ false → is_edge_of d w e ≡ false
not_of version p h e d w l lacks =
    other_wire e.driver d e.wire w (is_same_wire e.wire w) (is_same_driver e.driver d) refl refl (all_passed version p h e.driver e.wire e.fall e.value l.0).wire lacks

pub never_moved : (version : Version) (p : Plan) (k : Numbered) (d : Driver) (w : Wire) → IsLegal version p (edges_in k) → has_wire d w ≡ false → since k d w ≡ None
never_moved version p [] d w l lacks = refl
never_moved version p ((n, e) ∷ k) d w l lacks =
    ap (λ (b : Bool). if b then Some n else since k d w) (not_of version p (edges_in k) e d w l lacks) ∙ never_moved version p k d w l.1 lacks

pub legal_in : (version : Version) (p : Plan) (h : List Edge) (k : Numbered) → edges_in k ≡ h → IsLegal version p h → IsLegal version p (edges_in k)
legal_in version p h k same l = subst (IsLegal version p) (sym same) l
