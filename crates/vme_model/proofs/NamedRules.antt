-- Each edge has the rule that the table of guards names, and the settling rule that its table names.
use Rattle.std.proofs.Common.{◌≡◌, Bool, true, false, List, [], ◌++◌, Option, refl, codes, decimal}
use Rattle.std.specs.Fmt.{digits}
use Rattle.std.specs.List.{All}
use Rattle.std.specs.Option.{option_to_list}
use Rattle.std.proofs.lemmas.List.Elements.{All-nil, All-cons}
use Rattle.vme_model.specs.declared.sentences.Rule.{Rule}
use Rattle.vme_model.specs.declared.sentences.Rule.TheVariants.{S1, S2, S3, S4}
use Rattle.vme_model.specs.declared.signals.Cycle.{Cycle}
use Rattle.vme_model.specs.declared.signals.Edge.{Edge}
use Rattle.vme_model.specs.declared.signals.Version.{Version}
use Rattle.vme_model.specs.declared.signals.Wire.{Wire}
use Rattle.vme_model.specs.declared.signals.Wire.TheVariants.{Bg, Bclr, Iack, Berr, Br, BgOut, Bbsy, Addr, AddressStrobe, DataStrobe, Irq, IackOut, Dtack}
use Rattle.vme_model.specs.Plan.{Plan}
use Rattle.vme_model.specs.Readings.{Readings}
use Rattle.vme_model.specs.Rules.{guard}
use Rattle.vme_model.specs.Sentences.{rule_name}
use Rattle.vme_model.specs.Settling.{settling_guard}
use Rattle.vme_model.specs.Sources.{rule_of, settling_of}

pub edges_are_named : (version : Version) (r : Readings) (w : Wire) (fall : Bool) (v : Option Cycle) → rule_name (rule_of w fall) ≡ codes "G" ++ decimal (guard version r w fall v).0
unfolding digits
edges_are_named version r (Bg n) true v = refl
edges_are_named version r (Bg n) false v = refl
edges_are_named version r Bclr true v = refl
edges_are_named version r Bclr false v = refl
edges_are_named version r Iack true v = refl
edges_are_named version r Iack false v = refl
edges_are_named version r Berr true v = refl
edges_are_named version r Berr false v = refl
edges_are_named version r Br true v = refl
edges_are_named version r Br false v = refl
edges_are_named version r BgOut true v = refl
edges_are_named version r BgOut false v = refl
edges_are_named version r Bbsy true v = refl
edges_are_named version r Bbsy false v = refl
edges_are_named version r Addr true v = refl
edges_are_named version r Addr false v = refl
edges_are_named version r AddressStrobe true v = refl
edges_are_named version r AddressStrobe false v = refl
edges_are_named version r DataStrobe true v = refl
edges_are_named version r DataStrobe false v = refl
edges_are_named version r Irq true v = refl
edges_are_named version r Irq false v = refl
edges_are_named version r IackOut true v = refl
edges_are_named version r IackOut false v = refl
edges_are_named version r Dtack true v = refl
edges_are_named version r Dtack false v = refl

abbrev IsNamed : Version → Plan → List Edge → Wire → Bool → Rule → Type 0
IsNamed version p h w fall r = rule_name r ≡ codes "S" ++ decimal (settling_guard version p h w fall).0

pub settling_is_named : (version : Version) (p : Plan) (h : List Edge) (w : Wire) (fall : Bool) → All (IsNamed version p h w fall) (option_to_list (settling_of w fall))
unfolding digits
settling_is_named version p h (Bg n) true = All-cons (IsNamed version p h (Bg n) true) S4 [] refl (All-nil (IsNamed version p h (Bg n) true))
settling_is_named version p h (Bg n) false = All-cons (IsNamed version p h (Bg n) false) S3 [] refl (All-nil (IsNamed version p h (Bg n) false))
settling_is_named version p h Bclr true = All-nil (IsNamed version p h Bclr true)
settling_is_named version p h Bclr false = All-nil (IsNamed version p h Bclr false)
settling_is_named version p h Iack true = All-nil (IsNamed version p h Iack true)
settling_is_named version p h Iack false = All-nil (IsNamed version p h Iack false)
settling_is_named version p h Berr true = All-cons (IsNamed version p h Berr true) S2 [] refl (All-nil (IsNamed version p h Berr true))
settling_is_named version p h Berr false = All-nil (IsNamed version p h Berr false)
settling_is_named version p h Br true = All-nil (IsNamed version p h Br true)
settling_is_named version p h Br false = All-nil (IsNamed version p h Br false)
settling_is_named version p h BgOut true = All-nil (IsNamed version p h BgOut true)
settling_is_named version p h BgOut false = All-nil (IsNamed version p h BgOut false)
settling_is_named version p h Bbsy true = All-nil (IsNamed version p h Bbsy true)
settling_is_named version p h Bbsy false = All-nil (IsNamed version p h Bbsy false)
settling_is_named version p h Addr true = All-nil (IsNamed version p h Addr true)
settling_is_named version p h Addr false = All-nil (IsNamed version p h Addr false)
settling_is_named version p h AddressStrobe true = All-cons (IsNamed version p h AddressStrobe true) S1 [] refl (All-nil (IsNamed version p h AddressStrobe true))
settling_is_named version p h AddressStrobe false = All-nil (IsNamed version p h AddressStrobe false)
settling_is_named version p h DataStrobe true = All-nil (IsNamed version p h DataStrobe true)
settling_is_named version p h DataStrobe false = All-nil (IsNamed version p h DataStrobe false)
settling_is_named version p h Irq true = All-nil (IsNamed version p h Irq true)
settling_is_named version p h Irq false = All-nil (IsNamed version p h Irq false)
settling_is_named version p h IackOut true = All-nil (IsNamed version p h IackOut true)
settling_is_named version p h IackOut false = All-nil (IsNamed version p h IackOut false)
settling_is_named version p h Dtack true = All-nil (IsNamed version p h Dtack true)
settling_is_named version p h Dtack false = All-nil (IsNamed version p h Dtack false)
