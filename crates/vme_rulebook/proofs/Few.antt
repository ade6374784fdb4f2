-- No rule has more than seven conditions.
use Rattle.std.proofs.Common.{◌≤◌, length, arith}
use Rattle.vme_model.specs.declared.sentences.Rule.{Rule}
use Rattle.vme_model.specs.declared.sentences.Rule.TheVariants.{E1, E2, G1, G2, G3, G4, G5, G6, G7, G8, G9, G10, G11, G12, G13, G14, G15, G16, G17, G18, G19, G20, G21, G22, G23, G24, G25, G26, S1, S2, S3, S4, E5}
use Rattle.vme_model.specs.Sources.{sources}

pub seven_at_most : (r : Rule) → length (sources r) ≤ 7
seven_at_most E1 = omega arith
seven_at_most E2 = omega arith
seven_at_most G1 = omega arith
seven_at_most G2 = omega arith
seven_at_most G3 = omega arith
seven_at_most G4 = omega arith
seven_at_most G5 = omega arith
seven_at_most G6 = omega arith
seven_at_most G7 = omega arith
seven_at_most G8 = omega arith
seven_at_most G9 = omega arith
seven_at_most G10 = omega arith
seven_at_most G11 = omega arith
seven_at_most G12 = omega arith
seven_at_most G13 = omega arith
seven_at_most G14 = omega arith
seven_at_most G15 = omega arith
seven_at_most G16 = omega arith
seven_at_most G17 = omega arith
seven_at_most G18 = omega arith
seven_at_most G19 = omega arith
seven_at_most G20 = omega arith
seven_at_most G21 = omega arith
seven_at_most G22 = omega arith
seven_at_most G23 = omega arith
seven_at_most G24 = omega arith
seven_at_most G25 = omega arith
seven_at_most G26 = omega arith
seven_at_most S1 = omega arith
seven_at_most S2 = omega arith
seven_at_most S3 = omega arith
seven_at_most S4 = omega arith
seven_at_most E5 = omega arith
