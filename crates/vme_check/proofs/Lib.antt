-- a check, piece by piece: src/checks.rt
pub mod CheckPieces
