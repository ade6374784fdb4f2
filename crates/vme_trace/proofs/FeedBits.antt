-- The line feeds of a block, as bits.
use Rattle.std.proofs.Common.{◌≡◌, ◌<◌, ◌≤◌, ◌+◌, ℕ, zero, suc, Bool, true, false, cond, eqb, List, [], ◌∷◌, length, map, get_or, take, drop, arith, refl, sym, ◌∙◌}
use Rattle.std.specs.Int.{bit_at}
use Rattle.std.specs.Simd.Lanes.{mask_l}
use Rattle.std.proofs.lemmas.Bool.{eqb-true}
use Rattle.std.proofs.lemmas.List.{get_or-map, length-map}
use Rattle.std.proofs.lemmas.Simd.{bit_mask_l, length-chunk, get_or-chunk}
use Rattle.vme_trace.proofs.Lines.{true_false}

abbrev pub is_feed : ℕ → Bool
is_feed x = eqb x 10

set_true : (b : Bool) → ◌≡◌ {A = ℕ} (cond b 1 0) 1 → b ≡ true
set_true true h = refl
set_true false h = absurd (omega arith)

inside : (bs : List Bool) (k : ℕ) → get_or bs k false ≡ true → k < length bs
inside [] k h = absurd (true_false (sym h))
inside (b ∷ bs) zero h = omega arith
inside (b ∷ bs) (suc k) h = let less = inside bs k h in omega arith

module _ (text : List ℕ) (at : ℕ) (room : at + 64 ≤ length text) where
  abbrev block : List ℕ
  block = take 64 (drop at text)

  long : length block ≡ 64
  long = length-chunk at 64 text room

  pub feed_from_bit : (k : ℕ) → bit_at (mask_l (map is_feed block)) k ≡ 1 → (k < 64) × (get_or text (at + k) 0 ≡ 10)
  feed_from_bit k set =
      let lane : get_or (map is_feed block) k false ≡ true = set_true _ (sym (bit_mask_l (map is_feed block) k) ∙ set) in
      let less : k < length (map is_feed block) = inside (map is_feed block) k lane in
      let same : length (map is_feed block) ≡ length block = length-map block is_feed in
      let small : k < length block = omega arith in
      let k64 : k < 64 = omega (arith, long) in (
        k64,
        sym (get_or-chunk at 64 text k 0 k64) ∙ eqb-true _ 10 (sym (get_or-map is_feed block k 0 false small) ∙ lane),
      )
