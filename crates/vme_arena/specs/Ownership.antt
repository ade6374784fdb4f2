-- What granules, pieces and blocks own. b is the object in which the region lies.
use Rattle.std.specs.Prelude.{◌≡◌, ℕ, zero, suc, ◌+◌, ◌-◌, ◌*◌, ◌/◌, ◌^◌, ◌<◌, Bool, true, false, List}
use mir.Syntax.{Ty, w8, w128, ty_int, ty_array}
use mir.Val.{Val, vint}
use prog.Memory.{size}
use base.Fraction.{full_share}
use base.Fml.{Lft, Fml, ffalse, ftrue, fsep, fex, fwand, fat}
use denote.RattleType.{RattleType}
use denote.Memory.{cell_at}
use denote.RawPtr.{Ptr, block_ptr, null_ptr, room_for}
use denote.Sharing.{said}
use denote.Hidden.{guarded}
use Rattle.vme_arena.specs.Stretch.{Stretch, LiesIn, rounded, block_size}

-- n bytes, as units of 16 that are aligned to 16
abbrev pub units_of : ℕ → Ty
units_of n = ty_array (ty_int w128) (n / 16)

-- n bytes without alignment
abbrev pub loose : ℕ → Ty
loose n = ty_array (ty_int w8) n

-- room for n bytes in units at p
abbrev pub units_at : Ptr → ℕ → Fml
units_at p n = room_for (units_of n) p

-- where granules and their tags begin
pub record Spot : Type 0 where
  pub block : ℕ
  pub at : ℕ
  pub tag : ℕ

-- p and t point to the n granules of a spot and to their tags
abbrev pub IsSpot : Spot → ℕ → Ptr → Ptr → Type 0
IsSpot s n p t = (p ≡ block_ptr s.block s.at) × (t ≡ block_ptr s.block s.tag)
    × (s.at + n * 16 < 2 ^ 63) × (s.tag + n < 2 ^ 63)

-- a tag: 1 for a granule that is at home
abbrev pub bit : Bool → ℕ
bit true = 1
bit false = 0

-- P if the test holds
abbrev pub only_if : Bool → Fml → Fml
only_if true P = P
only_if false P = ftrue

module _ (b : ℕ) where
  -- a tag at y, and the 16 bytes at x to which it belongs if they are at home
  abbrev pub granule : ℕ → ℕ → Fml
  granule x y = fex Bool
      (λ t. fsep (fat full_share (ty_int w8) b y (vint w8 (bit t)))
      (only_if t (units_at (block_ptr b x) 16)))

  -- n such granules
  unfoldable pub homes : ℕ → ℕ → ℕ → Fml
  homes x y zero = ftrue
  homes x y (suc n) = fsep (granule x y) (homes (x + 16) (y + 1) n)

-- the first n granules of a spot
abbrev pub homes_at : Spot → ℕ → Fml
homes_at s n = homes s.block s.at s.tag n

-- the bytes after k tags up to a multiple of 16, and the way back from all these bytes to units
abbrev pub padding_at : Spot → ℕ → Fml
padding_at s k = fsep (room_for (loose (rounded k - k)) (block_ptr s.block (s.tag + k)))
    (fwand (room_for (loose (rounded k)) (block_ptr s.block s.tag))
    (units_at (block_ptr s.block s.tag) (rounded k)))

-- room for m more granules and their tags after n of them, with the padding of all tags
abbrev pub blank_at : Spot → ℕ → ℕ → Fml
blank_at s n m = fsep (units_at (block_ptr s.block (s.at + n * 16)) (m * 16))
    (fsep (room_for (loose m) (block_ptr s.block (s.tag + n))) (padding_at s (n + m)))

-- the right to give the block for a τ at p, at the place `at`, back to a lease of the stretch s
abbrev pub token_at : Stretch → ℕ → Ty → Ptr → Fml
token_at s at τ p = fex (LiesIn s at (block_size (size τ)) p)
    (λ _. fwand (room_for τ p) (units_at p (block_size (size τ))))

-- the right to give the block for a τ at p back to a lease of the stretch s, at whatever place
abbrev pub block_token : Stretch → Ty → Ptr → Fml
block_token s τ p = fex ℕ (λ at. token_at s at τ p)

module _ (F : RattleType) (I : F.Denot → Fml) where
  -- fields for which I holds, in memory
  abbrev pub fields_with : ℕ → ℕ → Fml
  fields_with b o = fex (List Val)
      (λ vs. fsep (cell_at full_share F.mir vs b o)
      (fex F.Denot (λ i. fsep (F.own_val i vs) (I i))))

  -- the fields are reached with the thread's token, and I holds again afterwards
  abbrev pub behind_a_ref : Ptr → Lft → Fml
  behind_a_ref (block_ptr b o) = guarded (b, o) (fields_with b o)
  behind_a_ref null_ptr = said ffalse
