-- The order of the kinds.
use Rattle.std.proofs.Common.{◌≡◌, ◌∙◌, refl, ap, ℕ, zero, suc, ◌<◌, List, [], ◌∷◌, map, length, slice_index, arith}
use Rattle.std.specs.Prelude.{Some, slice_get}
use Rattle.std.specs.List.{Contains, range_with_len}
use Rattle.std.proofs.lemmas.List.FromFn.{fill_by_all}
use Rattle.vme_seeds.specs.declared.kinds.Kind.{Kind}
use Rattle.vme_seeds.specs.declared.kinds.Kind.TheVariants.{BgFall, BgRise, BclrFall, BclrRise, IackFall, IackRise, BerrFall, BerrRise, BrFall, BrRise, BgOutFall, BgOutRise, BbsyFall, BbsyRise, Acknowledge, Access, EmptyAccess, AddrOff, AddressStrobeFall, AddressStrobeRise, DataStrobeFall, DataStrobeRise, IrqFall, IrqRise, IackOutFall, IackOutRise, DtackFall, DtackRise}
use Rattle.vme_seeds.specs.Kinds.{kinds, number}

pub number_below : (k : Kind) → number k < 28
number_below BgFall = omega arith
number_below BgRise = omega arith
number_below BclrFall = omega arith
number_below BclrRise = omega arith
number_below IackFall = omega arith
number_below IackRise = omega arith
number_below BerrFall = omega arith
number_below BerrRise = omega arith
number_below BrFall = omega arith
number_below BrRise = omega arith
number_below BgOutFall = omega arith
number_below BgOutRise = omega arith
number_below BbsyFall = omega arith
number_below BbsyRise = omega arith
number_below Acknowledge = omega arith
number_below Access = omega arith
number_below EmptyAccess = omega arith
number_below AddrOff = omega arith
number_below AddressStrobeFall = omega arith
number_below AddressStrobeRise = omega arith
number_below DataStrobeFall = omega arith
number_below DataStrobeRise = omega arith
number_below IrqFall = omega arith
number_below IrqRise = omega arith
number_below IackOutFall = omega arith
number_below IackOutRise = omega arith
number_below DtackFall = omega arith
number_below DtackRise = omega arith

-- a kind stands at its number
pub kind_stands : (k : Kind) → slice_get kinds (number k) ≡ Some k
unfolding kinds
kind_stands BgFall = refl
kind_stands BgRise = refl
kind_stands BclrFall = refl
kind_stands BclrRise = refl
kind_stands IackFall = refl
kind_stands IackRise = refl
kind_stands BerrFall = refl
kind_stands BerrRise = refl
kind_stands BrFall = refl
kind_stands BrRise = refl
kind_stands BgOutFall = refl
kind_stands BgOutRise = refl
kind_stands BbsyFall = refl
kind_stands BbsyRise = refl
kind_stands Acknowledge = refl
kind_stands Access = refl
kind_stands EmptyAccess = refl
kind_stands AddrOff = refl
kind_stands AddressStrobeFall = refl
kind_stands AddressStrobeRise = refl
kind_stands DataStrobeFall = refl
kind_stands DataStrobeRise = refl
kind_stands IrqFall = refl
kind_stands IrqRise = refl
kind_stands IackOutFall = refl
kind_stands IackOutRise = refl
kind_stands DtackFall = refl
kind_stands DtackRise = refl

pub a_kind : (k : Kind) → Contains kinds k
unfolding kinds
a_kind BgFall = (0, omega arith, refl)
a_kind BgRise = (1, omega arith, refl)
a_kind BclrFall = (2, omega arith, refl)
a_kind BclrRise = (3, omega arith, refl)
a_kind IackFall = (4, omega arith, refl)
a_kind IackRise = (5, omega arith, refl)
a_kind BerrFall = (6, omega arith, refl)
a_kind BerrRise = (7, omega arith, refl)
a_kind BrFall = (8, omega arith, refl)
a_kind BrRise = (9, omega arith, refl)
a_kind BgOutFall = (10, omega arith, refl)
a_kind BgOutRise = (11, omega arith, refl)
a_kind BbsyFall = (12, omega arith, refl)
a_kind BbsyRise = (13, omega arith, refl)
a_kind Acknowledge = (14, omega arith, refl)
a_kind Access = (15, omega arith, refl)
a_kind EmptyAccess = (16, omega arith, refl)
a_kind AddrOff = (17, omega arith, refl)
a_kind AddressStrobeFall = (18, omega arith, refl)
a_kind AddressStrobeRise = (19, omega arith, refl)
a_kind DataStrobeFall = (20, omega arith, refl)
a_kind DataStrobeRise = (21, omega arith, refl)
a_kind IrqFall = (22, omega arith, refl)
a_kind IrqRise = (23, omega arith, refl)
a_kind IackOutFall = (24, omega arith, refl)
a_kind IackOutRise = (25, omega arith, refl)
a_kind DtackFall = (26, omega arith, refl)
a_kind DtackRise = (27, omega arith, refl)

-- what is listed by kind stands at the kind's number
pub listed_at : (f : Kind → ℕ) (k : Kind) → slice_index (map f kinds) (number k) ≡ f k
unfolding kinds
listed_at f BgFall = refl
listed_at f BgRise = refl
listed_at f BclrFall = refl
listed_at f BclrRise = refl
listed_at f IackFall = refl
listed_at f IackRise = refl
listed_at f BerrFall = refl
listed_at f BerrRise = refl
listed_at f BrFall = refl
listed_at f BrRise = refl
listed_at f BgOutFall = refl
listed_at f BgOutRise = refl
listed_at f BbsyFall = refl
listed_at f BbsyRise = refl
listed_at f Acknowledge = refl
listed_at f Access = refl
listed_at f EmptyAccess = refl
listed_at f AddrOff = refl
listed_at f AddressStrobeFall = refl
listed_at f AddressStrobeRise = refl
listed_at f DataStrobeFall = refl
listed_at f DataStrobeRise = refl
listed_at f IrqFall = refl
listed_at f IrqRise = refl
listed_at f IackOutFall = refl
listed_at f IackOutRise = refl
listed_at f DtackFall = refl
listed_at f DtackRise = refl

map_same : {X : Type 0} (f g : X → ℕ) (xs : List X) → ((x : X) → f x ≡ g x) → map f xs ≡ map g xs
map_same f g [] same = refl
map_same f g (x ∷ xs) same = ap (λ n. n ∷ map f xs) (same x) ∙ ap (λ ns. g x ∷ ns) (map_same f g xs same)

by_place : (f : ℕ → ℕ) → map f (range_with_len 0 28) ≡ map (λ k. f (number k)) kinds
unfolding kinds
by_place f = refl

-- a list of 28 numbers, by the numbers of the kinds
pub by_numbers : (xs : List ℕ) (f : ℕ → ℕ) (g : Kind → ℕ) → length xs ≡ 28 → ((n : ℕ) → n < 28 → slice_index xs n ≡ f n) → ((k : Kind) → f (number k) ≡ g k) → xs ≡ map g kinds
by_numbers xs f g long each same = fill_by_all f xs 28 0 long each ∙ by_place f ∙ map_same (λ k. f (number k)) g kinds same

-- how many are listed
pub kinds_listed : (f : Kind → ℕ) → length (map f kinds) ≡ 28
unfolding kinds
kinds_listed f = refl

-- the kind of a number
pub kind_in : (i : ℕ) → i < 28 → (k : Kind) × (slice_get kinds i ≡ Some k) × (number k ≡ i)
unfolding kinds
kind_in zero below = (BgFall, refl, refl)
kind_in (suc zero) below = (BgRise, refl, refl)
kind_in (suc (suc zero)) below = (BclrFall, refl, refl)
kind_in (suc (suc (suc zero))) below = (BclrRise, refl, refl)
kind_in (suc (suc (suc (suc zero)))) below = (IackFall, refl, refl)
kind_in (suc (suc (suc (suc (suc zero))))) below = (IackRise, refl, refl)
kind_in (suc (suc (suc (suc (suc (suc zero)))))) below = (BerrFall, refl, refl)
kind_in (suc (suc (suc (suc (suc (suc (suc zero))))))) below = (BerrRise, refl, refl)
kind_in (suc (suc (suc (suc (suc (suc (suc (suc zero)))))))) below = (BrFall, refl, refl)
kind_in (suc (suc (suc (suc (suc (suc (suc (suc (suc zero))))))))) below = (BrRise, refl, refl)
kind_in (suc (suc (suc (suc (suc (suc (suc (suc (suc (suc zero)))))))))) below = (BgOutFall, refl, refl)
kind_in (suc (suc (suc (suc (suc (suc (suc (suc (suc (suc (suc zero))))))))))) below = (BgOutRise, refl, refl)
kind_in (suc (suc (suc (suc (suc (suc (suc (suc (suc (suc (suc (suc zero)))))))))))) below = (BbsyFall, refl, refl)
kind_in (suc (suc (suc (suc (suc (suc (suc (suc (suc (suc (suc (suc (suc zero))))))))))))) below = (BbsyRise, refl, refl)
kind_in (suc (suc (suc (suc (suc (suc (suc (suc (suc (suc (suc (suc (suc (suc zero)))))))))))))) below = (Acknowledge, refl, refl)
kind_in (suc (suc (suc (suc (suc (suc (suc (suc (suc (suc (suc (suc (suc (suc (suc zero))))))))))))))) below = (Access, refl, refl)
kind_in (suc (suc (suc (suc (suc (suc (suc (suc (suc (suc (suc (suc (suc (suc (suc (suc zero)))))))))))))))) below = (EmptyAccess, refl, refl)
kind_in (suc (suc (suc (suc (suc (suc (suc (suc (suc (suc (suc (suc (suc (suc (suc (suc (suc zero))))))))))))))))) below = (AddrOff, refl, refl)
kind_in (suc (suc (suc (suc (suc (suc (suc (suc (suc (suc (suc (suc (suc (suc (suc (suc (suc (suc zero)))))))))))))))))) below = (AddressStrobeFall, refl, refl)
kind_in (suc (suc (suc (suc (suc (suc (suc (suc (suc (suc (suc (suc (suc (suc (suc (suc (suc (suc (suc zero))))))))))))))))))) below = (AddressStrobeRise, refl, refl)
kind_in (suc (suc (suc (suc (suc (suc (suc (suc (suc (suc (suc (suc (suc (suc (suc (suc (suc (suc (suc (suc zero)))))))))))))))))))) below = (DataStrobeFall, refl, refl)
kind_in (suc (suc (suc (suc (suc (suc (suc (suc (suc (suc (suc (suc (suc (suc (suc (suc (suc (suc (suc (suc (suc zero))))))))))))))))))))) below = (DataStrobeRise, refl, refl)
kind_in (suc (suc (suc (suc (suc (suc (suc (suc (suc (suc (suc (suc (suc (suc (suc (suc (suc (suc (suc (suc (suc (suc zero)))))))))))))))))))))) below = (IrqFall, refl, refl)
kind_in (suc (suc (suc (suc (suc (suc (suc (suc (suc (suc (suc (suc (suc (suc (suc (suc (suc (suc (suc (suc (suc (suc (suc zero))))))))))))))))))))))) below = (IrqRise, refl, refl)
kind_in (suc (suc (suc (suc (suc (suc (suc (suc (suc (suc (suc (suc (suc (suc (suc (suc (suc (suc (suc (suc (suc (suc (suc (suc zero)))))))))))))))))))))))) below = (IackOutFall, refl, refl)
kind_in (suc (suc (suc (suc (suc (suc (suc (suc (suc (suc (suc (suc (suc (suc (suc (suc (suc (suc (suc (suc (suc (suc (suc (suc (suc zero))))))))))))))))))))))))) below = (IackOutRise, refl, refl)
kind_in (suc (suc (suc (suc (suc (suc (suc (suc (suc (suc (suc (suc (suc (suc (suc (suc (suc (suc (suc (suc (suc (suc (suc (suc (suc (suc zero)))))))))))))))))))))))))) below = (DtackFall, refl, refl)
kind_in (suc (suc (suc (suc (suc (suc (suc (suc (suc (suc (suc (suc (suc (suc (suc (suc (suc (suc (suc (suc (suc (suc (suc (suc (suc (suc (suc zero)))))))))))))))))))))))))))
    below = (DtackRise, refl, refl)
kind_in (suc (suc (suc (suc (suc (suc (suc (suc (suc (suc (suc (suc (suc (suc (suc (suc (suc (suc (suc (suc (suc (suc (suc (suc (suc (suc (suc (suc i)))))))))))))))))))))))))))) below =
    absurd (omega (arith, below))
