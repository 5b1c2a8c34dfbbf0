-- The bits of a shifted number and of a mask. Assumes nothing.
use Rattle.std.proofs.Common.{◌≡◌, ℕ, ◌+◌, ◌-◌, ◌*◌, ◌/◌, ◌%◌, ◌^◌, ◌<◌, false, ◌&&◌, eqb, sym, ap, ◌∙◌, arith}
use lib.Bits.{bit_and}
use Rattle.std.proofs.lemmas.Nat.{and_mask, shl-shr, shr-shr}
use Rattle.std.proofs.lemmas.Nat.Bits.{bit_at-zero, bit_at_ones, bit_at_cat_low}
use Rattle.bits.specs.Bits.{has}
use Rattle.bits.specs.BitsLemmas.{has-and}

pub has-shr : (x i k : ℕ) → has (x / 2 ^ i) k ≡ has x (i + k)
has-shr x i k = ap (λ y. eqb (y % 2) 1) (shr-shr x i k)

pub has-shl : (x i k : ℕ) → has (x * 2 ^ i) (i + k) ≡ has x k
has-shl x i k = sym (has-shr (x * 2 ^ i) i k) ∙ ap (λ y. has y k) (shl-shr x i)

-- a shift leaves no bit below its length
pub has-below : (x i k : ℕ) → k < i → has (x * 2 ^ i) k ≡ false
has-below x i k h =
    let whole : x * 2 ^ i ≡ x * 2 ^ i + 0 = omega arith in
    ap (λ y. has y k) whole ∙ ap (λ b. eqb b 1) (bit_at_cat_low x i 0 k h ∙ bit_at-zero k)

-- a mask keeps the bits below n
pub has_masked : (n x i : ℕ) → i < n → has (bit_and x (2 ^ n - 1)) i ≡ has x i
has_masked n x i h = let one = ap (λ b. eqb b 1) (bit_at_ones n i h) in has-and x (2 ^ n - 1) i ∙ ap (λ t. has x i && t) one ∙ grind arith

pub has-mod : (n x i : ℕ) → i < n → has (x % 2 ^ n) i ≡ has x i
has-mod n x i h = ap (λ y. has y i) (sym (and_mask x n)) ∙ has_masked n x i h
