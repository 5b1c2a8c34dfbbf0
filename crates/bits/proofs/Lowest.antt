-- Taking a number's lowest bit from it. Assumes nothing.
use Rattle.std.proofs.Common.{◌≡◌, ℕ, zero, suc, ◌-◌, ◌/◌, ◌%◌, ◌^◌, ◌<◌, not, ◌&&◌, eqb, ap, ◌∙◌, ⊎_elim, arith}
use native.Mathlib.Nat.{two-pow-succ}
use lib.Bits.{bit_and}
use lib.Count.{count_trailing_zeros, under}
use Rattle.std.proofs.lemmas.Bool.{cases_eq}
use Rattle.std.proofs.lemmas.Bool.Decides.{nat_tests}
use Rattle.bits.specs.Bits.{has}
use Rattle.bits.specs.BitsLemmas.{has_first, has_half, has-and}

trailing_even : (n x : ℕ) → x % 2 ≡ 0 → count_trailing_zeros (suc n) x ≡ suc (count_trailing_zeros n (x / 2))
unfolding count_trailing_zeros
trailing_even n x e = ap (λ d. under d (count_trailing_zeros n (x / 2))) e

trailing_odd : (n x : ℕ) → x % 2 ≡ 1 → count_trailing_zeros (suc n) x ≡ 0
unfolding count_trailing_zeros
trailing_odd n x e = ap (λ d. under d (count_trailing_zeros n (x / 2))) e

-- the number below x keeps the bits of x but for the lowest
below_keeps : (n x i : ℕ) → 0 < x → x < 2 ^ n → (has x i && has (x - 1) i) ≡ (has x i && not (eqb (count_trailing_zeros n x) i))
below_keeps zero x i h small = absurd (omega arith)
below_keeps (suc n) x zero h small =
    let first = has_first x in
    let before = has_first (x - 1) in
    ⊎_elim
    (λ e. let t = trailing_even n x e in grind (arith, nat_tests))
    (λ other. let e : x % 2 ≡ 1 = omega arith in let t = trailing_odd n x e in let even : (x - 1) % 2 ≡ 0 = omega arith in grind (arith, nat_tests))
    (cases_eq (x % 2) 0)
below_keeps (suc n) x (suc i) h small =
    let above = has_half x i in
    let below = has_half (x - 1) i in
    ⊎_elim
    (λ e.
    let t = trailing_even n x e in
    let half : (x - 1) / 2 ≡ x / 2 - 1 = omega arith in
    let same = ap (λ y. has y i) half in
    let rest = below_keeps n (x / 2) i (omega arith) (omega (arith, two-pow-succ n)) in
    grind (arith, nat_tests))
    (λ other.
    let e : x % 2 ≡ 1 = omega arith in
    let t = trailing_odd n x e in
    let half : (x - 1) / 2 ≡ x / 2 = omega arith in
    let same = ap (λ y. has y i) half in
    grind (arith, nat_tests))
    (cases_eq (x % 2) 0)

pub has-taken : (n x i : ℕ) → 0 < x → x < 2 ^ n → has (bit_and x (x - 1)) i ≡ (has x i && not (eqb (count_trailing_zeros n x) i))
has-taken n x i pos small = has-and x (x - 1) i ∙ below_keeps n x i pos small
