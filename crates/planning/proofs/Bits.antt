-- Sets of numbers below 32 as the program tests them. Assumes nothing.
use Rattle.std.proofs.Common.{◌≡◌, ℕ, ◌/◌, ◌^◌, ◌<◌, ◌≤◌, false, not, ◌||◌, eqb, ap, ◌∙◌, ⊎_elim, arith}
use lib.Bits.{bit_and, bit_or}
use Rattle.std.proofs.lemmas.Nat.{or_lt}
use Rattle.std.proofs.lemmas.Nat.Bits.{shr_and_one}
use Rattle.std.proofs.lemmas.Bool.{cases_lt, eqb-true, eq-eqb}
use Rattle.std.proofs.lemmas.Bool.Decides.{same_from_decides}
use Rattle.bits.specs.Bits.{has}
use Rattle.bits.specs.BitsLemmas.{has-or, same_bits}
use Rattle.planning.specs.Bits.{within}
use Rattle.planning.proofs.Lowest.{decides_every}

-- a number's bit as the program tests it
pub has_tested : (x i : ℕ) → eqb (bit_and (x / 2 ^ i) 1) 1 ≡ has x i
has_tested x i = ap (λ y. eqb y 1) (shr_and_one x i)

-- x adds nothing to w where each of its members is one of w
pub adds_nothing : (m n w x : ℕ) → w < 2 ^ m → x < 2 ^ m → ((i : ℕ) → n ≤ i → has x i ≡ false) → eqb (bit_or w x) w ≡ within n x w
adds_nothing m n w x hw hx none =
    same_from_decides (eqb (bit_or w x) w) (within n x w) (
      λ e i h. let same = ap (λ y. has y i) (eqb-true (bit_or w x) w e) in let or = has-or w x i in grind arith,
      λ all. eq-eqb (bit_or w x) w (same_bits m (bit_or w x) w (or_lt m w x hw hx) hw (λ i h.
          has-or w x i ∙ ⊎_elim (λ low. let here = all i low in grind arith) (λ high. let here = none i high in grind arith) (cases_lt i n))),
    )
    (decides_every n (λ i. not (has x i) || has w i))
