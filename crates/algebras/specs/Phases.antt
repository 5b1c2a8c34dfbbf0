-- Sets of cadence phases, to a modulus. Assumes nothing.
use Rattle.std.specs.Prelude.{ℕ, zero, suc, ◌+◌, ◌%◌, ◌^◌, Bool, cond, not, ◌&&◌, ◌||◌, None, ◌==◌, bit_or, nat_le, nat_lt}
use Rattle.kleene.specs.Algebras.{Meaning}
use Rattle.refusals.specs.Refused.{Outcome, done, refused}
use Rattle.bits.specs.Bits.{has, set_of, some, every}

abbrev pub divides : ℕ → ℕ → Bool
divides d n = n % d == 0

-- the greatest number up to n that passes the test, and 0 where none from 1 on does
abbrev pub greatest : ℕ → (ℕ → Bool) → ℕ
greatest zero test = 0
greatest (suc n) test = cond (test (suc n)) (suc n) (greatest n test)

-- the greatest common divisor of the modulus and all phases of a
abbrev pub gcd_with : ℕ → ℕ → ℕ
gcd_with m a = greatest m (λ d. divides d m && every m (λ i. not (has a i) || divides d i))

-- the phases of b, each later by i: every (i + j) mod m with j in b
abbrev pub later : ℕ → ℕ → ℕ → ℕ
later m b i = set_of m (λ k. some m (λ j. has b j && (i + j) % m == k))

-- A set of phases below the modulus m is a number, bit i for phase i. The sum is the union; the product has every
-- (i + j) mod m with i in a and j in b; the star has the multiples below m of the greatest common divisor.
abbrev pub phase_meaning : ℕ → Meaning ℕ
phase_meaning m = record {
  member = λ a. nat_lt a (2 ^ m);
  on = record {
    zero = 0;
    one = 1;
    sum = λ a b. bit_or a b;
    product = λ a b. set_of m (λ k. some m (λ i. some m (λ j. has a i && (has b j && (i + j) % m == k))));
    star = λ a. set_of m (λ k. divides (gcd_with m a) k);
  };
}

-- a modulus is 1 to 60, and any other is refused with number 10
abbrev pub modulus_outcome : ℕ → Outcome ℕ
modulus_outcome m = cond (nat_le 1 m && nat_le m 60) (done m) (refused 10 None)
