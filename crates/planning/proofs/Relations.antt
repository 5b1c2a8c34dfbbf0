-- Relations as lists of sets: what a write changes, and their closing. Assumes nothing.
use Rattle.std.proofs.Common.{◌≡◌, ℕ, zero, suc, ◌+◌, ◌*◌, ◌%◌, ◌^◌, ◌<◌, ◌≤◌, Bool, false, cond, ◌&&◌, ◌||◌, eqb, ltb, List, length, get_or, set, replicate, ⊎_elim, arith}
use lib.Bits.{bit_or}
use Rattle.std.specs.Int.{w32}
use Rattle.std.proofs.lemmas.List.{get_or-set_same, get_or-set_other}
use Rattle.std.proofs.lemmas.Bool.{cases_eq}
use Rattle.std.proofs.lemmas.Bool.Decides.{nat_tests}
use Rattle.planning.specs.Bits.{has, goes}
use Rattle.planning.specs.Components.{through}
use Rattle.bits.specs.BitsLemmas.{has_more, has-zero}

pub goes_none : (n u v : ℕ) → goes (replicate n 0) u v ≡ false
goes_none zero u v = has-zero v
goes_none (suc n) zero v = has-zero v
goes_none (suc n) (suc u) v = goes_none n u v

-- a write at i changes the set of i
pub goes_set : (sets : List ℕ) (i x u v : ℕ) → i < length sets → goes (set sets i x) u v ≡ cond (eqb u i) (has x v) (goes sets u v)
goes_set sets i x u v h =
    ⊎_elim
    (λ same. let e = get_or-set_same sets i x 0 h in grind (arith, nat_tests))
    (λ other. let e = get_or-set_other sets i u x 0 other in grind (arith, nat_tests))
    (cases_eq u i)

-- one pair more
pub goes-more :
    (sets : List ℕ) (u v : ℕ) → u < length sets → v < 32 → (w x : ℕ) →
    goes (set sets u (bit_or (get_or sets u 0) ((1 * 2 ^ v) % 2 ^ 32))) w x ≡ (goes sets w x || (eqb u w && eqb v x))
goes-more sets u v hu hv w x =
    let more = has_more w32 (get_or sets u 0) v x hv in
    let row = goes_set sets u (bit_or (get_or sets u 0) ((1 * 2 ^ v) % 2 ^ 32)) w x hu in
    let which = cases_eq w u in
    grind (arith, nat_tests)

-- one number more that goes to itself
pub diagonal_more : (u w v : ℕ) → ((ltb w u && eqb w v) || (eqb u w && eqb u v)) ≡ (ltb w (u + 1) && eqb w v)
diagonal_more u w v = grind (arith, nat_tests)

-- relations that agree from the numbers below n close alike
pub through_same : (n : ℕ) (f g : ℕ → ℕ → Bool) → ((u v : ℕ) → u < n → f u v ≡ g u v) →
    (k : ℕ) → k ≤ n → (u v : ℕ) → u < n → through f k u v ≡ through g k u v
through_same n f g same zero h u v hu = same u v hu
through_same n f g same (suc k) h u v hu =
    let straight = through_same n f g same k (omega arith) u v hu in
    let before = through_same n f g same k (omega arith) u k hu in
    let after = through_same n f g same k (omega arith) k v h in
    cc
