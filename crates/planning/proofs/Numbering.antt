-- What is left to do where a number is written at each place of a set, one place after the other. Assumes nothing.
use Rattle.std.proofs.Common.{◌≡◌, ℕ, zero, suc, ◌^◌, ◌<◌, Bool, false, cond, not, ◌&&◌, eqb, ltb, List, [], ◌∷◌, length, get_or, set, refl, ap, ◌∙◌, ⊎_elim, arith}
use Rattle.std.specs.List.{list_any}
use Rattle.std.proofs.lemmas.List.{get_or-set_same, get_or-set_other}
use Rattle.std.proofs.lemmas.Bool.{cases_eq, cases_lt, lt-ltb}
use Rattle.std.proofs.lemmas.Bool.Decides.{nat_tests}
use Rattle.bits.specs.Bits.{has, some, places}
use Rattle.bits.specs.BitsLemmas.{has_above}
use Rattle.bits.proofs.Places.{any-places, places_below}

some_same : (n u : ℕ) (test : ℕ → Bool) → some n (λ i. test i && eqb u i) ≡ (ltb u n && test u)
some_same zero u test = grind (arith, nat_tests)
some_same (suc n) u test =
    let rest = some_same n u test in
    ⊎_elim (λ e. let here = ap test e in grind (arith, nat_tests)) (λ other. grind (arith, nat_tests)) (cases_eq u n)

-- what is written at u once it is written at each of the places that are left
pub record Numbering (all left : List ℕ) (c : ℕ) (before of : List ℕ) : Type 0 where
  pub below : list_any (λ i. not (ltb i 32)) left ≡ false
  pub same : (u : ℕ) → cond (list_any (eqb u) left) c (get_or of u 0) ≡ cond (list_any (eqb u) all) c (get_or before u 0)

-- the places of a set of numbers below 32
module _ (x : ℕ) (small : x < 2 ^ 32) where
  place_is : (u : ℕ) → list_any (eqb u) (places 64 x) ≡ has x u
  place_is u =
      any-places 64 32 x (eqb u) (omega arith) small ∙ some_same 32 u (has x)
      ∙ ⊎_elim (λ low. let is = lt-ltb u 32 low in grind arith) (λ high. let none = has_above 32 x u small high in grind arith) (cases_lt u 32)

  pub numbering_none : (c : ℕ) (before : List ℕ) → Numbering (places 64 x) (places 64 x) c before before
  numbering_none c before = record {
    below = places_below 64 32 x (omega arith) small;
    same = λ u. refl;
  }

  pub numbering_all : (c : ℕ) (before of : List ℕ) → Numbering (places 64 x) [] c before of → (u : ℕ) → get_or of u 0 ≡ cond (has x u) c (get_or before u 0)
  numbering_all c before of n u = n.same u ∙ ap (λ b. cond b c (get_or before u 0)) (place_is u)

module _ (all left : List ℕ) (v c : ℕ) (before of : List ℕ) (n : Numbering all (v ∷ left) c before of) where
  pub numbering-below : v < 32
  numbering-below = let below = n.below in ⊎_elim (λ low. low) (λ high. absurd (grind (arith, nat_tests))) (cases_lt v 32)

  pub numbering_more : length of ≡ 32 → Numbering all left c before (set of v c)
  numbering_more long = record {
    below = let below = n.below in grind arith;
    same = λ u.
        let old = n.same u in
        let low = numbering-below in
        ⊎_elim
        (λ e. let here = get_or-set_same of v c 0 (omega arith) in let at = ap (λ i. get_or (set of v c) i 0) e in grind (arith, nat_tests))
        (λ other. let there = get_or-set_other of v u c 0 other in grind (arith, nat_tests))
        (cases_eq u v);
  }
