-- A test of every number below n, as a test of all the numbers that a range gives. Assumes nothing.
use Rattle.std.specs.List.{list_all, range_with_len}
use Rattle.std.proofs.Common.{◌≡◌, ℕ, zero, suc, ◌+◌, Bool, true, false, ◌&&◌, [], ◌∷◌, map, sym, refl, ap, ◌∙◌, arith}
use Rattle.std.proofs.lemmas.List.Folds.{list_all-append, list_all-map}
use Rattle.std.proofs.lemmas.List.FromFn.{map-range_with_len_more}
use Rattle.planning.specs.Components.{every}

and_last : (a b : Bool) → (a && b) ≡ (b && (a && true))
and_last true true = refl
and_last true false = refl
and_last false true = refl
and_last false false = refl

pub every_is_all : (n : ℕ) (test : ℕ → Bool) → every n test ≡ list_all test (range_with_len 0 n)
every_is_all zero test = refl
every_is_all (suc n) test =
    let same : (m : ℕ) → list_all test (map (λ i. i) (range_with_len 0 m)) ≡ list_all test (range_with_len 0 m) = λ m. list_all-map test (λ i. i) (range_with_len 0 m) in
    let next : suc n ≡ n + 1 = omega arith in
    let more : list_all test (range_with_len 0 (n + 1)) ≡ (list_all test (range_with_len 0 n) && (test n && true)) =
    sym (same (n + 1))
    ∙ ap (list_all test) (map-range_with_len_more (λ i. i) 0 n n (omega arith))
    ∙ list_all-append test (map (λ i. i) (range_with_len 0 n)) (n ∷ [])
    ∙ ap (λ b. b && (test n && true)) (same n) in
    ap (λ b. test n && b) (every_is_all n test)
    ∙ and_last (test n) (list_all test (range_with_len 0 n))
    ∙ sym more
    ∙ ap (λ m. list_all test (range_with_len 0 m)) (sym next)
