-- What a test of each element of a list tells of its elements. Assumes nothing.
use Rattle.std.specs.List.{list_all, enumerate_from}
use Rattle.std.proofs.Common.{◌≡◌, ℕ, zero, suc, ◌+◌, ◌<◌, Bool, true, ◌&&◌, List, [], ◌∷◌, ◌++◌, length, get_or, Decides, refl, ap, add-zero, add-suc, suc-add, zero-add, add-one, arith}
use Rattle.std.proofs.lemmas.Bool.{and_parts, and_from}
use Rattle.expressions.specs.Layout.{each}

module _ {X : Type 0} (test : ℕ → X → Bool) where
  -- what each element passes, counted from n, the one at i passes
  each-at-from : (n : ℕ) (xs : List X) (i : ℕ) (d : X) → i < length xs → each test n xs ≡ true → test (n + i) (get_or xs i d) ≡ true
  each-at-from n [] i d h e = let none : ⊥ = omega arith in elim none [ ]
  each-at-from n (x ∷ xs) zero d h e = rw add-zero (and_parts _ _ e).0
  each-at-from n (x ∷ xs) (suc i) d h e = rw (add-suc, ← suc-add) (each-at-from (suc n) xs i d (omega arith) (and_parts _ _ e).1)

  -- the same, counted from 0
  pub each_at : (xs : List X) (i : ℕ) (d : X) → i < length xs → each test 0 xs ≡ true → test i (get_or xs i d) ≡ true
  each_at xs i d h e = rw zero-add at (each-at-from 0 xs i d h e)

  -- what the element at every place passes, each element passes
  pub at_each : (n : ℕ) (xs : List X) (d : X) → ((i : ℕ) → i < length xs → test (n + i) (get_or xs i d) ≡ true) → each test n xs ≡ true
  at_each n [] d all = refl
  at_each n (x ∷ xs) d all =
      and_from _ _ (rw add-zero at (all 0 (omega arith))) (at_each (suc n) xs d (λ i h. rw suc-add (rw add-suc at (all (suc i) (omega arith)))))

  each_push_from : (n : ℕ) (xs : List X) (x : X) → each test n xs ≡ true → test (n + length xs) x ≡ true → each test n (xs ++ x ∷ []) ≡ true
  each_push_from n [] x all here = and_from _ _ (rw add-zero at here) refl
  each_push_from n (y ∷ ys) x all here = and_from _ _ (and_parts _ _ all).0 (each_push_from (suc n) ys x (and_parts _ _ all).1 (rw suc-add (rw add-suc at here)))

  -- one more element passes
  pub each_push : (xs : List X) (x : X) → each test 0 xs ≡ true → test (length xs) x ≡ true → each test 0 (xs ++ x ∷ []) ≡ true
  each_push xs x all here = each_push_from 0 xs x all (rw zero-add here)

  -- a test that decides a fact of an element and its place decides it of every place
  pub each-decides :
      (P : ℕ → X → Type 0) → ((i : ℕ) (x : X) → Decides (test i x) (P i x)) → (xs : List X) (d : X) →
      Decides (each test 0 xs) ((i : ℕ) → i < length xs → P i (get_or xs i d))
  each-decides P decides xs d = (
    λ e i h. (decides i _).0 (each_at xs i d h e),
    λ all. at_each 0 xs d (λ i h. rw zero-add ((decides i _).1 (all i h))),
  )

  -- a test of elements and places is one test of all pairs of a place and its element
  pub each_is_all : (n : ℕ) (xs : List X) → each test n xs ≡ list_all (λ entry. test entry.0 entry.1) (enumerate_from n xs)
  each_is_all n [] = refl
  each_is_all n (x ∷ xs) = rw add-one (ap (λ rest. test n x && rest) (each_is_all (suc n) xs))

-- a test that asks for no place is one test of all elements
pub each_is_all_of : {X : Type 0} (test : X → Bool) (n : ℕ) (xs : List X) → each (λ _. test) n xs ≡ list_all test xs
each_is_all_of test n [] = refl
each_is_all_of test n (x ∷ xs) = ap (λ rest. test x && rest) (each_is_all_of test (suc n) xs)
