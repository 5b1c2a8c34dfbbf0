-- The counting series are a star semiring, and their products and stars are sums over cuts. Assumes nothing.
use Rattle.std.proofs.Common.{◌≡◌, ℕ, zero, suc, ◌+◌, ◌*◌, ◌≤◌, List, [], ◌∷◌, map, sum_by, sym, refl, ap, ◌∙◌, ap₂, arith}
use mathlib.Core.Path.{fun_ext}
use mathlib.Core.List.{map-map}
use Rattle.std.proofs.lemmas.List.Sums.{sum_by-cons, sum-map}
use Rattle.elimination.specs.Series.{Series, over_cuts, cuts, repeats, steps, empty, counting}
use Rattle.elimination.proofs.Semirings.{StarSemiring}

-- the series of what may follow step j
abbrev after : ℕ → Series → Series
after j f js = f (j ∷ js)

sum_of_map : {X Y : Type 0} (h : Y → ℕ) (k : X → Y) (xs : List X) → sum_by h (map k xs) ≡ sum_by (λ x. h (k x)) xs
sum_of_map h k xs = sym (sum-map h (map k xs)) ∙ ap (sum_by (λ n. n)) (map-map h k xs) ∙ sum-map (λ x. h (k x)) xs

-- what over_cuts gives is the sum over the list of cuts
pub over_cuts_lem : (f g : Series) (js : List ℕ) → over_cuts f g js ≡ sum_by (λ cut. f cut.0 * g cut.1) (cuts js)
over_cuts_lem f g [] = omega arith
over_cuts_lem f g (j ∷ js) =
    let weigh : List ℕ × List ℕ → ℕ = λ cut. f cut.0 * g cut.1 in
    let put : List ℕ × List ℕ → List ℕ × List ℕ = λ cut. (j ∷ cut.0, cut.1) in
    let whole = sum_by-cons weigh ([], j ∷ js) (map put (cuts js)) in
    let moved = sum_of_map weigh put (cuts js) in
    let rest = over_cuts_lem (after j f) g js in
    omega arith

-- the laws of the sum over cuts, each by recursion over the list
zero-cuts : (g : Series) (js : List ℕ) → over_cuts (λ _. 0) g js ≡ 0
zero-cuts g [] = omega arith
zero-cuts g (j ∷ js) = let rest = zero-cuts g js in omega arith

cuts-zero : (f : Series) (js : List ℕ) → over_cuts f (λ _. 0) js ≡ 0
cuts-zero f [] = omega arith
cuts-zero f (j ∷ js) = let rest = cuts-zero (after j f) js in omega arith

one-cuts : (g : Series) (js : List ℕ) → over_cuts empty g js ≡ g js
one-cuts g [] = omega arith
one-cuts g (j ∷ js) = let rest = zero-cuts g js in omega arith

cuts-one : (f : Series) (js : List ℕ) → over_cuts f empty js ≡ f js
cuts-one f [] = omega arith
cuts-one f (j ∷ js) = let rest = cuts-one (after j f) js in omega arith

cuts-sum : (f g h : Series) (js : List ℕ) → over_cuts f (λ is. g is + h is) js ≡ over_cuts f g js + over_cuts f h js
cuts-sum f g h [] = omega arith
cuts-sum f g h (j ∷ js) = let rest = cuts-sum (after j f) g h js in omega arith

sum-cuts : (f g h : Series) (js : List ℕ) → over_cuts (λ is. f is + g is) h js ≡ over_cuts f h js + over_cuts g h js
sum-cuts f g h [] = omega arith
sum-cuts f g h (j ∷ js) = let rest = sum-cuts (after j f) (after j g) h js in omega arith

times_cuts : (n : ℕ) (f g : Series) (js : List ℕ) → over_cuts (λ is. n * f is) g js ≡ n * over_cuts f g js
times_cuts n f g [] = omega arith
times_cuts n f g (j ∷ js) = let rest = times_cuts n (after j f) g js in omega arith

cuts_assoc : (f g h : Series) (js : List ℕ) → over_cuts (over_cuts f g) h js ≡ over_cuts f (over_cuts g h) js
cuts_assoc f g h [] = omega arith
cuts_assoc f g h (j ∷ js) =
    let parts = sum-cuts (λ is. f [] * g (j ∷ is)) (over_cuts (after j f) g) h js in
    let early = times_cuts (f []) (after j g) h js in
    let rest = cuts_assoc (after j f) g h js in
    omega arith

-- a sum over cuts looks at the second series on no longer lists
same-cuts : (f g h : Series) (js : List ℕ) → ((is : List ℕ) → steps is ≤ steps js → g is ≡ h is) → over_cuts f g js ≡ over_cuts f h js
same-cuts f g h [] same = ap (λ n. f [] * n) (same [] (omega arith))
same-cuts f g h (j ∷ js) same =
    ap₂ (λ m n. f [] * m + n) (same (j ∷ js) (omega arith)) (same-cuts (after j f) g h js (λ is less. same is (omega arith)))

-- any two bounds that are no less than the list's steps give the same count
bound_free : (b c : ℕ) (f : Series) (js : List ℕ) → steps js ≤ b → steps js ≤ c → repeats b f js ≡ repeats c f js
bound_free b c f [] p q = refl
bound_free zero c f (j ∷ js) p q = absurd (omega arith)
bound_free (suc b) zero f (j ∷ js) p q = absurd (omega arith)
bound_free (suc b) (suc c) f (j ∷ js) p q = same-cuts (after j f) _ _ js (λ is less. bound_free b c f is (omega arith) (omega arith))

-- so the star counts a list that is not empty by the sum over each cut with a first part that is not empty
pub star-cuts : (f : Series) (j : ℕ) (js : List ℕ) → counting.star f (j ∷ js) ≡ over_cuts (λ rest. f (j ∷ rest)) (counting.star f) js
star-cuts f j js = same-cuts (after j f) _ _ js (λ is less. bound_free (steps js) (steps is) f is less (omega arith))

-- a series is proper when it does not spell the empty list
abbrev pub Proper : Series → Type 0
Proper f = f [] ≡ 0

module _ (f : Series) (proper : Proper f) where
  -- the star's last part can be split off, on lists of at most so many steps
  star_last : (b : ℕ) (js : List ℕ) → steps js ≤ b → counting.star f js ≡ empty js + over_cuts (counting.star f) f js
  star_last b [] p = omega arith
  star_last zero (j ∷ js) p = absurd (omega arith)
  star_last (suc b) (j ∷ js) p =
      let star = counting.star f in
      let first = star-cuts f j js in
      let within = same-cuts (after j f) star (λ is. empty is + over_cuts star f is) js (λ is less. star_last b is (omega arith)) in
      let parts = cuts-sum (after j f) empty (over_cuts star f) js in
      let alone = cuts-one (after j f) js in
      let turned = cuts_assoc (after j f) star f js in
      let back = ap (λ g. over_cuts g f js) (fun_ext (star-cuts f j)) in
      omega arith

pub counting_laws : StarSemiring counting Proper
counting_laws = record {
  sum_assoc = λ f g h. fun_ext (λ js. omega arith);
  sum_comm = λ f g. fun_ext (λ js. omega arith);
  zero-sum = λ f. fun_ext (λ js. omega arith);
  product_assoc = λ f g h. fun_ext (cuts_assoc f g h);
  one_product = λ f. fun_ext (one-cuts f);
  product-one = λ f. fun_ext (cuts-one f);
  zero-product = λ f. fun_ext (zero-cuts f);
  product-zero = λ f. fun_ext (cuts-zero f);
  product-sum = λ f g h. fun_ext (cuts-sum f g h);
  sum-product = λ f g h. fun_ext (sum-cuts f g h);
  zero_proper = refl;
  sum_proper = λ f g p q. omega arith;
  product_proper_left = λ f g p. grind arith;
  product_proper_right = λ f g p. grind arith;
  star_unfolds = λ f proper. fun_ext (λ js. star_last f proper (steps js) js (omega arith));
}
