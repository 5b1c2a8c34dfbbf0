-- In counts of ways making an expression means what it is called. Assumes nothing.
use Rattle.std.proofs.Common.{◌≡◌, ℕ, List, [], ◌∷◌, refl, ap, ◌∙◌, arith}
use mathlib.Core.Path.{fun_ext}
use Rattle.elimination.specs.Series.{Series, over_cuts, repeats, steps, empty, letter, counting}
use Rattle.elimination.proofs.Series.{counting_laws}
use Rattle.expressions.specs.Meanings.{ways}
use Rattle.expressions.specs.Laws.{WaysMean}
use Rattle.expressions.proofs.Means.{Neutral, making_means}

-- zero and one are what they are called, at every count
neutral-count : (f : Series) → Neutral counting f
neutral-count f = record {
  zero-sum = counting_laws.zero-sum f;
  sum-zero = counting_laws.sum_comm f _ ∙ counting_laws.zero-sum f;
  zero-product = counting_laws.zero-product f;
  product-zero = counting_laws.product-zero f;
  one_product = counting_laws.one_product f;
  product-one = counting_laws.product-one f;
}

-- the repeat of what spells no step spells the empty list alone
star_of_no_step : (f : Series) → ((j : ℕ) (js : List ℕ) → f (j ∷ js) ≡ 0) → (js : List ℕ) → counting.star f js ≡ empty js
star_of_no_step f none [] = refl
star_of_no_step f none (j ∷ js) =
    let again = repeats (steps js) f in
    ap (λ g. over_cuts g again js) (fun_ext (none j)) ∙ ap (λ g. g js) (counting_laws.zero-product again)

-- the simplifying rules are right in counts, where a sum of an expression with itself is asked only of one that spells nothing
pub ways_mean_spec : WaysMean
ways_mean_spec = making_means counting letter _ _ (record {
  neutral = λ c _ x. neutral-count (ways c x);
  twice = λ c _ x none. fun_ext (λ js. omega (arith, none js));
  star-zero = fun_ext (star_of_no_step _ (λ _ _. refl));
  star-one = fun_ext (star_of_no_step _ (λ _ _. refl));
})
