-- What expressions mean, over any operations. Assumes nothing.
use Rattle.std.specs.Prelude.{◌≡◌, ℕ, ◌<◌, Bool, cond, not, ◌||◌, ◌⊎◌, List, [], ◌∷◌, ◌++◌, get_or, fold, ◌==◌, nat_lt, slice_index_or}
use Rattle.kleene.specs.Algebras.{Operations}
use Rattle.elimination.specs.Series.{Series, counting, letter}
use Rattle.expressions.specs.declared.Record.{Record}
use Rattle.expressions.specs.Contents.{Contents, used}

module _ {S : Type 0} (o : Operations S) (step : ℕ → S) where
  -- the value of a record, from the values of the records before it: nothing is zero, stay is one, a step has its value, and a
  -- sum, a then and a repeat are the sum, product and star of their parts
  abbrev pub value_of : List S → Record → S
  value_of lower r =
      let left = get_or lower r.left o.zero in
      let right = get_or lower r.right o.zero in
      cond (r.kind == 1) o.one
      (cond (r.kind == 2) (step r.left)
      (cond (r.kind == 3) (o.sum left right)
      (cond (r.kind == 4) (o.product left right)
      (cond (r.kind == 5) (o.star left) o.zero))))

  -- the values of records, one after the other
  abbrev pub values : List Record → List S
  values records = fold (λ lower r. lower ++ value_of lower r ∷ []) [] records

  -- what expression x of a store means
  abbrev pub meaning_of : Contents → ℕ → S
  meaning_of c x = slice_index_or (values (used c)) x o.zero

-- a record that can be read: the parts that it is read from are there
pub record Readable (weights memo : ℕ) (r : Record) : Type 0 where
  pub weighed : r.kind ≡ 2 → r.left < weights
  pub left : (r.kind ≡ 3) ⊎ ((r.kind ≡ 4) ⊎ (r.kind ≡ 5)) → r.left < memo
  pub right : (r.kind ≡ 3) ⊎ (r.kind ≡ 4) → r.right < memo

-- a step that is named has a weight among so many
abbrev pub names_below : ℕ → ℕ → Record → Bool
names_below weights i r = not (r.kind == 2) || nat_lt r.left weights

-- in how many ways expression x spells each list of steps
abbrev pub ways : Contents → ℕ → Series
ways c x = meaning_of counting letter c x
