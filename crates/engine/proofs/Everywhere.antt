-- Where the steps that a store names have members for weights, its expressions read the same by the operations that an
-- implementation gives, which take an operand that is no member for zero: there is none. Assumes nothing.
use Rattle.std.proofs.Common.{◌≡◌, ℕ, suc, ◌<◌, List, [], ◌∷◌, ◌++◌, length, get_or, fold, refl, ap, ◌∙◌, arith}
use Rattle.std.proofs.lemmas.List.{length-take, get_or-take}
use Rattle.kleene.specs.Algebras.{Meaning, Kleene, everywhere}
use Rattle.kleene.proofs.Everywhere.{taken_of_member}
use Rattle.expressions.specs.declared.Record.{Record}
use Rattle.expressions.specs.Layout.{blank}
use Rattle.expressions.specs.Contents.{Contents, used}
use Rattle.expressions.specs.Meanings.{value_of, values, meaning_of}
use Rattle.expressions.specs.Laws.{WeighedIn}
use Rattle.expressions.proofs.Growth.{more}
use Rattle.expressions.proofs.Readings.{AllMembers, push_member, Weighed, value_member}

module _ {V : Type 0} (m : Meaning V) (laws : Kleene m) (weight : ℕ → V) where
  -- the value of a record, where those of its parts are members
  value_everywhere : (lower : List V) (r : Record) → AllMembers m laws lower → value_of (everywhere m) weight lower r ≡ value_of m.on weight lower r
  value_everywhere lower r all =
      let left = taken_of_member m laws _ (all r.left) in
      let right = taken_of_member m laws _ (all r.right) in
      simp (left, right) refl

  -- the values of records, one after the other
  more_everywhere : (lower : List V) (xs : List Record) → AllMembers m laws lower → ((i : ℕ) → i < length xs → Weighed m laws weight (get_or xs i blank)) →
      fold (more (everywhere m) weight) lower xs ≡ fold (more m.on weight) lower xs
  more_everywhere lower [] all weighed = refl
  more_everywhere lower (x ∷ xs) all weighed =
      let new = value_member m laws weight lower x all (weighed 0 (omega arith)) in
      ap (λ v. fold (more (everywhere m) weight) (lower ++ v ∷ []) xs) (value_everywhere lower x all)
      ∙ more_everywhere (more m.on weight lower x) xs (push_member m laws lower _ all new) (λ i h. weighed (suc i) (omega arith))

  module _ (c : Contents) (weighed : WeighedIn m weight c) where
    -- so of those in use
    pub values-everywhere : values (everywhere m) weight (used c) ≡ values m.on weight (used c)
    values-everywhere = more_everywhere [] (used c) (λ _. laws.zero-member)
        (λ i h. let within : i < c.count = omega (arith, length-take c.count c.records) in rw get_or-take (weighed i within))

    -- so what each expression means
    pub meaning_everywhere : (x : ℕ) → meaning_of (everywhere m) weight c x ≡ meaning_of m.on weight c x
    meaning_everywhere x = ap (λ vs. get_or vs x m.on.zero) values-everywhere
