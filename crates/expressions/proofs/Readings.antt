-- In a Kleene algebra making an expression means what it is called, for weights that are members. Assumes nothing.
use Rattle.std.proofs.Common.{◌≡◌, ℕ, zero, suc, ◌<◌, List, [], ◌∷◌, ◌++◌, length, get_or, fold, refl, ap, ◌∙◌, arith}
use Rattle.std.proofs.lemmas.List.{length-take, get_or-take}
use Rattle.std.proofs.lemmas.Bool.Decides.{nat_tests}
use Rattle.kleene.specs.Algebras.{Operations, Meaning, Kleene, Member, Below}
use Rattle.elimination.proofs.Members.{whole, on_members, members_laws, below_both, sum-below, left_below, kleene_semiring}
use Rattle.expressions.specs.declared.Record.{Record}
use Rattle.expressions.specs.Layout.{blank}
use Rattle.expressions.specs.Contents.{Contents, used}
use Rattle.expressions.specs.Meanings.{value_of, meaning_of}
use Rattle.expressions.specs.Laws.{WeighedIn, ReadingMeans}
use Rattle.expressions.proofs.Growth.{more}
use Rattle.expressions.proofs.Means.{Neutral, Simplifies, making_means}

-- the star of what is below one is one
star_of_below_one : {S : Type 0} (o : Operations S) → Kleene (whole o) → (a : S) → Below (whole o) a o.one → o.star a ≡ o.one
star_of_below_one o laws a h =
    let once = sum-below o laws (laws.sum_same o.one refl) (rw (laws.one_product a refl) h) in
    let within = rw (laws.one_product (o.star a) refl) at (laws.least_last a o.one o.one refl refl refl once) in
    let unfolds = (kleene_semiring o laws).star_unfolds a tt in
    below_both o laws within (rw (← unfolds) at (left_below o laws o.one (o.product (o.star a) a)))

module _ {V : Type 0} (m : Meaning V) (laws : Kleene m) where
  -- zero and one are what they are called, at a member
  neutral-member : (a : V) → Member m a → Neutral m.on a
  neutral-member a h = record {
    zero-sum = laws.zero-sum a h;
    sum-zero = laws.sum_comm a _ h laws.zero-member ∙ laws.zero-sum a h;
    zero-product = laws.zero-product a h;
    product-zero = laws.product-zero a h;
    one_product = laws.one_product a h;
    product-one = laws.product-one a h;
  }

  -- every place of a list has a member, and past its end there is zero, which is one
  abbrev pub AllMembers : List V → Type 0
  AllMembers vs = (k : ℕ) → Member m (get_or vs k m.on.zero)

  -- one more member
  pub push_member : (vs : List V) (v : V) → AllMembers vs → Member m v → AllMembers (vs ++ v ∷ [])
  push_member [] v all new zero = new
  push_member [] v all new (suc k) = laws.zero-member
  push_member (u ∷ vs) v all new zero = all 0
  push_member (u ∷ vs) v all new (suc k) = push_member vs v (λ i. all (suc i)) new k

  module _ (weight : ℕ → V) where
    -- a step that a record names has a member for weight
    abbrev pub Weighed : Record → Type 0
    Weighed r = r.kind ≡ 2 → Member m (weight r.left)

    -- the value of such a record is a member, where those of its parts are
    pub value_member : (lower : List V) (r : Record) → AllMembers lower → Weighed r → Member m (value_of m.on weight lower r)
    value_member lower r all weighed =
        let left = all r.left in
        let right = all r.right in
        let sum = laws.sum-member _ _ left right in
        let product = laws.product-member _ _ left right in
        let star = laws.star-member _ left in
        grind (arith, nat_tests, laws.zero-member, laws.one-member)

    -- so are the values of all, one after the other
    values-members : (lower : List V) (xs : List Record) → AllMembers lower → ((i : ℕ) → i < length xs → Weighed (get_or xs i blank)) →
        AllMembers (fold (more m.on weight) lower xs)
    values-members lower [] all weighed = all
    values-members lower (x ∷ xs) all weighed =
        let new = value_member lower x all (weighed 0 (omega arith)) in
        values-members (more m.on weight lower x) xs (push_member lower _ all new) (λ i h. weighed (suc i) (omega arith))

    -- so every expression means a member
    pub meaning_member : (c : Contents) → WeighedIn m weight c → (x : ℕ) → Member m (meaning_of m.on weight c x)
    meaning_member c weighed = values-members [] (used c) (λ _. laws.zero-member)
        (λ i h. let within : i < c.count = omega (arith, length-take c.count c.records) in rw get_or-take (weighed i within))

    -- so the simplifying rules are right
    simplifies : Simplifies m.on weight (WeighedIn m weight) (λ _ _. Unit {0})
    simplifies =
        let over = on_members m laws in
        let kept = members_laws m laws in
        record {
          neutral = λ c weighed x. neutral-member _ (meaning_member c weighed x);
          twice = λ c weighed x _. laws.sum_same _ (meaning_member c weighed x);
          star-zero = ap (λ a. a.0) (star_of_below_one over kept over.zero (kept.zero-sum over.one refl));
          star-one = ap (λ a. a.0) (star_of_below_one over kept over.one (kept.sum_same over.one refl));
        }

  -- whatever the weights are
  pub readings_mean_spec : ReadingMeans m
  readings_mean_spec weight = making_means m.on weight _ _ (simplifies weight)
