-- Joining two chains multiplies what they come to. Assumes nothing.
use Rattle.std.proofs.Common.{◌≡◌, List, [], ◌∷◌, fold, sym, refl, ap, ◌∙◌}
use Rattle.std.proofs.lemmas.List.Sums.{fold-append}
use Rattle.kleene.specs.Algebras.{Meaning, Kleene, Member, everywhere}
use Rattle.kleene.specs.Chains.{comes_to, Joins}
use Rattle.kleene.proofs.Everywhere.{product-member, product_assoc, product-one}

module _ {V : Type 0} (m : Meaning V) (laws : Kleene m) where
  open everywhere m use {one, product as ◌⊙◌}

  infixl 70 ◌⊙◌
  folded_member : (a : V) (ws : List V) → Member m a → Member m (fold ◌⊙◌ a ws)
  folded_member a [] h = h
  folded_member a (w ∷ ws) h = folded_member (a ⊙ w) ws (product-member m laws a w)

  folded_from : (a b : V) (ws : List V) → fold ◌⊙◌ (a ⊙ b) ws ≡ a ⊙ fold ◌⊙◌ b ws
  folded_from a b [] = refl
  folded_from a b (w ∷ ws) = ap (λ x. fold ◌⊙◌ x ws) (product_assoc m laws a b w) ∙ folded_from a (b ⊙ w) ws

  pub joins : (ws : List V) → Joins (everywhere m) ws (comes_to (everywhere m) ws)
  joins ws front back e =
      let first = fold ◌⊙◌ one front in
      ap (comes_to (everywhere m)) (sym e)
      ∙ fold-append ◌⊙◌ one front back
      ∙ ap (λ x. fold ◌⊙◌ x back) (sym (product-one m laws first (folded_member one front laws.one-member)))
      ∙ folded_from first one back
