-- What a chain of steps comes to. Assumes nothing.
use Rattle.std.specs.Prelude.{◌≡◌, List, ◌++◌, fold}
use Rattle.kleene.specs.Algebras.{Operations}

module _ {V : Type 0} (o : Operations V) where
  -- the product of the weights from left to right, one for the empty chain
  abbrev pub comes_to : List V → V
  comes_to weights = fold o.product o.one weights

  -- wherever the chain is cut in two, its value r is the product of what the two parts come to
  abbrev pub Joins : List V → V → Type 0
  Joins weights r = (front back : List V) → front ++ back ≡ weights → r ≡ o.product (comes_to front) (comes_to back)
