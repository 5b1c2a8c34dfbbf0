use Rattle.std.proofs.Common.{◌≡◌, ℕ, zero, suc, List, [], ◌∷◌, ◌++◌, replicate, get_or, refl}

-- a list reads the same when it is carried on with the value that is read past its end
pub get_or-carried : {X : Type 0} (xs : List X) (n j : ℕ) (d : X) → get_or (xs ++ replicate n d) j d ≡ get_or xs j d
get_or-carried [] zero j d = refl
get_or-carried [] (suc n) zero d = refl
get_or-carried [] (suc n) (suc j) d = get_or-carried [] n j d
get_or-carried (x ∷ xs) n zero d = refl
get_or-carried (x ∷ xs) n (suc j) d = get_or-carried xs n j d
