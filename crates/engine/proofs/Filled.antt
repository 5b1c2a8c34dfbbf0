-- Places of a list are filled one after the other. Assumes nothing.
use Rattle.std.proofs.Common.{◌≡◌, ℕ, ◌+◌, ◌<◌, ◌≤◌, List, [], ◌∷◌, ◌++◌, map, length, take, drop, set, sym, ap, ◌∙◌, append_assoc, add-one, arith}
use mathlib.Core.List.{map-append}
use Rattle.std.proofs.lemmas.List.{append-nil, length-map, length-take-le, drop_more, drop_all, set_at}
use Rattle.elimination.specs.Moves.{below}
use Rattle.planning.proofs.Loads.{length-below}
use Rattle.engine.specs.Tracking.{filled}

pub filled_more : {X : Type 0} (f : ℕ → X) (n : ℕ) (xs : List X) → n < length xs → set (filled f n xs) n (f n) ≡ filled f (n + 1) xs
filled_more f n xs h =
    let front = map f (below n) in
    let long = length-map (below n) f ∙ length-below n in
    ap (λ ys. set (front ++ ys) n (f n)) (drop_more xs n (f n) h)
    ∙ set_at front _ (drop (n + 1) xs) (f n) n long
    ∙ sym (append_assoc front (f n ∷ []) (drop (n + 1) xs))
    ∙ ap (λ ys. ys ++ drop (n + 1) xs) (sym (map-append f (below n) (n ∷ [])) ∙ ap (λ k. map f (below k)) (sym (add-one n)))

pub filled_all : {X : Type 0} (f : ℕ → X) (xs : List X) → filled f (length xs) xs ≡ map f (below (length xs))
filled_all f xs = ap (λ ys. map f (below (length xs)) ++ ys) (drop_all (length xs) xs (omega arith)) ∙ append-nil _

-- a list whose first n places were written as a part of it
pub filled_part : {X : Type 0} (f : ℕ → X) {n k : ℕ} (xs : List X) {part : List X} → n ≤ length xs → n ≡ k → part ≡ map f (below (length (take n xs))) → part ++ drop n xs ≡ filled f k xs
filled_part f {n} xs room same written =
    ap (λ ys. ys ++ drop n xs) (written ∙ ap (λ m. map f (below m)) (length-take-le n xs room)) ∙ ap (λ m. filled f m xs) same
