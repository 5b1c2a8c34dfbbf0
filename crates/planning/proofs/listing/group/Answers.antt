-- The formats from the start on are places too, and no more of them lead than there are. Assumes nothing.
use Rattle.std.proofs.Common.{ℕ, ◌+◌, ◌<◌, drop, sym, subst, arith}
use Rattle.std.specs.List.{All}
use Rattle.std.proofs.lemmas.List.{get_or-drop, length-drop, take_rest}
use Rattle.std.proofs.lemmas.List.Elements.{All-from_get_or}
use Rattle.planning.proofs.listing.group.Goals as goal

pub leading-requires : goal.leading-requires
leading-requires c =
    let order = c.args.order.now in
    let start : ℕ = c.args.start in
    subst (All (λ v. v < 32)) (sym (take_rest order start))
    (All-from_get_or (λ v. v < 32) (drop start order) 0 (λ i h. subst (λ v. v < 32) (sym (get_or-drop start order i 0)) (c.requires.places (start + i))))

pub overflow_add-end : goal.overflow_add-end
overflow_add-end c = omega (arith, length-drop c.args.start c.args.order.now, c.leading.ensures.within)

pub slice_bounds-result-end : goal.slice_bounds-result-end
slice_bounds-result-end c = omega (arith, length-drop c.args.start c.args.order.now, c.leading.ensures.within)
