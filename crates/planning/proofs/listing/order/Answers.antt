-- Each turn lists the formats of one component more. Assumes nothing.
use Rattle.std.proofs.Common.{◌≡◌, ℕ, ◌+◌, ◌++◌, length, get_or, drop, replicate, sym, ap, ◌∙◌, arith}
use Rattle.std.proofs.lemmas.List.{length-append, drop-replicate}
use Rattle.planning.specs.Orders.{members_of, in_order}
use Rattle.planning.proofs.Orders.{in_order_more, order-fits}
use Rattle.planning.proofs.listing.order.Goals as goal

pub loop-c-init : goal.loop-c-init
loop-c-init c = c.new-listed.ensures

pub gather-requires : goal.gather-requires
gather-requires c =
    let n = c.args.formats in
    let component : ℕ → ℕ = λ v. get_or c.args.components.now.of v 0 in
    let i = c.loop-c.c in
    let listed = ap length c.loop-c.invariant in
    let more = ap length (in_order_more n component i) ∙ length-append (in_order n i component) (members_of n component i) in
    let fits = order-fits n component (i + 1) in
    record { few = c.requires; room = omega arith }

pub loop-c-preserved : goal.loop-c-preserved
loop-c-preserved c =
    let n = c.args.formats in
    let component : ℕ → ℕ = λ v. get_or c.args.components.now.of v 0 in
    let i = c.loop-c.c in
    c.gather.ensures ∙ ap (λ xs. xs ++ members_of n component i) c.loop-c.invariant ∙ sym (in_order_more n component i)

pub returns : goal.returns
returns c =
    let n = c.args.formats in
    let count = c.args.components.now.count in
    let component : ℕ → ℕ = λ v. get_or c.args.components.now.of v 0 in
    let last : c.loop-c.c ≡ count = omega arith in
    let all : c.loop-c.listed.items ≡ in_order n count component = c.loop-c.invariant ∙ ap (λ i. in_order n i component) last in
    ap (λ xs. xs ++ drop c.len.result (replicate 32 0)) (c.copy_from_slice.ensures.after ∙ c.deref.ensures.0 ∙ all)
    ∙ ap (λ k. in_order n count component ++ drop k (replicate 32 0)) (c.len.ensures.value ∙ ap length all)
    ∙ ap (λ zeros. in_order n count component ++ zeros) (drop-replicate (length (in_order n count component)) 32 0)
