-- Each turn lists one format more, if it is of the component. Assumes nothing.
use Rattle.std.proofs.Common.{◌≡◌, ℕ, ◌∷◌, [], ◌++◌, ◌+◌, eqb, length, get_or, sym, ap, ◌∙◌, subst, append-nil, append_assoc, arith}
use Rattle.std.proofs.lemmas.List.{length-append, length_push}
use Rattle.planning.specs.Orders.{members_of}
use Rattle.planning.proofs.Orders.{keep_rises, members-one, members-same}
use Rattle.planning.proofs.listing.gather.Goals as goal
use Rattle.planning.proofs.listing.gather.Goals.{then-of-v, else-of-v}

pub loop-v-init : goal.loop-v-init
loop-v-init c = sym (append-nil _)

pub push-requires : goal.push-requires
push-requires c =
    let component : ℕ → ℕ = λ v. get_or c.args.of.now v 0 in
    let v = c.loop-v.v in
    let rises = keep_rises (λ u. eqb (component u) c.args.c) c.args.formats (v + 1) (omega arith) in
    let one = ap length (members-one component c.args.c v c.if-of-v.true) ∙ length_push (members_of v component c.args.c) v in
    let long = ap length c.loop-v.invariant ∙ length-append c.args.listed.now.items (members_of v component c.args.c) in
    omega arith

pub loop-v-preserved : goal.loop-v-preserved
loop-v-preserved c =
    let component : ℕ → ℕ = λ v. get_or c.args.of.now v 0 in
    let v = c.loop-v.v in
    let before = c.args.listed.now.items in
    elim c.if-of-v.branch [
      | then-of-v w ↦
          ap (λ l. l.items) w.listed-is ∙ w.push.ensures.items ∙ ap (λ xs. xs ++ v ∷ []) c.loop-v.invariant
          ∙ append_assoc before (members_of v component c.args.c) (v ∷ []) ∙ ap (λ ms. before ++ ms) (sym (members-one component c.args.c v w.if-of-v.true))
      | else-of-v w ↦ ap (λ l. l.items) w.listed-is ∙ c.loop-v.invariant ∙ ap (λ ms. before ++ ms) (sym (members-same component c.args.c v w.if-of-v.false))
    ]

pub returns : goal.returns
returns c =
    let end : c.loop-v.v ≡ c.args.formats = omega arith in
    subst (λ v. c.loop-v.listed.items ≡ c.args.listed.now.items ++ members_of v (λ u. get_or c.args.of.now u 0) c.args.c) end c.loop-v.invariant
