-- Zeros are written over the first 1,024 heads. Assumes nothing.
use Rattle.std.proofs.Common.{◌≡◌, ap, ◌∙◌, replicate}
use Rattle.std.proofs.lemmas.List.{length-take-le}
use Rattle.expressions.proofs.store.empty.Goals as goal

pub returns : goal.returns
returns c =
    let zeros : c.fill.new.self ≡ replicate 1024 0 = c.fill.ensures.after (λ y e. e) ∙ ap (λ n. replicate n 0) (length-take-le 1024 c.args.heads.now c.requires) in
    cc
