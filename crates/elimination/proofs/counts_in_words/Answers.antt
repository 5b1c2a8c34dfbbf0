use Rattle.std.proofs.Common.{refl, ◌∙◌}
use Rattle.elimination.proofs.Series.{over_cuts_lem, star-cuts}
use Rattle.elimination.proofs.counts_in_words.Goals as goal

pub returns : goal.returns
returns c = record {
  product = over_cuts_lem;
  star-empty = λ f. refl;
  star_more = λ f j js. star-cuts f j js ∙ over_cuts_lem _ _ js;
}
