-- The network is drawn and sealed, and the query promises its answers. Assumes nothing.
use Rattle.std.proofs.Common.{replicate, ap, ◌∙◌}
use Rattle.expressions.specs.Layout.{blank}
use Rattle.network.specs.Plans.{planned}
use Rattle.worked.proofs.Asked.{not-refused, client_asked, client_least}
use Rattle.worked.proofs.Drawings.{then_seal}
use Rattle.worked.proofs.around.around_a_loop.Goals as goal

pub returns-in_err-sealed : goal.returns-in_err-sealed
returns-in_err-sealed g c =
    absurd (not-refused _ c.new-plan.ensures c.in_ok-draft.ensures.value c.in_err-sealed.ensures.settled)

pub returns : goal.returns
returns g c =
    let m = g.A.Algebra.meaning c.args.algebra.now in
    let laws = g.met.A.Algebra.kleene c.args.algebra.now in
    let weights = c.args.weights.now in
    let memo = c.args.memo.now in
    let answers = c.args.answers.now in
    let drawn = c.in_ok-draft.ensures in
    let settled = c.in_ok-sealed.ensures.settled in
    let asked = ap (λ q. q.answer) c.query.ensures.after ∙ client_asked m laws c.in_ok-sealed.sealed weights memo answers c.new-plan.ensures drawn.value settled in
    let history = then_seal c.in_ok-sealed.sealed (replicate 32 blank) (replicate 1024 0) (planned c.new-plan.result) drawn.history settled in
    record {
      asked = asked;
      least = client_least m laws c.query.result _ _ weights memo answers c.query.new.answers asked history c.query.ensures.promises;
    }
