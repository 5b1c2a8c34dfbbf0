-- What holds in every history: a trace that answers spells every route once, and a query that answers gives the least solution too,
-- and the same as any query of a like network. Assumes nothing.
use Rattle.std.proofs.Common.{◌≡◌, ℕ, ◌<◌, Bool, true, false, eqb, List, length, get_or, take, sym, refl, ap, ◌∙◌, subst}
use mathlib.Core.Path.{fun_ext}
use Rattle.std.proofs.lemmas.Bool.{and_parts}
use Rattle.kleene.specs.Algebras.{Operations, Meaning, Kleene, Member, Below, everywhere}
use Rattle.refusals.specs.Refused.{Outcome, done}
use Rattle.elimination.specs.Networks.{Network, arc, Joined}
use Rattle.elimination.specs.Equations.{when, sum_below, start, inflow, Weighed, Least}
use Rattle.elimination.specs.Moves.{traced}
use Rattle.elimination.proofs.Least.{solves-and-least, like_agree}
use Rattle.expressions.specs.declared.Record.{Record}
use Rattle.expressions.specs.declared.Step.{Step}
use Rattle.expressions.specs.Meanings.{meaning_of}
use Rattle.planning.specs.Components.{component_count}
use Rattle.network.specs.Plans.{Planned}
use Rattle.network.specs.Seals.{components}
use Rattle.network.specs.States.{SealedCounts}
use Rattle.engine.specs.Checks.{Lengths, traceable, queryable}
use Rattle.engine.specs.Tracking.{contents_after, traces}
use Rattle.engine.specs.Querying.{weight_in, member_in, answers_after, queries}
use Rattle.engine.specs.Histories.{History}
use Rattle.engine.specs.Promises.{sealed_world, RoutesInEveryHistory, InEveryHistory}
use Rattle.engine.proofs.Everywhere.{meaning_everywhere}
use Rattle.engine.proofs.Scheduled.{drawn_force}
use Rattle.engine.proofs.Weighed.{reads_traced, reads_weighed}
use Rattle.engine.proofs.Passing.{traceable-known, queryable_so}
use Rattle.engine.proofs.Answered.{filled_at, components_ordered, Went, done_went, holds, settles, same-formats, network_joined, went_traces, went_routes}

-- every trace that answers, whatever happened before
pub trace_law : (s : SealedCounts) (steps : List Step) (records : List Record) (heads row : List ℕ) (plan : Planned) (source : ℕ) →
    (let t = traces s steps records heads row plan source in
    t.answer ≡ done tt →
    RoutesInEveryHistory (sealed_world s steps records heads plan) source (record { records = t.records; heads = t.heads; count = t.state.records }) t.row)
trace_law s steps records heads row plan source e N history =
    let went = done_went s steps records heads plan source (traceable s steps records heads (length row) plan source) e in
    went_routes history went (traceable-known s steps records heads (length row) plan source went.passed) row

-- what comes into a format is the same by values that are the same at the formats
module _ {V : Type 0} (o : Operations V) (N : Network) (joined : Joined N) (weight x y : ℕ → V) (same : (t : ℕ) → t < N.formats → y t ≡ x t) where
  when-same : (test : Bool) (a b : V) → (test ≡ true → b ≡ a) → when o test b ≡ when o test a
  when-same true a b e = e refl
  when-same false a b e = refl

  inflow-same : (t : ℕ) → inflow o N weight y t ≡ inflow o N weight x t
  unfolding inflow
  inflow-same t = ap (sum_below o (length N.steps)) (fun_ext (λ j. when-same _ _ _ (λ e.
      ap (λ a. o.product a (weight j)) (same _ (joined j (and_parts (arc N j).in_force (eqb (arc N j).to t) e).0).0))))

module _ {V : Type 0} (m : Meaning V) where
  -- so a least solution is one by such values
  least-same : (N : Network) (s : ℕ) (weight x y : ℕ → V) → Joined N → ((t : ℕ) → t < N.formats → y t ≡ x t) → Least m N s weight x → Least m N s weight y
  least-same N s weight x y joined same least = record {
    solves = record {
      members = λ t h. subst (Member m) (sym (same t h)) (least.solves.members t h);
      holds = λ t h. same t h ∙ least.solves.holds t h ∙ ap (m.on.sum (start m.on s t)) (sym (inflow-same m.on N joined weight x y same t));
    };
    below = λ z solution t h. subst (λ a. Below m a (z t)) (sym (same t h)) (least.below z solution t h);
  }

  module _ (laws : Kleene m) where
    -- answers that are what elimination gives from the weights, which are members at the steps in force
    record Reads (N : Network) (source : ℕ) (weights answers : List V) : Type 0 where
      source_known : source < N.formats
      weighed : Weighed m N (weight_in m weights)
      reads : (t : ℕ) → t < N.formats →
          get_or answers t m.on.zero ≡ traced m.on (weight_in m weights) N (component_count N) (components N) source t

    module _ (s : SealedCounts) (steps : List Step) (records : List Record) (heads row : List ℕ) (weights memo answers : List V) (plan : Planned) (source : ℕ) where
      abbrev lengths : Lengths
      lengths = record { row = length row; weights = length weights; memo = length memo; answers = length answers }

      abbrev check : Outcome (Unit {0})
      check = queryable s steps records heads lengths (member_in m weights) plan source

      -- a query that answers
      module _ (answered : (queries m s steps records heads row weights memo answers plan source).answer ≡ done tt) {N : Network}
          (history : History (sealed_world s steps records heads plan) N) where
        query_went : Went s steps records heads plan source check
        query_went = done_went s steps records heads plan source check answered

        query-known : source < s.formats
        query-known = (queryable_so s steps records heads lengths (member_in m weights) plan source query_went.passed).0

        -- its weights are members at the steps in force
        query-weighed : Weighed m N (weight_in m weights)
        query-weighed = subst (λ M. Weighed m M (weight_in m weights)) (holds history).draws (λ j force.
            (queryable_so s steps records heads lengths (member_in m weights) plan source query_went.passed).1 j
            (sym (drawn_force s.formats (take s.steps steps) j) ∙ force))

        -- its answers read as the row does
        query-at : (t : ℕ) → t < N.formats →
            get_or (queries m s steps records heads row weights memo answers plan source).answers t m.on.zero
            ≡ traced m.on (weight_in m weights) N (component_count N) (components N) source t
        query-at t h =
            let weight = weight_in m weights in
            let end = query_went.end in
            let found = query_went.found in
            let so = went_traces history query_went query-known in
            let begun = (settles history).begun.named in
            let named = (settles history).good.named in
            ap (λ u. get_or (answers_after m weights (contents_after u) s.formats u.answer answers) t m.on.zero) query_went.gives
            ∙ filled_at (λ u. meaning_of (everywhere m) weight end (found u)) s.formats answers t _ (subst (λ n. t < n) (sym (same-formats history)) h)
            ∙ meaning_everywhere m laws weight end (reads_weighed m laws weight N query-weighed so begun named) (found t)
            ∙ reads_traced m laws weight N query-weighed so begun named t

        query_reads : Reads N source weights (queries m s steps records heads row weights memo answers plan source).answers
        query_reads = record {
          source_known = subst (λ n. source < n) (same-formats history) query-known;
          weighed = query-weighed;
          reads = query-at;
        }

-- every query that answers, whatever happened before
pub query_law : {V : Type 0} (m : Meaning V) → Kleene m →
    (s : SealedCounts) (steps : List Step) (records : List Record) (heads row : List ℕ) (weights memo answers : List V) (plan : Planned) (source : ℕ) →
    (let q = queries m s steps records heads row weights memo answers plan source in
    q.answer ≡ done tt →
    InEveryHistory m (sealed_world s steps records heads plan) source weights (record { records = q.records; heads = q.heads; count = q.state.records }) q.row q.answers)
query_law m laws s steps records heads row weights memo answers plan source e = record {
  routes = λ N history.
      went_routes history (query_went m laws s steps records heads row weights memo answers plan source e history)
      (query-known m laws s steps records heads row weights memo answers plan source e history) row;
  least = λ N history.
      let joined = network_joined history in
      let r = query_reads m laws s steps records heads row weights memo answers plan source e history in
      least-same m N source (weight_in m weights) _ _ joined r.reads
      (solves-and-least m laws N _ _ source (weight_in m weights) joined (components_ordered N joined) r.source_known r.weighed);
  like = λ N M history s' steps' records' heads' plan' past match row' others memo' before equal e' t h.
      let joined = network_joined history in
      let joined' = network_joined past in
      let r = query_reads m laws s steps records heads row weights memo answers plan source e history in
      let r' = query_reads m laws s' steps' records' heads' row' others memo' before plan' source e' past in
      r'.reads t (subst (λ n. t < n) match.formats h)
      ∙ sym (like_agree m laws N M _ _ _ _ source _ _ joined (components_ordered N joined) joined' (components_ordered M joined')
      r.source_known r.weighed match equal t h)
      ∙ sym (r.reads t h);
}
