-- A plan that carries no more records than there are names none past them; of another, each row is looked at. Assumes nothing.
use Rattle.std.proofs.Common.{◌≡◌, ℕ, Bool, true, ◌&&◌, ltb, sym, refl, ap, ◌∙◌, rules, tests, arith}
use Rattle.std.proofs.lemmas.Bool.{and_from, eq-eqb, le-leb, lt-ltb}
use Rattle.std.proofs.lemmas.Iterator.{YieldsList-from_range}
use Rattle.std.proofs.lemmas.Iterator.Search.{all_from_yields_List}
use Rattle.planning.specs.Components.{every}
use Rattle.planning.specs.Tables.{table_of}
use Rattle.planning.proofs.Lowest.{decides_every}
use Rattle.network.proofs.Everies.{every_is_all}
use Rattle.network.proofs.plan.Plan.is_sound.Goals as goal

pub returns-then-self-records : goal.returns-then-self-records
returns-then-self-records c =
    let p = c.args.self.now in
    let n = c.args.formats in
    let test : ℕ → ℕ → Bool = λ u w. ltb (table_of p.rows u w) c.args.records in
    let all : every n (λ u. every n (test u)) ≡ true =
    (decides_every n (λ u. every n (test u))).1 (λ u h. (decides_every n (test u)).1 (λ w l. lt-ltb _ _ (omega (arith, p.in_use u w (omega arith) (omega arith))))) in
    le-leb p.records c.args.records (omega arith) ∙ sym (and_from _ _ (eq-eqb _ _ c.if-self-formats.true) all)

pub returns-else-self-records : goal.returns-else-self-records
returns-else-self-records c =
    let p = c.args.self.now in
    let n = c.args.formats in
    let row : ℕ → Bool = λ u. every n (λ w. ltb (table_of p.rows u w) c.args.records) in
    all_from_yields_List row _ _ c.all.result c.all.ensures.ran (YieldsList-from_range 0 n n refl (omega arith)) (λ x b q k. search (rules, tests))
    ∙ sym (every_is_all n row)
    ∙ sym (ap (λ same. same && every n row) (eq-eqb _ _ c.if-self-formats.true))
