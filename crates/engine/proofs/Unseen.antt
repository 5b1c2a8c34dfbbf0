-- The weights of retired steps play no part in a query. Assumes nothing.
use Rattle.std.proofs.Common.{◌≡◌, ℕ, suc, ◌≤◌, Bool, true, false, cond, not, ◌&&◌, ◌||◌, eqb, ltb, List, [], ◌∷◌, ◌++◌, length, get_or, take, drop, Some, fold, sym, refl, ap, ◌∙◌, arith}
use Rattle.std.proofs.lemmas.Bool.{and_parts, and_left, or_parts, not-false, cond-true, cond-false, ltb-false}
use Rattle.kleene.specs.Algebras.{Operations, Meaning, everywhere}
use Rattle.refusals.specs.Refused.{Outcome, done, refused}
use Rattle.expressions.specs.declared.Record.{Record}
use Rattle.expressions.specs.declared.Step.{Step}
use Rattle.expressions.specs.Layout.{each, well_formed, linked, in_force, names_in_force, record_sound, records_sound, heads_sound}
use Rattle.expressions.specs.Meanings.{value_of, values}
use Rattle.expressions.proofs.Growth.{more}
use Rattle.planning.specs.Running.{Ran, through, stopped}
use Rattle.planning.proofs.Lowest.{lowest-same}
use Rattle.network.specs.Plans.{Planned, plan_sound}
use Rattle.network.specs.Seals.{steps_sound}
use Rattle.network.specs.States.{SealedCounts}
use Rattle.engine.specs.Checks.{before, long_enough, long_too, undamaged, known, weighed, queryable}
use Rattle.engine.specs.Tracking.{tracked, tracked_by, ran_from, filled}
use Rattle.engine.specs.Querying.{weight_in, member_in, queried_by}
use Rattle.engine.specs.Passing.{Undamaged}
use Rattle.engine.specs.Promises.{RetiredUnseen}
use Rattle.engine.proofs.Passing.{not-refused, both_done}
use Rattle.engine.proofs.Readable.{run_reads}

-- where two steps' values agree at the steps in force, so do the values of records that are not damaged
module _ {S : Type 0} (o : Operations S) (f g : ℕ → S) (added : List Step) (same : (j : ℕ) → in_force added j ≡ true → f j ≡ g j) where
  -- the value of a record that is no step
  abbrev other : List S → Record → S
  other lower r =
      let left = get_or lower r.left o.zero in
      let right = get_or lower r.right o.zero in
      cond (eqb r.kind 3) (o.sum left right) (cond (eqb r.kind 4) (o.product left right) (cond (eqb r.kind 5) (o.star left) o.zero))

  value_same : (lower : List S) (i : ℕ) (r : Record) → record_sound added i r ≡ true → value_of o f lower r ≡ value_of o g lower r
  value_same lower i r sound = go (eqb r.kind 2) refl (and_parts (linked i r) (names_in_force added r) (and_parts (well_formed i r) (linked i r && names_in_force added r) sound).1).1
    where
      go : (t : Bool) → eqb r.kind 2 ≡ t → names_in_force added r ≡ true → value_of o f lower r ≡ value_of o g lower r
      go true e named = ap (λ x. cond (eqb r.kind 1) o.one (cond (eqb r.kind 2) x (other lower r))) (same r.left (sym (cond-true _ _ _ e) ∙ named))
      go false e named = ap (λ x. cond (eqb r.kind 1) o.one x) (cond-false _ _ (other lower r) e ∙ sym (cond-false _ _ (other lower r) e))

  values-from : (lower : List S) (i : ℕ) (records : List Record) → each (record_sound added) i records ≡ true → fold (more o f) lower records ≡ fold (more o g) lower records
  values-from lower i [] sound = refl
  values-from lower i (r ∷ records) sound =
      let (here, rest) = and_parts _ _ sound in
      ap (λ v. fold (more o f) (lower ++ v ∷ []) records) (value_same lower i r here) ∙ values-from (more o g lower r) (suc i) records rest

  values_same : (records : List Record) → records_sound added records ≡ true → values o f records ≡ values o g records
  values_same records sound = values-from [] 0 records sound

-- the weights that are looked at are members, or not, alike
weighed-same : (added : List Step) (member other : ℕ → Bool) → ((j : ℕ) → in_force added j ≡ true → member j ≡ other j) → weighed added member ≡ weighed added other
weighed-same added member other same =
    ap (λ first. cond (ltb first (length added)) (refused 8 (Some first)) (done tt)) (lowest-same (length added) _ _ (λ j h. at j (in_force added j) refl))
  where
    at : (j : ℕ) (t : Bool) → in_force added j ≡ t → (in_force added j && not (member j)) ≡ (in_force added j && not (other j))
    at j true e = ap (λ b. in_force added j && not b) (same j e)
    at j false e = and_left _ _ e ∙ sym (and_left _ _ e)

-- what checks that were passed have shown
undamaged-done : (s : SealedCounts) (steps : List Step) (records : List Record) (heads : List ℕ) (plan : Planned) → undamaged s steps records heads plan ≡ done tt →
    Undamaged s (take s.steps steps) records heads plan
undamaged-done s steps records heads plan e =
    let added = take s.steps steps in
    let (joined, more) = not-refused (not (steps_sound s.formats added)) _ _ e in
    let (formed, rest) = not-refused (not (records_sound added (take s.records records))) _ _ more in
    let (headed, last) = not-refused (not (heads_sound s.records (take 1024 heads))) _ _ rest in
    let (planned, _) = not-refused (not (plan_sound s.formats s.records plan)) _ _ last in
    record { joined = not-false _ joined; formed = not-false _ formed; headed = not-false _ headed; planned = not-false _ planned }

long_done : (s : SealedCounts) (steps records heads row : ℕ) → long_enough s steps records heads row ≡ done tt → (s.records ≤ records) × (1024 ≤ heads)
long_done s steps records heads row e =
    let (_, more) = not-refused (ltb steps s.steps) _ _ e in
    let (room, rest) = not-refused (ltb records 2 || ltb records s.records) _ _ more in
    let (chains, _) = not-refused (ltb heads 1024) _ _ rest in
    (ltb-false _ _ (or_parts _ _ room).1, ltb-false _ _ chains)

module _ {V : Type 0} (m : Meaning V) (s : SealedCounts) (steps : List Step) (records : List Record) (heads row : List ℕ) (weights memo answers : List V) (plan : Planned) (source : ℕ)
    (begun : 2 ≤ s.records) (within : s.records ≤ 131072) where
  -- the checks of a query with other weights
  abbrev checks : List V → Outcome (Unit {0})
  checks ws = queryable s steps records heads (record { row = length row; weights = length ws; memo = length memo; answers = length answers }) (member_in m ws) plan source

  module _ (others : List V) (long : length others ≡ length weights) (same : (j : ℕ) → in_force (take s.steps steps) j ≡ true → weight_in m others j ≡ weight_in m weights j) where
    checks_same : checks others ≡ checks weights
    checks_same =
        ap (λ k. queryable s steps records heads (record { row = length row; weights = k; memo = length memo; answers = length answers }) (member_in m others) plan source) long
        ∙ ap (λ o. before (long_enough s (length steps) (length records) (length heads) (length row)) (before (long_too s (length records) (length weights) (length memo) (length answers))
        (before (undamaged s steps records heads plan) (before (known s source) o)))) (weighed-same (take s.steps steps) (member_in m others) (member_in m weights) (λ j force. ap m.member (same j force)))

    ran_same : long_enough s (length steps) (length records) (length heads) (length row) ≡ done tt → undamaged s steps records heads plan ≡ done tt →
        (ran : Ran (ℕ → ℕ)) → ran_from s (take s.steps steps) records heads plan source ≡ ran → queried_by m s row others memo answers (tracked_by s ran) ≡ queried_by m s row weights memo answers (tracked_by s ran)
    ran_same enough sound (through d found) run =
        let (room, chains) = long_done s (length steps) (length records) (length heads) (length row) enough in
        let added = take s.steps steps in
        let (reads, _) = run_reads (undamaged-done s steps records heads plan sound) begun within room chains source (length added) (omega arith) run in
        let read = values_same (everywhere m) (weight_in m others) (weight_in m weights) added same (take d.count d.records) reads.forced in
        λ i. record {
          answer = done tt;
          state = (tracked_by s (through d found)).state;
          records = d.records;
          heads = d.heads;
          row = filled found s.formats row;
          memo = read i ++ drop d.count memo;
          answers = filled (λ t. get_or (read i) (found t) m.on.zero) s.formats answers;
        }
    ran_same enough sound (stopped d n v) run = refl

    checked_same : (check : Outcome (Unit {0})) → checks weights ≡ check →
        queried_by m s row others memo answers (tracked s steps records heads plan source check) ≡ queried_by m s row weights memo answers (tracked s steps records heads plan source check)
    checked_same (done _) e =
        let (enough, more) = both_done (long_enough s (length steps) (length records) (length heads) (length row)) e in
        let (_, rest) = both_done (long_too s (length records) (length weights) (length memo) (length answers)) more in
        let (sound, _) = both_done (undamaged s steps records heads plan) rest in
        ran_same enough sound _ refl
    checked_same (refused n v) e = refl

  pub retired_unseen : RetiredUnseen m s steps records heads row weights memo answers plan source
  retired_unseen others long same =
      ap (λ check. queried_by m s row others memo answers (tracked s steps records heads plan source check)) (checks_same others long same)
      ∙ checked_same others long same (checks weights) refl
