-- Buffers that passed the checks are a sound store, whose plan names records in use. Assumes nothing.
use Rattle.std.proofs.Common.{◌≡◌, ℕ, suc, ◌≤◌, Bool, true, ltb, List, [], ◌∷◌, length, take, refl, arith}
use Rattle.std.proofs.lemmas.Bool.{and_parts, and_from, eqb-true, ltb-true}
use Rattle.expressions.specs.declared.Record.{Record}
use Rattle.expressions.specs.declared.Step.{Step}
use Rattle.expressions.specs.Contents.{Sound}
use Rattle.expressions.specs.Layout.{each, well_formed, linked, record_sound}
use Rattle.planning.specs.Components.{every}
use Rattle.planning.proofs.Lowest.{decides_every}
use Rattle.network.specs.Plans.{Planned}
use Rattle.network.specs.States.{SealedCounts}
use Rattle.engine.specs.Passing.{Undamaged}
use Rattle.engine.specs.Rows.{NamesInUse}

-- what passes one test passes a weaker one
pub each_weaker : {X : Type 0} (test other : ℕ → X → Bool) → ((i : ℕ) (x : X) → test i x ≡ true → other i x ≡ true) → (n : ℕ) (xs : List X) → each test n xs ≡ true → each other n xs ≡ true
each_weaker test other weaker n [] e = refl
each_weaker test other weaker n (x ∷ xs) e = let (here, rest) = and_parts _ _ e in and_from _ _ (weaker n x here) (each_weaker test other weaker (suc n) xs rest)

module _ {s : SealedCounts} {added : List Step} {records : List Record} {heads : List ℕ} {plan : Planned} (u : Undamaged s added records heads plan) where
  pub undamaged-sound : 2 ≤ s.records → s.records ≤ 131072 → s.records ≤ length records → 1024 ≤ length heads → Sound (record { records = records; heads = heads; count = s.records })
  undamaged-sound begun within room chains = record {
    begun = begun;
    room = omega arith;
    chains = chains;
    formed = each_weaker (record_sound added) well_formed (λ i r e. (and_parts _ _ e).0) 0 (take s.records records) u.formed;
    linked = each_weaker (record_sound added) linked (λ i r e. (and_parts _ _ (and_parts _ _ e).1).0) 0 (take s.records records) u.formed;
    headed = u.headed;
  }

  -- the plan is for as many formats
  pub plan-formats : plan.formats ≡ s.formats
  plan-formats = eqb-true _ _ (and_parts _ _ u.planned).0

  pub names_in_use : NamesInUse plan s.records
  names_in_use v w h l =
      let same = plan-formats in
      let row = (decides_every s.formats (λ v. every s.formats (λ w. ltb (plan.table v w) s.records))).0 (and_parts _ _ u.planned).1 v (omega arith) in
      ltb-true _ _ ((decides_every s.formats (λ w. ltb (plan.table v w) s.records)).0 row w (omega arith))
