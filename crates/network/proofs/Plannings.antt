-- What working out a plan rests on: sound steps join formats, and the order that is listed has all of them. Assumes nothing.
use Rattle.std.proofs.Common.{◌≡◌, ℕ, ◌-◌, ◌<◌, ◌≤◌, true, false, ◌&&◌, ltb, List, map, length, get_or, take, replicate, sym, refl, ap, ◌∙◌, subst, inl, inr, arith}
use mathlib.Core.Path.{fun_ext}
use Rattle.std.proofs.lemmas.List.{get_or-map, get_or_past, get_or-replicate, get_or_append_left, get_or-append_right, length-map, length-replicate, take-append-le, take_all}
use Rattle.std.proofs.lemmas.Bool.{cases_lt, and_parts, ltb-true, cond-true, cond-false, lt-ltb, le-ltb}
use Rattle.elimination.specs.Networks.{Arc, Network, Joined}
use Rattle.elimination.specs.Moves.{sealing}
use Rattle.expressions.specs.Contents.{Contents}
use Rattle.expressions.specs.declared.Step.{Step}
use Rattle.expressions.specs.Layout.{nowhere}
use Rattle.expressions.proofs.Eaches.{each_at}
use Rattle.planning.specs.Components.{Listing, component_of, component_count}
use Rattle.planning.specs.Running.{Ran, run_acts}
use Rattle.planning.specs.Drawn.{arc_of, drawn}
use Rattle.planning.specs.Orders.{in_order, padded}
use Rattle.planning.proofs.Orders.{order_full}
use Rattle.network.specs.Plans.{Planned}
use Rattle.network.specs.Seals.{steps_sound, components, plan_for, PlannedFor}
use Rattle.network.proofs.Turns.{in_turn}

-- sound steps join formats
pub sound-joined : (n : ℕ) (steps : List Step) → steps_sound n steps ≡ true → Joined (drawn n steps)
sound-joined n steps sound j force = elim (cases_lt j (length steps)) [
  | inl l ↦
      let ends = and_parts _ _ (each_at (λ _ s. ltb s.from n && ltb s.to n) steps j nowhere l sound) in
      subst (λ (a : Arc). (a.from < n) × (a.to < n)) (sym (get_or-map arc_of steps j nowhere _ l)) (ltb-true _ _ ends.0, ltb-true _ _ ends.1)
  | inr l ↦
      let past = get_or_past (map arc_of steps) j (arc_of nowhere) (rw length-map l) in
      let never : false ≡ true = sym (ap (λ (a : Arc). a.in_force) past) ∙ force in
      let no : ◌≡◌ {A = ℕ} 0 1 = cc in absurd (omega arith)
]

-- the formats of an order, without the places past them
module _ (n count : ℕ) (component : ℕ → ℕ) (counted : (v : ℕ) → v < n → component v < count) where
  pub order-taken : take n (padded (in_order n count component)) ≡ in_order n count component
  order-taken =
      let long = order_full n component count counted in
      take-append-le n (in_order n count component) _ (omega arith) ∙ take_all n (in_order n count component) (omega arith)

  pub order-length : length (take n (padded (in_order n count component))) ≡ n
  order-length = ap length order-taken ∙ order_full n component count counted

-- an order at each place
pub padded-at : (order xs : List ℕ) → order ≡ padded xs → (k : ℕ) → get_or order k 0 ≡ get_or xs k 0
padded-at order xs e k =
    ap (λ o. get_or o k 0) e ∙ elim (cases_lt k (length xs)) [
      | inl l ↦ get_or_append_left xs _ 0 k l
      | inr l ↦ get_or-append_right xs _ (length xs) k 0 refl l ∙ zeros _ (k - length xs) ∙ sym (get_or_past xs k 0 l)
    ]
  where
    zeros : (n i : ℕ) → ◌≡◌ {A = ℕ} (get_or (replicate n 0) i 0) 0
    zeros n i = elim (cases_lt i n) [ inl l ↦ get_or-replicate n i 0 0 l | inr l ↦ get_or_past (replicate n 0) i 0 (rw length-replicate l) ]

-- numbers that are the components of the formats, and 0 past them
pub components_are : (N : Network) (of : List ℕ) → ((v : ℕ) → v < N.formats → get_or of v 0 ≡ component_of N v) → ((v : ℕ) → N.formats ≤ v → get_or of v 0 ≡ 0) →
    (λ v. get_or of v 0) ≡ components N
components_are N of at past = fun_ext (λ v. elim (cases_lt v N.formats) [
  | inl l ↦ at v l ∙ sym (cond-true _ _ _ (lt-ltb _ _ l))
  | inr l ↦ past v l ∙ sym (cond-false _ _ _ (le-ltb _ _ l))
])

-- the same run of the acts of sealing
run_is : {c d : Contents} {P Q : ℕ → ℕ → ℕ} {k n count counts : ℕ} {of component : ℕ → ℕ} (steps : List Step) → c ≡ d → P ≡ Q → k ≡ n → count ≡ counts → of ≡ component →
    run_acts c P (sealing (drawn k steps) count of) ≡ run_acts d Q (sealing (drawn n steps) counts component)
run_is steps c P k count of = λ i. run_acts (c i) (P i) (sealing (drawn (k i) steps) (count i) (of i))

-- What is listed for a network of n formats with these steps: the components, and the order.
module _ (n : ℕ) (steps : List Step) (count : ℕ) (of order : List ℕ)
    (counts : count ≡ component_count (drawn n steps))
    (at : (v : ℕ) → v < n → get_or of v 0 ≡ component_of (drawn n steps) v) (past : (v : ℕ) → n ≤ v → get_or of v 0 ≡ 0)
    (listing : Listing (drawn n steps) count (λ v. get_or of v 0))
    (listed : order ≡ padded (in_order n count (λ v. get_or of v 0))) where
  -- the acts that the code runs from an empty table are those of the definition
  pub ran_is : {c d : Contents} {P : ℕ → ℕ → ℕ} {ran : Ran (ℕ → ℕ → ℕ)} → c ≡ d → P ≡ (λ _ _. 0) →
      ran ≡ run_acts c P (sealing (drawn (length (take n order)) steps) count (λ v. get_or of v 0)) →
      ran ≡ run_acts d (λ _ _. 0) (sealing (drawn n steps) (component_count (drawn n steps)) (components (drawn n steps)))
  ran_is begun empty run =
      run
      ∙ run_is steps begun empty (ap (λ o. length (take n o)) listed ∙ order-length n count _ listing.counted) counts
      (components_are (drawn n steps) of at past)

  -- the plan that is made is the one for the network
  pub plan_is : (records : ℕ) (table : ℕ → ℕ → ℕ) →
      ◌≡◌ {A = Planned}
      (record { formats = n; components = count; records = records; order = λ k. get_or order k 0; component = λ v. get_or of v 0; table = table })
      (plan_for (drawn n steps) records table)
  plan_is records table =
      let component = components_are (drawn n steps) of at past in
      let place : (k : ℕ) → get_or order k 0 ≡ get_or (in_order n (component_count (drawn n steps)) (components (drawn n steps))) k 0 =
      λ k. padded-at order (in_order n count (λ v. get_or of v 0)) listed k ∙ (λ i. get_or (in_order n (counts i) (component i)) k 0) in
      λ i. record { formats = n; components = counts i; records = records; order = λ k. place k i; component = component i; table = table }

  -- and it is right
  pub plan-right : (records : ℕ) (table : ℕ → ℕ → ℕ) →
      PlannedFor (drawn n steps) (record { formats = n; components = count; records = records; order = λ k. get_or order k 0; component = λ v. get_or of v 0; table = table })
  plan-right records table = record {
    listing = listing;
    turns = in_turn _ listing.counted (λ k _. padded-at order (in_order n count (λ v. get_or of v 0)) listed k);
  }
