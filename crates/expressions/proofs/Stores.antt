-- Stores stay sound: a cleared one, and one in which an expression is made. Assumes nothing.
use Rattle.std.proofs.Common.{◌≡◌, ℕ, zero, suc, ◌+◌, ◌<◌, ◌≤◌, Bool, true, ltb, ◌≢◌, List, [], ◌∷◌, length, get_or, take, drop, set, Some, sym, refl, ap, subst, ⊎_elim, arith}
use Rattle.std.proofs.lemmas.Bool.{and_parts, cond_both, or_right, lt-ltb, ltb-true, cases_eq}
use Rattle.std.proofs.lemmas.List.{length-set, length-take, length-append, length-replicate, get_or-take, get_or-set_same, get_or-set_other, take_more_set, take-set}
use Rattle.std.proofs.lemmas.Bool.Decides.{nat_tests}
use Rattle.refusals.specs.Refused.{Outcome, done, refused}
use Rattle.expressions.specs.declared.Record.{Record}
use Rattle.expressions.specs.declared.store.Store.{Store}
use Rattle.expressions.specs.Layout.{blank, well_formed, linked, each, heads_sound}
use Rattle.expressions.specs.Contents.{Contents, Sound, Grown, used, limit, chain_of, cleared}
use Rattle.expressions.specs.Stores.{contents}
use Rattle.expressions.specs.Making.{find, Fits, appended, made, Is}
use Rattle.expressions.proofs.Eaches.{at_each, each_push}
use Rattle.expressions.proofs.Walks.{used-length, head_below, found_is}

-- nothing and stay are written over the first two records
pub begun : {X : Type 0} (xs : List X) (a b : X) → 2 ≤ length xs → set (set xs 0 a) 1 b ≡ a ∷ b ∷ drop 2 xs
begun [] a b h = absurd (omega arith)
begun (x ∷ []) a b h = absurd (omega arith)
begun (x ∷ y ∷ xs) a b h = refl

-- every head is below the count, where each of the first 1,024 is
heads_from : (heads : List ℕ) (count : ℕ) → ((k : ℕ) → k < 1024 → get_or heads k 0 < count) → heads_sound count (take 1024 heads) ≡ true
heads_from heads count below =
    at_each (λ _ head. ltb head count) 0 (take 1024 heads) 0
    (λ k h. let small : k < 1024 = omega (arith, length-take 1024 heads) in rw get_or-take (lt-ltb _ _ (below k small)))

pub cleared-sound : (c : Contents) → 2 ≤ length c.records → 1024 ≤ length c.heads → Sound (cleared c)
cleared-sound c r h =
    record { begun = omega arith; room = omega arith; chains = simp (length-append, length-replicate) (omega arith); formed = refl; linked = refl; headed = refl }

-- what is known of every store
pub sound : (s : Store) → Sound (contents s)
sound s = record { begun = s.begun; room = s.room; chains = s.chains; formed = s.formed; linked = s.chained; headed = s.headed }

-- each of two records passes at its place
both_pass : {X : Type 0} (test : ℕ → X → Bool) (n : ℕ) (x y : X) (xs : List X) → 2 ≤ n → each test 0 (take n (x ∷ y ∷ xs)) ≡ true → (test 0 x ≡ true) × (test 1 y ≡ true)
both_pass test zero x y xs h e = absurd (omega arith)
both_pass test (suc zero) x y xs h e = absurd (omega arith)
both_pass test (suc (suc n)) x y xs h e = let first = and_parts _ _ e in (first.0, (and_parts _ _ first.1).0)

first_of : (rs : List Record) (n : ℕ) → 2 ≤ n → n ≤ length rs → each well_formed 0 (take n rs) ≡ true → each linked 0 (take n rs) ≡ true →
    rs ≡ record { kind = 0; left = 0; right = 0; next = 0 } ∷ record { kind = 1; left = 0; right = 0; next = 0 } ∷ drop 2 rs
first_of [] n low high formed chained = absurd (omega arith)
first_of (x ∷ []) n low high formed chained = absurd (omega arith)
first_of (x ∷ y ∷ rs) n low high formed chained =
    let (fx, fy) = both_pass well_formed n x y rs low formed in
    let (lx, ly) = both_pass linked n x y rs low chained in
    let kx : x.kind ≡ 0 = grind (arith, nat_tests) in
    let ax : x.left ≡ 0 = grind (arith, nat_tests) in
    let bx : x.right ≡ 0 = grind (arith, nat_tests) in
    let nx : x.next ≡ 0 = grind (arith, nat_tests) in
    let ky : y.kind ≡ 1 = grind (arith, nat_tests) in
    let ay : y.left ≡ 0 = grind (arith, nat_tests) in
    let by : y.right ≡ 0 = grind (arith, nat_tests) in
    let ny : y.next ≡ 0 = grind (arith, nat_tests) in
    λ i. record { kind = kx i; left = ax i; right = bx i; next = nx i } ∷ record { kind = ky i; left = ay i; right = by i; next = ny i } ∷ rs

module _ {c : Contents} (sound : Sound c) where
  -- the first two records are nothing and stay
  pub first_two : c.records ≡ record { kind = 0; left = 0; right = 0; next = 0 } ∷ record { kind = 1; left = 0; right = 0; next = 0 } ∷ drop 2 c.records
  first_two = first_of c.records c.count sound.begun (omega arith) sound.formed sound.linked

  -- the head of a chain can be the next of a new record
  pub head-linked : (kind left right at : ℕ) → at < 1024 → linked c.count (record { kind = kind; left = left; right = right; next = get_or c.heads at 0 }) ≡ true
  head-linked kind left right at h = or_right _ _ (lt-ltb _ _ (head_below sound at h))

  -- with one record more, which is on no chain yet, it stays sound
  pub pushed-sound :
      (kind left right number next : ℕ) → Fits c kind left right → c.count < limit c → number ≡ kind →
      let new : Record = record { kind = number; left = left; right = right; next = next } in
      linked c.count new ≡ true → Sound (record { records = set c.records c.count new; heads = c.heads; count = c.count + 1 })
  pushed-sound kind left right number next fit room of chained =
      let new : Record = record { kind = number; left = left; right = right; next = next } in
      let formed : well_formed c.count new ≡ true = grind (arith, nat_tests) in
      let each-more : (test : ℕ → Record → Bool) → each test 0 (used c) ≡ true → test c.count new ≡ true → each test 0 (take (c.count + 1) (set c.records c.count new)) ≡ true =
      λ test all here. subst (λ rs. each test 0 rs ≡ true) (sym (take_more_set c.records c.count new (omega arith)))
      (each_push test (used c) new all (rw (used-length sound) here)) in
      record {
        begun = omega arith;
        room = simp length-set (omega arith);
        chains = sound.chains;
        formed = each-more well_formed sound.formed formed;
        linked = each-more linked sound.linked chained;
        headed = heads_from c.heads (c.count + 1) (λ k h. omega (arith, head_below sound k h));
      }

  -- with another record in use at the head of a chain, too
  pub headed-sound : (at head : ℕ) → head < c.count → Sound (record { records = c.records; heads = set c.heads at head; count = c.count })
  headed-sound at head h = record {
    begun = sound.begun;
    room = sound.room;
    chains = simp length-set (omega arith);
    formed = sound.formed;
    linked = sound.linked;
    headed = heads_from (set c.heads at head) c.count (λ k small.
        let below = head_below sound k small in
        ⊎_elim (λ (e : k ≡ at). subst (λ i. get_or (set c.heads i head) k 0 < c.count) e (let room : k < length c.heads = omega arith in rw get_or-set_same h))
        (λ (n : k ≢ at). rw get_or-set_other below)
        (cases_eq k at));
  }

-- what comes of making an expression: the store is sound, has only grown, and the answer is the expression
pub record Gives (c : Contents) (kind left right : ℕ) (o : Outcome ℕ × Contents) : Type 0 where
  pub sound : Sound o.1
  pub grown : Grown c o.1
  pub answer : (z : ℕ) → o.0 ≡ done z → Is o.1 kind left right z

module _ {c : Contents} (sound : Sound c) (kind left right : ℕ) where
  unchanged : Grown c c
  unchanged = record { counts = omega arith; records = refl; heads = refl; lower = refl }

  -- the record that comes next
  abbrev new : Record
  new = record { kind = kind; left = left; right = right; next = get_or c.heads (chain_of kind left right) 0 }

  appended-grown : Grown c (appended c kind left right)
  appended-grown = record { counts = omega arith; records = length-set _ _ _; heads = length-set _ _ _; lower = sym (take-set c.records c.count new) }

  module _ (room : c.count < limit c) where
    appended_is : Is (appended c kind left right) kind left right c.count
    appended_is =
        let e = get_or-set_same c.records c.count new blank (omega arith) in
        record { in_use = omega arith; of_kind = ap (λ r. r.kind) e; on-left = ap (λ r. r.left) e; on-right = ap (λ r. r.right) e }

    appended-sound : Fits c kind left right → Sound (appended c kind left right)
    appended-sound fit =
        let at = chain_of kind left right in
        headed-sound (pushed-sound sound kind left right kind _ fit room refl (head-linked sound kind left right at (omega arith))) at c.count (omega arith)

  made_gives : Fits c kind left right → Gives c kind left right (made c kind left right)
  made_gives fit =
      let there = find c kind left right in
      let Good : Outcome ℕ × Contents → Type 0 = Gives c kind left right in
      cond_both (ltb 0 there) (done there, c) _ Good
      (λ e. record {
        sound = sound;
        grown = unchanged;
        answer = λ z same. let is : there ≡ z = cc in subst (Is c kind left right) is (found_is sound kind left right (ltb-true 0 there e));
      })
      (λ _. cond_both (ltb c.count (limit c)) (done c.count, appended c kind left right) (refused 9 (Some (limit c)), c) Good
      (λ e. let room = ltb-true c.count (limit c) e in record {
        sound = appended-sound room fit;
        grown = appended-grown;
        answer = λ z same. let is : c.count ≡ z = cc in subst (Is (appended c kind left right) kind left right) is (appended_is room);
      })
      (λ _. record { sound = sound; grown = unchanged; answer = λ z same. let no : ◌≡◌ {A = ℕ} 0 1 = cc in absurd (omega arith) }))

  pub gives : Fits c kind left right → (o : Outcome ℕ × Contents) → o ≡ made c kind left right → Gives c kind left right o
  gives fit o e = subst (Gives c kind left right) (sym e) (made_gives fit)
