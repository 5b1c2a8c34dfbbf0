-- Walks along the chains of a store: how long a walk may be, and what it finds. Assumes nothing.
use Rattle.std.proofs.Common.{◌≡◌, ℕ, zero, suc, ◌-◌, ◌<◌, ◌≤◌, true, false, cond, eqb, ltb, length, get_or, take, sym, refl, ap, ◌∙◌, subst, arith}
use Rattle.std.proofs.lemmas.Bool.{cond_both, ltb-true}
use Rattle.std.proofs.lemmas.List.{length-take, get_or-take}
use Rattle.std.proofs.lemmas.Bool.Decides.{nat_tests}
use Rattle.expressions.specs.Layout.{blank, linked}
use Rattle.expressions.specs.Contents.{Contents, Sound, used, chain_of}
use Rattle.expressions.specs.Making.{walk, find, alike, Is}
use Rattle.expressions.proofs.Eaches.{each_at}

-- a walk that goes on at record i finds the record of this kind, left and right
pub record Towards (c : Contents) (kind left right i : ℕ) : Type 0 where
  pub below : i < c.count
  pub same : walk i c.records kind left right i ≡ find c kind left right

module _ {c : Contents} (sound : Sound c) where
  pub used-length : length (used c) ≡ c.count
  used-length = length-take c.count c.records ∙ omega arith

  -- the next of a record is lower, or 0
  pub next-below : (i : ℕ) → i < c.count → (get_or c.records i blank).next ≤ i - 1
  next-below i h =
      let passes : linked i (get_or c.records i blank) ≡ true =
      subst (λ r. linked i r ≡ true) (get_or-take c.count c.records i blank h)
      (each_at linked (used c) i blank (omega (arith, used-length)) sound.linked) in
      grind (arith, nat_tests)

  pub head_below : (k : ℕ) → k < 1024 → get_or c.heads k 0 < c.count
  head_below k h =
      let test = λ (_ : ℕ) (head : ℕ). ltb head c.count in
      ltb-true _ _
      (subst (λ head. ltb head c.count ≡ true) (get_or-take 1024 c.heads k 0 h)
      (each_at test (take 1024 c.heads) k 0 (omega (arith, length-take 1024 c.heads)) sound.headed))

  module _ (kind left right : ℕ) where
    -- any two bounds that are large enough give the same
    walk_same : (a b i : ℕ) → i < c.count → i ≤ a → i ≤ b → walk a c.records kind left right i ≡ walk b c.records kind left right i
    walk_same zero zero i h p q = refl
    walk_same zero (suc b) i h p q = grind (arith, nat_tests)
    walk_same (suc a) zero i h p q = grind (arith, nat_tests)
    walk_same (suc a) (suc b) i h p q =
        let r = get_or c.records i blank in
        let less = next-below i h in
        ap (λ rest. cond (eqb i 0) 0 (cond (alike kind left right r) i rest)) (walk_same a b r.next (omega arith) (omega arith) (omega arith))

    -- a record that is alike ends the walk
    walk_here : (i : ℕ) → 0 < i → alike kind left right (get_or c.records i blank) ≡ true → walk i c.records kind left right i ≡ i
    walk_here zero h e = absurd (omega arith)
    walk_here (suc i) h e = grind (arith, nat_tests)

    -- after another it goes on at the next
    walk-on :
        (i : ℕ) → 0 < i → i < c.count → alike kind left right (get_or c.records i blank) ≡ false →
        let next = (get_or c.records i blank).next in walk next c.records kind left right next ≡ walk i c.records kind left right i
    walk-on zero h l e = absurd (omega arith)
    walk-on (suc i) h l e =
        let next = (get_or c.records (suc i) blank).next in
        let less = next-below (suc i) l in
        walk_same next i next (omega arith) (omega arith) (omega arith) ∙ grind (arith, nat_tests)

    -- the record that is found is alike
    walk-found :
        (bound i : ℕ) → i < c.count →
        let z = walk bound c.records kind left right i in 0 < z → (z < c.count) × (alike kind left right (get_or c.records z blank) ≡ true)
    walk-found zero i l = λ h. absurd (omega arith)
    walk-found (suc bound) i l =
        let r = get_or c.records i blank in
        let Good : ℕ → Type 0 = λ z. 0 < z → (z < c.count) × (alike kind left right (get_or c.records z blank) ≡ true) in
        let less = next-below i l in
        cond_both (eqb i 0) 0 _ Good (λ _ h. absurd (omega arith))
        (λ _. cond_both (alike kind left right r) i _ Good (λ e _. (l, e)) (λ _. walk-found bound r.next (omega arith)))

    pub towards_start : Towards c kind left right (get_or c.heads (chain_of kind left right) 0)
    towards_start = record { below = head_below (chain_of kind left right) (omega arith); same = refl }

    pub towards-next :
        {i : ℕ} → Towards c kind left right i → 0 < i → alike kind left right (get_or c.records i blank) ≡ false →
        Towards c kind left right (get_or c.records i blank).next
    towards-next {i} t h e = let less = next-below i t.below in record { below = omega arith; same = walk-on i h t.below e ∙ t.same }

    pub towards_here : {i : ℕ} → Towards c kind left right i → 0 < i → alike kind left right (get_or c.records i blank) ≡ true → i ≡ find c kind left right
    towards_here {i} t h e = sym (walk_here i h e) ∙ t.same

    pub found_is : 0 < find c kind left right → Is c kind left right (find c kind left right)
    found_is h =
        let z = find c kind left right in
        let found = walk-found _ (get_or c.heads (chain_of kind left right) 0) (head_below (chain_of kind left right) (omega arith)) h in
        let same : alike kind left right (get_or c.records z blank) ≡ true = found.1 in
        record { in_use = found.0; of_kind = grind (arith, nat_tests); on-left = grind (arith, nat_tests); on-right = grind (arith, nat_tests) }
