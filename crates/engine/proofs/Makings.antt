-- What comes of making an expression: the store stays sound, has only grown, and names no more than the step that is made.
-- Assumes nothing.
use Rattle.std.proofs.Common.{◌≡◌, ℕ, ◌<◌, ltb, get_or, IfSome, Some, None, Option, sym, refl, ap, subst, subst₂, ⊎_elim, arith}
use Rattle.std.proofs.lemmas.List.{get_or-set_same, get_or-set_other}
use Rattle.std.proofs.lemmas.Bool.{cond_both, ltb-true, cases_eq}
use Rattle.std.proofs.lemmas.Bool.Decides.{nat_tests}
use Rattle.refusals.specs.Refused.{Outcome, done}
use Rattle.expressions.specs.declared.Record.{Record}
use Rattle.expressions.specs.Layout.{blank}
use Rattle.expressions.specs.Contents.{Contents, Sound, Grown, limit}
use Rattle.expressions.specs.Making.{find, Fits, appended, made, sum_rule, then_rule, repeat_rule, ruled, step_made, sum_made, then_made, repeat_made}
use Rattle.expressions.specs.Laws.{Got}
use Rattle.expressions.proofs.Stores.{gives}

-- the steps that a store names have this fact
abbrev pub Named : (ℕ → Type 0) → Contents → Type 0
Named F c = (i : ℕ) → i < c.count → (get_or c.records i blank).kind ≡ 2 → F (get_or c.records i blank).left

-- a sound store that names steps of this fact alone
pub record Good (F : ℕ → Type 0) (c : Contents) : Type 0 where
  pub sound : Sound c
  pub named : Named F c

-- such a store, grown from another
pub record From (F : ℕ → Type 0) (c d : Contents) : Type 0 where
  pub good : Good F d
  pub grown : Grown c d

-- so it is after an expression is made, which is in use
pub record Makes (F : ℕ → Type 0) (c : Contents) (p : Outcome ℕ × Contents) : Type 0 where
  pub from : From F c p.1
  pub in_use : (z : ℕ) (d : Contents) → Got p z d → z < d.count

-- a store has grown from itself
pub unchanged : (c : Contents) → Grown c c
unchanged c = record { counts = omega arith; records = refl; heads = refl; lower = refl }

module _ {F : ℕ → Type 0} {c : Contents} (good : Good F c) where
  open good use {sound, named}

  -- a new record names what the others name, and the step that it is made of
  appended_named : (kind left right : ℕ) → (kind ≡ 2 → F left) → c.count < limit c → Named F (appended c kind left right)
  appended_named kind left right of room i h =
      let Says : Record → Type 0 = λ r. r.kind ≡ 2 → F r.left in
      let grown = (appended c kind left right).records in
      let new = get_or-set_same c.records c.count _ blank (omega arith) in
      ⊎_elim (λ (e : i ≡ c.count). subst (λ k. Says (get_or grown k blank)) (sym e) (subst Says (sym new) of))
      (λ n. subst Says (sym (get_or-set_other c.records c.count i _ blank n)) (named i (omega arith)))
      (cases_eq i c.count)

  -- so does whatever record is made
  made_named : (kind left right : ℕ) → (kind ≡ 2 → F left) → Named F (made c kind left right).1
  made_named kind left right of =
      let Good : Outcome ℕ × Contents → Type 0 = λ p. Named F p.1 in
      cond_both (ltb 0 (find c kind left right)) _ _ Good (λ _. named)
      (λ _. cond_both (ltb c.count (limit c)) _ _ Good (λ room. appended_named kind left right of (ltb-true _ _ room)) (λ _. named))

  -- what comes of making a record
  made_makes : (kind left right : ℕ) → Fits c kind left right → (kind ≡ 2 → F left) → Makes F c (made c kind left right)
  made_makes kind left right fit of =
      let given = gives sound kind left right fit (made c kind left right) refl in
      record {
        from = record { good = record { sound = given.sound; named = made_named kind left right of }; grown = given.grown };
        in_use = λ z d got. subst (λ e. z < e.count) (ap (λ p. p.1) got) (given.answer z (ap (λ p. p.0) got)).in_use;
      }

  -- the number that was given out
  number : {c d : Contents} {z y : ℕ} → Got (done z, c) y d → z ≡ y
  number got = let e = ap (λ p. p.0) got in cc

  -- what a rule says is in use, and where none fits the record is made
  ruled_makes : (rule : Option ℕ) (kind left right : ℕ) → Fits c kind left right → (kind ≡ 2 → F left) → IfSome rule (λ z. z < c.count) →
      Makes F c (ruled c rule kind left right)
  ruled_makes None kind left right fit of h = made_makes kind left right fit of
  ruled_makes (Some z) kind left right fit of h = record {
    from = record { good = good; grown = unchanged c };
    in_use = λ y d got. subst₂ (λ x e. x < e.count) (number got) (ap (λ p. p.1) got) h;
  }

  -- what comes of making a step, a sum, a then and a repeat
  pub step_makes : (j : ℕ) → F j → Makes F c (step_made c j)
  step_makes j fact = made_makes 2 j 0 refl (λ _. fact)

  pub sum_makes : (x y : ℕ) → x < c.count → y < c.count → Makes F c (sum_made c x y)
  sum_makes x y h k = ruled_makes (sum_rule x y) 3 x y (h, k) (λ e. absurd (omega arith)) (grind (arith, nat_tests))

  pub then_makes : (x y : ℕ) → x < c.count → y < c.count → Makes F c (then_made c x y)
  then_makes x y h k = ruled_makes (then_rule x y) 4 x y (h, k) (λ e. absurd (omega arith)) (grind (arith, nat_tests))

  pub repeat_makes : (x : ℕ) → x < c.count → Makes F c (repeat_made c x)
  repeat_makes x h = ruled_makes (repeat_rule x) 5 x 0 (refl, h, refl) (λ e. absurd (omega arith)) (grind (arith, nat_tests))
