-- Making an expression means the operation that it is named after, wherever the simplifying rules are right. Assumes nothing.
use Rattle.std.proofs.Common.{◌≡◌, ℕ, ◌<◌, true, ltb, [], get_or, IfSome, Some, None, Option, ap, ◌∙◌, arith}
use Rattle.std.proofs.lemmas.List.{length-take, get_or-take, get_or_push, take_more_set}
use Rattle.std.proofs.lemmas.List.Sums.{fold_push}
use Rattle.std.proofs.lemmas.Bool.{ltb-true, cond_both}
use Rattle.std.proofs.lemmas.Bool.Decides.{nat_tests}
use Rattle.kleene.specs.Algebras.{Operations}
use Rattle.refusals.specs.Refused.{Outcome, done}
use Rattle.expressions.specs.Layout.{blank, well_formed}
use Rattle.expressions.specs.Contents.{Contents, Sound, used, limit}
use Rattle.expressions.specs.Making.{find, appended, made, sum_rule, then_rule, repeat_rule, ruled, sum_made, then_made, repeat_made}
use Rattle.expressions.specs.Meanings.{value_of, values, meaning_of}
use Rattle.expressions.specs.Laws.{Got, MakingMeans}
use Rattle.expressions.proofs.Eaches.{each_at}
use Rattle.expressions.proofs.Walks.{found_is}
use Rattle.expressions.proofs.Growth.{length-values, value_is, meaning_stays}

-- zero and one are at a value what they are called
pub record Neutral {S : Type 0} (o : Operations S) (a : S) : Type 0 where
  pub zero-sum : o.sum o.zero a ≡ a
  pub sum-zero : o.sum a o.zero ≡ a
  pub zero-product : o.product o.zero a ≡ o.zero
  pub product-zero : o.product a o.zero ≡ o.zero
  pub one_product : o.product o.one a ≡ a
  pub product-one : o.product a o.one ≡ a

-- what the simplifying rules rest on
pub record Simplifies {S : Type 0} (o : Operations S) (step : ℕ → S) (Fit : Contents → Type 0) (Twice : Contents → ℕ → Type 0) : Type 0 where
  pub neutral : (c : Contents) → Fit c → (x : ℕ) → Neutral o (meaning_of o step c x)
  pub twice : (c : Contents) → Fit c → (x : ℕ) → Twice c x → o.sum (meaning_of o step c x) (meaning_of o step c x) ≡ meaning_of o step c x
  pub star-zero : o.star o.zero ≡ o.one
  pub star-one : o.star o.one ≡ o.one

-- a record in use is well formed
formed-at : (c : Contents) → Sound c → (i : ℕ) → i < c.count → well_formed i (get_or (used c) i blank) ≡ true
formed-at c sound i h = each_at well_formed (used c) i blank (simp length-take (omega arith)) sound.formed

module _ {S : Type 0} (o : Operations S) (step : ℕ → S) where
  -- what an expression in use means, from what all mean
  meaning_is : (c : Contents) → Sound c → (x : ℕ) → x < c.count → meaning_of o step c x ≡ value_of o step (values o step (used c)) (get_or (used c) x blank)
  meaning_is c sound x h = value_is o step (used c) x (simp length-take (omega arith)) (formed-at c sound x h)

  -- record 0 is nothing
  nothing_means : (c : Contents) → Sound c → meaning_of o step c 0 ≡ o.zero
  nothing_means c sound = let formed = formed-at c sound 0 (omega arith) in meaning_is c sound 0 (omega arith) ∙ grind (arith, nat_tests)

  -- record 1 is stay
  stay_means : (c : Contents) → Sound c → meaning_of o step c 1 ≡ o.one
  stay_means c sound = let formed = formed-at c sound 1 (omega arith) in meaning_is c sound 1 (omega arith) ∙ grind (arith, nat_tests)

  -- what is made, if anything, has this meaning
  abbrev Makes : S → Outcome ℕ × Contents → Type 0
  Makes value p = (d : Contents) (z : ℕ) → Got p z d → meaning_of o step d z ≡ value

  -- an expression that is handed out means what it means
  handed_out : (c : Contents) (x : ℕ) (value : S) → meaning_of o step c x ≡ value → Makes value (done x, c)
  handed_out c x value means d z got =
      let number = ap (λ p. p.0) got in
      let after = ap (λ p. p.1) got in
      cc

  -- the value of a record of this kind and these parts, from what all mean
  abbrev said : Contents → ℕ → ℕ → ℕ → S
  said c kind left right = value_of o step (values o step (used c)) (record { kind = kind; left = left; right = right; next = 0 })

  -- a new record has that value
  new_means : (c : Contents) (kind left right : ℕ) → c.count < limit c → meaning_of o step (appended c kind left right) c.count ≡ said c kind left right
  new_means c kind left right room =
      ap (λ rs. get_or (values o step rs) c.count o.zero) (take_more_set c.records c.count _ (omega arith)) ∙
      ap (λ vs. get_or vs c.count o.zero) (fold_push _ [] (used c) _) ∙
      get_or_push (values o step (used c)) _ o.zero c.count (simp (length-values, length-take) (omega arith))

  -- and so has one that is found
  found_means : (c : Contents) (kind left right : ℕ) → Sound c → 0 < find c kind left right → meaning_of o step c (find c kind left right) ≡ said c kind left right
  found_means c kind left right sound some =
      let is = found_is sound kind left right some in
      let same = get_or-take c.count c.records (find c kind left right) blank is.in_use in
      meaning_is c sound (find c kind left right) is.in_use ∙ cc

  -- so whatever record is made has it
  made_means : (c : Contents) (kind left right : ℕ) → Sound c → Makes (said c kind left right) (made c kind left right)
  made_means c kind left right sound =
      let Right = Makes (said c kind left right) in
      cond_both (ltb 0 (find c kind left right)) _ _ Right (λ some. handed_out c _ _ (found_means c kind left right sound (ltb-true _ _ some)))
      (λ _. cond_both (ltb c.count (limit c)) _ _ Right
      (λ room. handed_out (appended c kind left right) _ _ (new_means c kind left right (ltb-true _ _ room)))
      (λ _ d z got. let full = ap (λ p. p.0) got in let never : ◌≡◌ {A = ℕ} 0 1 = cc in absurd (omega arith)))

  module _ (Fit : Contents → Type 0) (Twice : Contents → ℕ → Type 0) (rules : Simplifies o step Fit Twice) where
    -- a rule that says the right thing, and the record where none fits
    ruled_means : (c : Contents) (rule : Option ℕ) (kind left right : ℕ) → Sound c →
        IfSome rule (λ z. meaning_of o step c z ≡ said c kind left right) → Makes (said c kind left right) (ruled c rule kind left right)
    ruled_means c None kind left right sound h = made_means c kind left right sound
    ruled_means c (Some z) kind left right sound h = handed_out c z _ h

    sums_mean : (c : Contents) (x y : ℕ) → Sound c → Fit c → (x ≡ y → Twice c x) →
        Makes (o.sum (meaning_of o step c x) (meaning_of o step c y)) (sum_made c x y)
    sums_mean c x y sound fit again =
        let nothing = nothing_means c sound in
        let left = rules.neutral c fit x in
        let right = rules.neutral c fit y in
        let same : x ≡ y → o.sum (meaning_of o step c x) (meaning_of o step c x) ≡ meaning_of o step c x = λ e. rules.twice c fit x (again e) in
        ruled_means c (sum_rule x y) 3 x y sound (grind (arith, nat_tests))

    thens_mean : (c : Contents) (x y : ℕ) → Sound c → Fit c → Makes (o.product (meaning_of o step c x) (meaning_of o step c y)) (then_made c x y)
    thens_mean c x y sound fit =
        let nothing = nothing_means c sound in
        let stay = stay_means c sound in
        let left = rules.neutral c fit x in
        let right = rules.neutral c fit y in
        ruled_means c (then_rule x y) 4 x y sound (grind (arith, nat_tests))

    repeats_mean : (c : Contents) (x : ℕ) → Sound c → Makes (o.star (meaning_of o step c x)) (repeat_made c x)
    repeats_mean c x sound =
        let nothing = nothing_means c sound in
        let stay = stay_means c sound in
        ruled_means c (repeat_rule x) 5 x 0 sound (grind (arith, nat_tests, rules.star-zero, rules.star-one))

    -- together
    pub making_means : MakingMeans o step Fit Twice
    making_means = record {
      stays = meaning_stays o step;
      nothing = nothing_means;
      stay = stay_means;
      steps = λ c d j z sound. made_means c 2 j 0 sound d z;
      sums = λ c d x y z sound fit _ _ again. sums_mean c x y sound fit again d z;
      thens = λ c d x y z sound fit _ _. thens_mean c x y sound fit d z;
      repeats = λ c d x z sound _ _. repeats_mean c x sound d z;
    }
