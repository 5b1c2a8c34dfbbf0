-- The marks keep the laws of a Kleene algebra: each mark by itself does, and a marking is what it does to each mark.
-- Assumes nothing.
use Rattle.std.specs.Prelude.{◌≡◌, ℕ, ◌-◌, ◌^◌, ◌<◌, Bool, true, false, not, ◌&&◌, ◌||◌, ◌==◌, bit_and, bit_or, nat_le, Option, Some, None, refl}
use Rattle.std.proofs.Common.{ap, sym, subst, ◌∙◌, arith}
use Rattle.std.proofs.lemmas.Nat.{or_lt, and_le_l}
use Rattle.std.proofs.lemmas.Bool.{and_parts, and_from, leb-true, le-leb, eqb-true, eq-eqb, not-true}
use Rattle.kleene.specs.Algebras.{Meaning, Kleene}
use Rattle.kleene.proofs.Parts.{parts_laws}
use Rattle.bits.specs.Bits.{has}
use Rattle.algebras.specs.Marks.{all, others, member_of, untouched, sum_of, product_of, star_of, marks_meaning}
use Rattle.algebras.specs.declared.marks.Marking.{Marking}
use Rattle.bits.specs.BitsLemmas.{has-or, has-and, has-zero, has-set_of, has_rest, set_of-below, same_bits}

-- what becomes of one mark: nothing comes through, or the mark is set, passed on, or neither
data Fate : Type 0 where
  lost : Fate
  fate : Bool → Bool → Fate

abbrev fate_member : Fate → Bool
fate_member lost = true
fate_member (fate s p) = not (s && p)

abbrev fate_sum : Fate → Fate → Fate
fate_sum lost b = b
fate_sum (fate s p) lost = fate s p
fate_sum (fate s p) (fate t q) = fate (s || t) ((p || q) && not (s || t))

abbrev fate_product : Fate → Fate → Fate
fate_product lost b = lost
fate_product (fate s p) lost = lost
fate_product (fate s p) (fate t q) = fate (t || (s && q)) (p && q)

abbrev fate_star : Fate → Fate
fate_star lost = fate false true
fate_star (fate s p) = fate s (not s)

abbrev fate_meaning : Meaning Fate
fate_meaning = record {
  member = fate_member;
  on = record { zero = lost; one = fate false true; sum = fate_sum; product = fate_product; star = fate_star };
}

fate_laws : Kleene fate_meaning
fate_laws = record {
  zero-member = refl;
  one-member = refl;
  sum-member = λ a b ha hb. grind arith;
  product-member = λ a b ha hb. grind arith;
  star-member = λ a ha. grind arith;
  sum_assoc = λ a b c ha hb hc. grind arith;
  sum_comm = λ a b ha hb. grind arith;
  sum_same = λ a ha. grind arith;
  zero-sum = λ a ha. refl;
  product_assoc = λ a b c ha hb hc. grind arith;
  one_product = λ a ha. grind arith;
  product-one = λ a ha. grind arith;
  zero-product = λ a ha. refl;
  product-zero = λ a ha. grind arith;
  product-sum = λ a b c ha hb hc. grind arith;
  sum-product = λ a b c ha hb hc. grind arith;
  star_first = λ a ha. grind arith;
  star_last = λ a ha. grind arith;
  least_first = λ a b x ha hb hx h. grind arith;
  least_last = λ a b x ha hb hx h. grind arith;
}

abbrev Mark : Type 0
Mark = (i : ℕ) × (i < 64)

-- what a marking makes of mark i
abbrev at : Mark → Option Marking → Fate
at i None = lost
at i (Some m) = fate (has m.sets i.0) (has m.passes i.0)

fate-same : {s t p q : Bool} → s ≡ t → p ≡ q → fate s p ≡ fate t q
fate-same e f = λ i. fate (e i) (f i)

has-others : (i : Mark) (x : ℕ) → has (others x) i.0 ≡ not (has x i.0)
unfolding others
has-others i x = has-set_of 64 (λ j. not (has x j)) i.0 i.1

sum-at : (i : Mark) (a b : Option Marking) → at i (sum_of a b) ≡ fate_sum (at i a) (at i b)
sum-at i None b = refl
sum-at i (Some m) None = refl
sum-at i (Some m) (Some n) =
    let sets = has-or m.sets n.sets i.0 in
    fate-same sets (has-and _ _ _ ∙ λ j. has-or m.passes n.passes i.0 j && (has-others i (bit_or m.sets n.sets) ∙ ap not sets) j)

product_at : (i : Mark) (a b : Option Marking) → at i (product_of a b) ≡ fate_product (at i a) (at i b)
product_at i None b = refl
product_at i (Some m) None = refl
product_at i (Some m) (Some n) =
    fate-same (has-or n.sets _ _ ∙ ap (λ x. has n.sets i.0 || x) (has-and m.sets n.passes _)) (has-and m.passes n.passes _)

one_at : (i : Mark) → at i (Some untouched) ≡ fate false true
one_at i = fate-same (has-zero _) (has_rest 64 0 i.0 (omega arith) i.1 ∙ ap not (has-zero _))

star-at : (i : Mark) (a : Option Marking) → at i (star_of a) ≡ fate_star (at i a)
star-at i None = one_at i
star-at i (Some m) = fate-same refl (has-others i m.sets)

-- a pair of 64-bit sets is a member just where it makes a member of each mark
record Whole (m : Marking) : Type 0 where
  sets : m.sets < 2 ^ 64
  passes : m.passes < 2 ^ 64
  apart : bit_and m.sets m.passes ≡ 0

whole : (m : Marking) → member_of (Some m) ≡ true → Whole m
whole m h =
    let (l, r) = and_parts (nat_le m.sets all) (nat_le m.passes all && bit_and m.sets m.passes == 0) h in
    let (u, v) = and_parts (nat_le m.passes all) (bit_and m.sets m.passes == 0) r in
    record { sets = omega (arith, leb-true m.sets all l); passes = omega (arith, leb-true m.passes all u); apart = eqb-true _ 0 v }

at-member : (i : Mark) (a : Option Marking) → member_of a ≡ true → fate_member (at i a) ≡ true
at-member i None h = refl
at-member i (Some m) h = ap not (sym (has-and m.sets m.passes i.0) ∙ ap (λ x. has x i.0) (whole m h).apart ∙ has-zero i.0)

pair-member : (m : Marking) → m.sets < 2 ^ 64 → m.passes < 2 ^ 64 → ((i : Mark) → fate_member (at i (Some m)) ≡ true) → member_of (Some m) ≡ true
pair-member m hs hp each =
    and_from _ _ (le-leb m.sets all (omega arith)) (and_from _ _ (le-leb m.passes all (omega arith)) (eq-eqb _ 0 (
    same_bits 64 (bit_and m.sets m.passes) 0 (omega (arith, and_le_l m.sets m.passes)) (omega arith) (λ i h. has-and m.sets m.passes i ∙ not-true _ (each (i, h)) ∙ sym (has-zero i)))))

told : (a b : Option Marking) → member_of a ≡ true → member_of b ≡ true → ((i : Mark) → at i a ≡ at i b) → a ≡ b
told None None ha hb each = refl
told None (Some n) ha hb each = let e = each (0, omega arith) in cc
told (Some m) None ha hb each = let e = each (0, omega arith) in cc
told (Some m) (Some n) ha hb each =
    let a = whole m ha in
    let b = whole n hb in
    let sets = same_bits 64 m.sets n.sets a.sets b.sets (λ i h. let e = each (i, h) in cc) in
    let passes = same_bits 64 m.passes n.passes a.passes b.passes (λ i h. let e = each (i, h) in cc) in
    λ j. Some (record { sets = sets j; passes = passes j })

sum-member : (a b : Option Marking) → member_of a ≡ true → member_of b ≡ true → member_of (sum_of a b) ≡ true
sum-member None b ha hb = hb
sum-member (Some m) None ha hb = ha
sum-member (Some m) (Some n) ha hb =
    let a = whole m ha in
    let b = whole n hb in
    let sets = bit_or m.sets n.sets in
    pair-member (record { sets = sets; passes = bit_and (bit_or m.passes n.passes) (others sets) })
    (or_lt 64 m.sets n.sets a.sets b.sets) (omega (arith, and_le_l (bit_or m.passes n.passes) (others sets), or_lt 64 m.passes n.passes a.passes b.passes))
    (λ i. subst (λ f. fate_member f ≡ true) (sym (sum-at i (Some m) (Some n))) (fate_laws.sum-member (at i (Some m)) (at i (Some n)) (at-member i (Some m) ha) (at-member i (Some n) hb)))

product-member : (a b : Option Marking) → member_of a ≡ true → member_of b ≡ true → member_of (product_of a b) ≡ true
product-member None b ha hb = refl
product-member (Some m) None ha hb = refl
product-member (Some m) (Some n) ha hb =
    let a = whole m ha in
    let b = whole n hb in
    pair-member (record { sets = bit_or n.sets (bit_and m.sets n.passes); passes = bit_and m.passes n.passes })
    (or_lt 64 n.sets (bit_and m.sets n.passes) b.sets (omega (arith, and_le_l m.sets n.passes, a.sets))) (omega (arith, and_le_l m.passes n.passes, a.passes))
    (λ i. subst (λ f. fate_member f ≡ true) (sym (product_at i (Some m) (Some n))) (fate_laws.product-member (at i (Some m)) (at i (Some n)) (at-member i (Some m) ha) (at-member i (Some n) hb)))

others_below : (x : ℕ) → others x < 2 ^ 64
unfolding others
others_below x = set_of-below 64 (λ i. not (has x i))

-- what all 64 bits leave of x is every mark that is not in x
pub rest_is : (x : ℕ) → x < 2 ^ 64 → all - x ≡ others x
rest_is x h = same_bits 64 (all - x) (others x) (omega arith) (others_below x) (λ i below. has_rest 64 x i h below ∙ sym (has-others (i, below) x))

star-member : (a : Option Marking) → member_of a ≡ true → member_of (star_of a) ≡ true
star-member None h = refl
star-member (Some m) h =
    pair-member (record { sets = m.sets; passes = others m.sets }) (whole m h).sets (others_below m.sets)
    (λ i. subst (λ f. fate_member f ≡ true) (sym (star-at i (Some m))) (fate_laws.star-member (at i (Some m)) (at-member i (Some m) h)))

pub marks_laws : Kleene marks_meaning
marks_laws = parts_laws {k = λ _. fate_meaning} {part = at} (record {
  zero_part = λ i. refl;
  one_part = one_at;
  sum_part = sum-at;
  product_part = product_at;
  star_part = star-at;
  member_part = at-member;
  told = told;
  zero-member = refl;
  one-member = refl;
  sum-member = sum-member;
  product-member = product-member;
  star-member = star-member;
}) (λ _. fate_laws)
