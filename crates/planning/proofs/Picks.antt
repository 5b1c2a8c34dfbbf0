-- What the relations tell of the network, and what is right after each component that the program lists. Assumes nothing.
use Rattle.std.proofs.Common.{◌≡◌, ℕ, zero, suc, ◌+◌, ◌<◌, ◌≤◌, true, false, cond, not, ◌&&◌, ◌||◌, ltb, List, get_or, replicate, sym, refl, ◌∙◌, subst, ⊎_elim, add-one, arith}
use lib.Bits.{bit_and, bit_or}
use Rattle.std.proofs.lemmas.Bool.{cases_Bool, cases_lt, false≢true, lt-ltb, le-ltb}
use Rattle.elimination.specs.Networks.{Network, Joined}
use Rattle.planning.specs.Bits.{has, goes, unentered}
use Rattle.planning.specs.Components.{Listing, lowest, every, direct, through, leads, shares, ready, listed, component_of, component_count}
use Rattle.bits.specs.BitsLemmas.{has-or, has-and, has-zero}
use Rattle.planning.proofs.Lowest.{lowest-within, lowest-same, every-same}
use Rattle.planning.proofs.Relations.{through_same}
use Rattle.planning.proofs.Listings.{listing, listing-same, next, next_new, more_left, none_left, count_is, newly_listed, listed-before}

-- the sets of the formats to which each leads, and of those that lead to it
pub record Known (N : Network) (reach into : List ℕ) : Type 0 where
  pub reaches : (u v : ℕ) → u < N.formats → goes reach u v ≡ leads N u v
  pub enters : (v u : ℕ) → v < N.formats → goes into v u ≡ (ltb u N.formats && leads N u v)

zeros : (k u : ℕ) → ◌≡◌ {A = ℕ} (get_or (replicate k 0) u 0) 0
zeros zero u = refl
zeros (suc k) zero = refl
zeros (suc k) (suc u) = zeros k u

-- after c components: their formats are listed and numbered
pub record Sofar (N : Network) (c done : ℕ) (of : List ℕ) : Type 0 where
  pub few : c ≤ component_count N
  pub marked : (u : ℕ) → u < N.formats → has done u ≡ listed N c u
  pub numbered : (u : ℕ) → u < N.formats → listed N c u ≡ true → get_or of u 0 ≡ component_of N u
  pub past : (u : ℕ) → N.formats ≤ u → get_or of u 0 ≡ 0

pub sofar_none : (N : Network) (k : ℕ) → Sofar N 0 0 (replicate k 0)
sofar_none N k = record {
  few = omega arith;
  marked = λ u _. has-zero u;
  numbered = λ u _ e. absurd (false≢true e);
  past = λ u _. zeros k u;
}

pub known_by :
    (N : Network) (start reach into : List ℕ) → ((u v : ℕ) → u < N.formats → goes start u v ≡ direct N u v) →
    ((u v : ℕ) → goes reach u v ≡ through (goes start) N.formats u v) → ((v u : ℕ) → goes into v u ≡ goes reach u v) →
    ((u v : ℕ) → goes reach u v ≡ true → u < N.formats) → Known N reach into
known_by N start reach into begins closes turns inside =
    let n = N.formats in
    let reaches : (u v : ℕ) → u < n → goes reach u v ≡ leads N u v = λ u v hu. closes u v ∙ through_same n (goes start) (direct N) begins n (omega arith) u v hu in
    record {
      reaches = reaches;
      enters = λ v u hv.
          let turn = turns v u in
          ⊎_elim
          (λ low. let to = reaches u v low in let here = lt-ltb u n low in grind arith)
          (λ high. let out = le-ltb u n high in ⊎_elim (λ yes. let low = inside u v yes in absurd (omega arith)) (λ no. grind arith) (cases_Bool (goes reach u v)))
          (cases_lt u n);
    }

module _ (N : Network) (reach into : List ℕ) (known : Known N reach into) (c done : ℕ) (of : List ℕ) (sofar : Sofar N c done of) where
  unentered_is : (v : ℕ) → v < N.formats → unentered N.formats reach into done v ≡ ready N (listed N c) v
  unentered_is v hv =
      let out = sofar.marked v hv in
      let each = every-same N.formats (λ u. not (goes into v u) || has (bit_or (get_or reach v 0) done) u) (λ u. not (leads N u v) || (leads N v u || listed N c u))
      (λ u hu.
      let or = has-or (get_or reach v 0) done u in
      let there = known.reaches v u hv in
      let back = known.enters v u hv in
      let old = sofar.marked u hu in
      let low = lt-ltb u N.formats hu in
      grind arith) in
      cc

  pub next-same : lowest N.formats (unentered N.formats reach into done) ≡ next N c
  next-same = lowest-same N.formats (unentered N.formats reach into done) (ready N (listed N c)) unentered_is

  -- no component more
  module _ (ends : Joined N) (none : lowest N.formats (unentered N.formats reach into done) ≡ N.formats) where
    pub count-all : c ≡ component_count N
    count-all = count_is N ends c sofar.few (sym next-same ∙ none)

    pub numbers_all : (u : ℕ) → u < N.formats → get_or of u 0 ≡ component_of N u
    numbers_all u hu = sofar.numbered u hu (none_left N ends c (sym next-same ∙ none) u hu)

    pub listing-all : Listing N c (λ v. get_or of v 0)
    listing-all =
        let all = subst (λ k. Listing N k (component_of N)) (sym count-all) (listing N ends) in
        listing-same N ends c (component_of N) (λ v. get_or of v 0) numbers_all all

  -- one component more, that of w: its set, and its number written at each of its formats
  module _ (ends : Joined N) (w : ℕ) (within : w < N.formats) (is : w ≡ lowest N.formats (unentered N.formats reach into done)) where
    first : w ≡ next N c
    first = is ∙ next-same

    has-component : (u : ℕ) → u < N.formats → has (bit_and (get_or reach w 0) (get_or into w 0)) u ≡ shares N (next N c) u
    has-component u hu =
        let and = has-and (get_or reach w 0) (get_or into w 0) u in
        let there = known.reaches w u within in
        let back = known.enters w u within in
        let low = lt-ltb u N.formats hu in
        subst (λ x. has (bit_and (get_or reach w 0) (get_or into w 0)) u ≡ shares N x u) first (cc)

    new : listed N c (next N c) ≡ false
    new = next_new N ends c (subst (λ x. x < N.formats) first within)

    new_number : (u : ℕ) → u < N.formats → shares N (next N c) u ≡ true → component_of N u ≡ c
    new_number u hu in-it =
        let early = listed-before N ends c (next N c) u (subst (λ x. x < N.formats) first within) hu in
        let out = new in
        newly_listed N ends c u hu (⊎_elim (λ old. grind arith) (λ e. e) (cases_Bool (listed N c u))) (grind arith)

    more : c < component_count N
    more = more_left N ends c (next N c) (subst (λ x. x < N.formats) first within) new

    pub more_formats : c < N.formats
    more_formats = let under = lowest-within N.formats (λ c. every N.formats (listed N c)) in let left = more in omega arith

    pub picked :
        (after : List ℕ) →
        ((u : ℕ) → get_or after u 0 ≡ cond (has (bit_and (get_or reach w 0) (get_or into w 0)) u) c (get_or of u 0)) →
        Sofar N (c + 1) (bit_or done (bit_and (get_or reach w 0) (get_or into w 0))) after
    picked after wrote = subst (λ k. Sofar N k (bit_or done (bit_and (get_or reach w 0) (get_or into w 0))) after) (sym (add-one c)) (record {
      few = more;
      marked = λ u hu.
          let or = has-or done (bit_and (get_or reach w 0) (get_or into w 0)) u in
          let old = sofar.marked u hu in
          let in-it = has-component u hu in
          cc;
      numbered = λ u hu e.
          let in-it = has-component u hu in
          let here = wrote u in
          ⊎_elim
          (λ yes. let number = new_number u hu yes in grind arith)
          (λ no. let old = sofar.numbered u hu (grind arith) in grind arith)
          (cases_Bool (shares N (next N c) u));
      past = λ u h.
          let here = wrote u in
          let and = has-and (get_or reach w 0) (get_or into w 0) u in
          let back = known.enters w u within in
          let high = le-ltb u N.formats h in
          let old = sofar.past u h in
          grind arith;
    })
