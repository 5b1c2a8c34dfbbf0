-- The components that the computation numbers are those of the network, in their order. Assumes nothing.
use Rattle.std.proofs.Common.{◌≡◌, ℕ, zero, suc, ◌-◌, ◌<◌, ◌≤◌, Bool, true, false, not, ◌&&◌, ◌||◌, ltb, ◌⊎◌, List, [], ◌∷◌, sym, ap, ◌∙◌, subst, inl, inr, ⊎_elim, arith}
use Rattle.std.proofs.lemmas.Bool.{cases_Bool, cases_lt, cases_eq, lt-ltb, le-ltb, ltb-true, ltb-false}
use Rattle.std.proofs.lemmas.Bool.Decides.{nat_tests}
use Rattle.elimination.specs.Networks.{Network, arc, InForce, Joined, Route}
use Rattle.planning.specs.Components.{Listing, lowest, every, leads, shares, ready, listed, component_of, component_count}
use Rattle.planning.proofs.Leading.{leads_self, leads-step, leads-on, leads_route, route_leads}
use Rattle.planning.proofs.Lowest.{lowest-within, lowest-passes, lowest-first, lowest-under, decides_every, one_fails, tally, tally_all_lem, tally_more}

-- of the formats below k, each that leads to v is led to by v or listed
abbrev Last : Network → (ℕ → Bool) → ℕ → ℕ → Type 0
Last N done k v = (u : ℕ) → u < k → leads N u v ≡ true → (leads N v u || done u) ≡ true

-- what is listed next
abbrev pub next : Network → ℕ → ℕ
next N c = lowest N.formats (ready N (listed N c))

module _ (N : Network) (ends : Joined N) where
  -- Where some format is not listed, there is one to which no other such component leads: go through the formats, and
  -- change to the next where it leads to the one in hand and is not led to by it.
  some_last : (done : ℕ → Bool) (v : ℕ) → v < N.formats → done v ≡ false → (k : ℕ) → k ≤ N.formats →
      (w : ℕ) × (w < N.formats) × (done w ≡ false) × Last N done k w
  some_last done v h out zero small = (v, h, out, λ u low. absurd (omega arith))
  some_last done v h out (suc k) small =
      let (w, hw, outw, last) = some_last done v h out k (omega arith) in
      let keep : (leads N k w && not (leads N w k || done k)) ≡ false → Last N done (suc k) w = λ e u low to.
      ⊎_elim (λ same. let p = ap (λ x. leads N x w) same in let q = ap (leads N w) same in let r = ap done same in grind arith)
      (λ other. last u (omega arith) to) (cases_eq u k) in
      let change : (leads N k w && not (leads N w k || done k)) ≡ true → Last N done (suc k) k = λ e u low to.
      ⊎_elim (λ same. let p = ap (leads N k) same in let q = leads_self N ends k in grind arith)
      (λ other.
      let onward = leads-on N ends u k w (omega arith) to in
      let back = last u (omega arith) in
      let round = leads-on N ends k w u hw in
      grind arith) (cases_eq u k) in
      ⊎_elim (λ e. (k, omega arith, grind arith, change e)) (λ e. (w, hw, outw, keep e)) (cases_Bool (leads N k w && not (leads N w k || done k)))

  decides_ready : (done : ℕ → Bool) (v : ℕ) → done v ≡ false → Last N done N.formats v → ready N done v ≡ true
  decides_ready done v out last =
      let all = (decides_every N.formats (λ u. not (leads N u v) || (leads N v u || done u))).1 (λ u h. let l = last u h in grind arith) in grind arith

  ready_last : (done : ℕ → Bool) (v : ℕ) → ready N done v ≡ true → (done v ≡ false) × Last N done N.formats v
  ready_last done v e = (
    grind arith,
    λ u h to.
        let all = (decides_every N.formats (λ u. not (leads N u v) || (leads N v u || done u))).0 (grind arith) u h in grind arith,
  )

  -- while a format is not listed, the next component is
  next_is : (c v : ℕ) → v < N.formats → listed N c v ≡ false →
      (next N c < N.formats) × (listed N c (next N c) ≡ false) × Last N (listed N c) N.formats (next N c)
  next_is c v h out =
      let (w, hw, outw, last) = some_last (listed N c) v h out N.formats (omega arith) in
      let under = lowest-under N.formats (ready N (listed N c)) w (decides_ready (listed N c) w outw last) in
      let within : next N c < N.formats = omega arith in
      let (out, last) = ready_last (listed N c) (next N c) (lowest-passes N.formats (ready N (listed N c)) within) in
      (within, out, last)

  -- what leads to a listed format is listed
  pub listed-before : (c u v : ℕ) → u < N.formats → v < N.formats → leads N u v ≡ true → listed N c v ≡ true → listed N c u ≡ true
  listed-before zero u v hu hv to e = e
  listed-before (suc c) u v hu hv to e =
      ⊎_elim
      (λ old. let before = listed-before c u v hu hv to old in grind arith)
      (λ new.
      let (hw, out, last) = next_is c v hv new in
      let onward = leads-on N ends u v (next N c) hv to in
      let back = last u hu in
      grind arith)
      (cases_Bool (listed N c v))

  listed-later : (d c v : ℕ) → c ≤ d → listed N c v ≡ true → listed N d v ≡ true
  listed-later zero c v h e = let same : c ≡ 0 = omega arith in subst (λ x. listed N x v ≡ true) same e
  listed-later (suc d) c v h e =
      ⊎_elim
      (λ small. let before = listed-later d c v (omega arith) e in grind arith)
      (λ large. let same : c ≡ suc d = omega arith in subst (λ x. listed N x v ≡ true) same e)
      (cases_lt c (suc d))

  next-listed : (c : ℕ) → listed N (suc c) (next N c) ≡ true
  next-listed c = let self = leads_self N ends (next N c) in grind arith

  -- each turn lists one format at least, until all are
  listed_many : (c : ℕ) → (every N.formats (listed N c) ≡ true) ⊎ (c ≤ tally N.formats (listed N c))
  listed_many zero = inr (omega arith)
  listed_many (suc c) =
      let (all, back) = decides_every N.formats (listed N c) in
      let onward = (decides_every N.formats (listed N (suc c))).1 in
      ⊎_elim
      (λ e. inl (onward (λ k h. listed-later (suc c) c k (omega arith) (all e k h))))
      (λ e.
      let (v, h, out) = one_fails N.formats (listed N c) e in
      let (hw, outw, last) = next_is c v h out in
      let more = tally_more (listed N c) (listed N (suc c)) (λ k. listed-later (suc c) c k (omega arith)) N.formats (next N c) hw outw (next-listed c) in
      ⊎_elim (λ all. absurd (grind arith)) (λ many. inr (omega arith)) (listed_many c))
      (cases_Bool (every N.formats (listed N c)))

  all_listed : (v : ℕ) → v < N.formats → listed N N.formats v ≡ true
  all_listed =
      ⊎_elim
      (decides_every N.formats (listed N N.formats)).0
      (tally_all_lem N.formats (listed N N.formats))
      (listed_many N.formats)

  of_listed : (v : ℕ) → v < N.formats → listed N (suc (component_of N v)) v ≡ true
  of_listed v h =
      let m = N.formats - 1 in
      let whole : N.formats ≡ suc m = omega arith in
      let end = subst (λ x. listed N x v ≡ true) whole (all_listed v h) in
      let under = lowest-under N.formats (λ c. listed N (suc c) v) m end in
      lowest-passes N.formats (λ c. listed N (suc c) v) (omega arith)

  -- a format is listed by c where its component comes before c
  pub is_listed : (c v : ℕ) → v < N.formats → listed N c v ≡ ltb (component_of N v) c
  is_listed zero v h = grind (arith, nat_tests)
  is_listed (suc c) v h =
      ⊎_elim
      (λ small. listed-later (suc c) (suc (component_of N v)) v small (of_listed v h) ∙ sym (lt-ltb (component_of N v) (suc c) small))
      (λ large. lowest-first N.formats (λ c. listed N (suc c) v) c large ∙ sym (le-ltb (component_of N v) (suc c) large))
      (cases_lt (component_of N v) (suc c))

  listed_by : (c v : ℕ) → v < N.formats → listed N c v ≡ true → component_of N v < c
  listed_by c v h e = ltb-true (component_of N v) c (sym (is_listed c v h) ∙ e)

  unlisted_by : (c v : ℕ) → v < N.formats → listed N c v ≡ false → c ≤ component_of N v
  unlisted_by c v h e = ltb-false (component_of N v) c (sym (is_listed c v h) ∙ e)

  pub newly_listed : (c v : ℕ) → v < N.formats → listed N c v ≡ false → listed N (suc c) v ≡ true → component_of N v ≡ c
  newly_listed c v h old new = omega (arith, listed_by (suc c) v h new, unlisted_by c v h old)

  -- all are listed at the end, and not before
  pub listed_end : every N.formats (listed N (component_count N)) ≡ true
  listed_end =
      ⊎_elim
      (lowest-passes N.formats (λ c. every N.formats (listed N c)))
      (λ large.
      let within = lowest-within N.formats (λ c. every N.formats (listed N c)) in
      let same : N.formats ≡ component_count N = omega arith in
      subst (λ c. every N.formats (listed N c) ≡ true) same ((decides_every N.formats (listed N N.formats)).1 all_listed))
      (cases_lt (component_count N) N.formats)

  unlisted_before : (c : ℕ) → c < component_count N → every N.formats (listed N c) ≡ false
  unlisted_before = lowest-first N.formats (λ c. every N.formats (listed N c))

  counted : (v : ℕ) → v < N.formats → component_of N v < component_count N
  counted v h = listed_by (component_count N) v h ((decides_every N.formats (listed N (component_count N))).0 listed_end v h)

  -- while a format is not listed there are more components, and where all are there are no more
  pub more_left : (c v : ℕ) → v < N.formats → listed N c v ≡ false → c < component_count N
  more_left c v h out = let late = unlisted_by c v h out in let top = counted v h in omega arith

  pub none_left : (c : ℕ) → next N c ≡ N.formats → (v : ℕ) → v < N.formats → listed N c v ≡ true
  none_left c none v h =
      ⊎_elim (λ e. e) (λ out. let (hw, new, last) = next_is c v h out in absurd (omega arith)) (cases_Bool (listed N c v))

  pub count_is : (c : ℕ) → c ≤ component_count N → next N c ≡ N.formats → c ≡ component_count N
  count_is c few none =
      let all = (decides_every N.formats (listed N c)).1 (none_left c none) in
      let under = lowest-under N.formats (λ c. every N.formats (listed N c)) c all in
      omega arith

  pub next_new : (c : ℕ) → next N c < N.formats → listed N c (next N c) ≡ false
  next_new c h = (ready_last (listed N c) (next N c) (lowest-passes N.formats (ready N (listed N c)) h)).0

  -- component c is that of the format listed next
  next_in : (c : ℕ) → c < component_count N → (next N c < N.formats) × (listed N c (next N c) ≡ false) × (component_of N (next N c) ≡ c)
  next_in c h =
      let (v, hv, out) = one_fails N.formats (listed N c) (unlisted_before c h) in
      let (hw, outw, last) = next_is c v hv out in
      (hw, outw, newly_listed c (next N c) hw outw (next-listed c))

  -- and every format of component c shares it
  shares-next : (v : ℕ) → v < N.formats → shares N (next N (component_of N v)) v ≡ true
  shares-next v h =
      let new = of_listed v h in
      let old = is_listed (component_of N v) v h ∙ le-ltb (component_of N v) (component_of N v) (omega arith) in
      grind arith

  in_order_lem : (u v : ℕ) → u < N.formats → v < N.formats → leads N u v ≡ true → component_of N u ≤ component_of N v
  in_order_lem u v hu hv to =
      let first = listed_by (suc (component_of N v)) u hu (listed-before (suc (component_of N v)) u v hu hv to (of_listed v hv)) in omega arith

  together : (u v : ℕ) → u < N.formats → v < N.formats → component_of N u ≡ component_of N v → leads N u v ≡ true
  together u v hu hv same =
      let c = component_of N v in
      let (hw, out, is) = next_in c (counted v hv) in
      let p = subst (λ x. shares N (next N x) u ≡ true) same (shares-next u hu) in
      let q = shares-next v hv in
      leads-on N ends u (next N c) v hw (grind arith) (grind arith)

  forward : (j : ℕ) → InForce N j → component_of N (arc N j).from ≤ component_of N (arc N j).to
  forward j force = in_order_lem _ _ (ends j force).0 (ends j force).1 (leads-step N ends j force)

  -- where no step enters v's component from another that is c or later, no route does
  unentered : (c v : ℕ) →
      ((j : ℕ) → InForce N j → component_of N (arc N j).to ≡ component_of N v → c ≤ component_of N (arc N j).from → component_of N (arc N j).from ≡ component_of N v) →
      (js : List ℕ) (u : ℕ) → c ≤ component_of N u → Route N u v js → component_of N u ≡ component_of N v
  unentered c v none [] u late same = ap (component_of N) same
  unentered c v none (j ∷ js) u late (force, from, rest) =
      let here = ap (component_of N) from in
      let on = forward j force in
      let late-from : c ≤ component_of N (arc N j).from = omega arith in
      let after = unentered c v none js (arc N j).to (omega arith) rest in
      sym here ∙ none j force after late-from

  -- the components, with their numbers in order
  pub listing : Listing N (component_count N) (component_of N)
  listing = record {
    counted = counted;
    used = λ c h. let (hw, out, is) = next_in c h in (next N c, hw, is);
    together = λ u v hu hv same. (route_leads N ends u v (together u v hu hv same), route_leads N ends v u (together v u hv hu (sym same)));
    alike = λ u v hu hv to back.
        let p = in_order_lem u v hu hv (leads_route N ends u v to) in
        let q = in_order_lem v u hv hu (leads_route N ends v u back) in
        omega arith;
    forward = forward;
    first = λ c v h hv late none.
        let (hw, out, is) = next_in c h in
        let old = is_listed c v hv ∙ le-ltb (component_of N v) c late in
        let last : Last N (listed N c) N.formats v = λ u hu to.
        ⊎_elim
        (λ listed. grind arith)
        (λ unlisted.
        let (js, route) = route_leads N ends u v to in
        let back = together v u hv hu (sym (unentered c v none js u (unlisted_by c u hu unlisted) route)) in
        grind arith)
        (cases_Bool (listed N c u)) in
        (next N c, lowest-under N.formats (ready N (listed N c)) v (decides_ready (listed N c) v old last), is);
  }

-- numbers that are the same at the formats list the same
pub listing-same : (N : Network) → Joined N → (count : ℕ) (f g : ℕ → ℕ) → ((v : ℕ) → v < N.formats → g v ≡ f v) → Listing N count f → Listing N count g
listing-same N ends count f g same l = record {
  counted = λ v h. let e = same v h in let p = l.counted v h in omega arith;
  used = λ c h. let (v, hv, is) = l.used c h in (v, hv, same v hv ∙ is);
  together = λ u v hu hv e. l.together u v hu hv (sym (same u hu) ∙ e ∙ same v hv);
  alike = λ u v hu hv to back. same u hu ∙ l.alike u v hu hv to back ∙ sym (same v hv);
  forward = λ j force.
      let p = l.forward j force in
      let from = same _ (ends j force).0 in
      let to = same _ (ends j force).1 in
      omega arith;
  first = λ c v h hv late none.
      let here = same v hv in
      let (u, low, is) = l.first c v h hv (omega arith) (λ j force in-v late-from.
      let from = same _ (ends j force).0 in
      let to = same _ (ends j force).1 in
      let is = none j force (to ∙ in-v ∙ sym here) (omega arith) in
      omega arith) in
      (u, low, same u (omega arith) ∙ is);
}
