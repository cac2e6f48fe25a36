-- A vector strictly on the positive side of all members of a list that spans space: the cone of the conditions has two walls, and on each a direction strictly inside the other conditions.
use Rattle.std.proofs.Common.{◌≡◌, ℕ, zero, suc, ◌≤◌, ◌≢◌, refl, sym, ap, subst, ◌∙◌, arith, pos, ◌+ℤ◌, ◌-ℤ◌, ◌*ℤ◌, ◌≤ℤ◌, ◌<ℤ◌, ◌⊎◌, inl, inr, ⊎_elim, List, [], ◌∷◌, ◌++◌, All, Contains}
use Rattle.std.proofs.lemmas.Int.{ints}
use Rattle.std.proofs.lemmas.List.Elements.{All-nil, All-cons, All-head, All-tail, All-contains, All-weaker, All-append}
use Rattle.staat_vec.specs.declared.vector.V3.{V3}
use Rattle.staat_vec.specs.Vectors.{dot, cross, plus, times, negative, origin, vector_cmp}
use Rattle.staat_vec.proofs.VectorOrder.{vector_exact, vector_total}
use Rattle.staat_vec.proofs.Ring.{at, num, ◌⊕◌, ◌⊖◌, ◌⊗◌, ring}
use Rattle.staat_vec.proofs.VecRing.{dotE, crossE, plusE, timesE, originE, values, v0, v1, v2, scale, ring3, dot_negative, cross_self}
use Rattle.staat_vec.proofs.Order.{nonneg_is, nonneg_pos, nonneg_mul, pos_mul, positive_is, positive_sum, cancel_nonneg, positive_nonneg, turned_positive}
use Rattle.staat_vec.proofs.Integers.{cancel_positive, opposite_nonpositive_back, opposite_zero, positive_pos, zero_from_bounds, zero_nonneg}
use lib.IntN.{+ℤ_idr}
use Rattle.staat_vec.proofs.VectorLaws.{times_zero_plus, unscaled}
use Rattle.staat_model.specs.Meeting.{mix}
use Rattle.staat_model.specs.Cones.{IsAbove, IsSpanning, IsCombined, IsOnBorder, HasTwoBorders}
use Rattle.staat_model.proofs.Members.{All-from_members, all_back, all_front, both, joined}
use Rattle.staat_model.proofs.Mixes.{mix_above, dot_step, times_dot}
use Rattle.staat_model.proofs.Alternative.{IsSeparated, alternative, combine_lemma}
use Rattle.staat_model.proofs.Tilt.{dot_pair}
use Rattle.staat_model.proofs.Decisions.{equal_or, first_or}
use Rattle.staat_model.proofs.Edge.{perpendicular}
use Rattle.staat_vec.proofs.Unique.{Contains-cases, Contains-nothing, Contains-front, IsFirst-in}
use Rattle.staat_vec.proofs.ListLaws.{Contains-there}

-- some x breaks g alone among the kept, and nothing of the rest
Needed : List V3 → List V3 → V3 → Type 0
Needed ks rs g = (x : V3) × (dot g x <ℤ pos 0) × All (λ m. (m ≡ g) ⊎ (pos 0 ≤ℤ dot m x)) ks × IsAbove x rs

-- kept members that say all that the list says, each of them needed
Pruned : List V3 → List V3 → Type 0
Pruned ks rs = (ls : List V3) × All (Needed ls []) ls × ((x : V3) → IsAbove x ls → IsAbove x (ks ++ rs)) × ((g : V3) → Contains ls g → Contains ks g ⊎ Contains rs g)

follows : (vs : List V3) (h x : V3) → IsCombined vs h → IsAbove x vs → pos 0 ≤ℤ dot h x
follows vs h x c up =
    let one = c.positive in
    cancel_nonneg (pos c.k) (dot h x) (omega (arith, ints))
    (nonneg_is (pos c.k *ℤ dot h x) (dot (mix c.numbers vs) x) (sym (times_dot c.k h x) ∙ ap (λ v. dot v x) (sym c.is)) (mix_above x c.numbers vs up))

insert_above : (ks rs : List V3) (g x : V3) → pos 0 ≤ℤ dot g x → IsAbove x (ks ++ rs) → IsAbove x (ks ++ g ∷ rs)
insert_above ks rs g x here' up =
    let P : V3 → Type 0 = λ v. pos 0 ≤ℤ dot v x in
    All-append P ks (g ∷ rs) (all_front P ks rs up) (All-cons P g rs here' (all_back P ks rs up))

prune : (ks rs : List V3) → All (Needed ks rs) ks → Pruned ks rs
unfolding Needed Pruned
prune ks [] needed = (ks, needed, (λ x up. All-append (λ v. pos 0 ≤ℤ dot v x) ks [] up (All-nil (λ v. pos 0 ≤ℤ dot v x))), λ g c. inl c)
prune ks (g ∷ rs) needed = go (alternative (ks ++ rs) g) (prune ks rs (All-weaker (Needed ks (g ∷ rs)) (Needed ks rs) (λ k n. (n.0, n.1, n.2, All-tail (λ v. pos 0 ≤ℤ dot v n.0) g rs n.3)) ks needed)) (prune (g ∷ ks) rs)
  where
    keep : IsSeparated (ks ++ rs) g → All (Needed (g ∷ ks) rs) (g ∷ ks)
    keep (x, up, low) =
        let P : V3 → Type 0 = λ v. pos 0 ≤ℤ dot v x in
        All-cons (Needed (g ∷ ks) rs) g ks
        (x, low, All-cons (λ m. (m ≡ g) ⊎ (pos 0 ≤ℤ dot m x)) g ks (inl refl) (All-weaker P (λ m. (m ≡ g) ⊎ (pos 0 ≤ℤ dot m x)) (λ m h. inr h) ks (all_front P ks rs up)), all_back P ks rs up)
        (All-weaker (Needed ks (g ∷ rs)) (Needed (g ∷ ks) rs)
        (λ k n. (n.0, n.1, All-cons (λ m. (m ≡ k) ⊎ (pos 0 ≤ℤ dot m n.0)) g ks (inr (All-head (λ v. pos 0 ≤ℤ dot v n.0) g rs n.3)) n.2, All-tail (λ v. pos 0 ≤ℤ dot v n.0) g rs n.3)) ks needed)

    go : IsCombined (ks ++ rs) g ⊎ IsSeparated (ks ++ rs) g → Pruned ks rs → (All (Needed (g ∷ ks) rs) (g ∷ ks) → Pruned (g ∷ ks) rs) → Pruned ks (g ∷ rs)
    go (inl c) (ls, need, rules, from) other = (ls, need, (λ x up. insert_above ks rs g x (follows (ks ++ rs) g x c (rules x up)) (rules x up)), λ x h. ⊎_elim (λ a. inl a) (λ b. inr (Contains-there g x rs b)) (from x h))
    go (inr s) without other =
        let (ls, need, rules, from) = other (keep s) in (
          ls,
          need,
          (λ x up. let w = rules x up in insert_above ks rs g x (All-head (λ v. pos 0 ≤ℤ dot v x) g (ks ++ rs) w) (All-tail (λ v. pos 0 ≤ℤ dot v x) g (ks ++ rs) w)),
          λ x h. ⊎_elim (λ c. ⊎_elim (λ e. inr (joined g rs x (inl e))) (λ later. inl later) (Contains-cases g ks x c)) (λ b. inr (Contains-there g x rs b)) (from x h),
        )

find_other : (g : V3) (ks : List V3) → ((h : V3) × Contains ks h × (h ≢ g)) ⊎ All (λ m. m ≡ g) ks
find_other g ks = elim (first_or (λ m. m ≡ g) (λ m. equal_or vector_cmp vector_total vector_exact m g) ks) [
  | inl all ↦ inr all
  | inr other ↦ (let at = IsFirst-in (λ m. m ≢ g) ks other.0 other.1 in inl (other.0, at.0, at.1))
]

-- a vector on the positive side of all is zero with its negative
line_zero : (vs : List V3) (u : V3) → IsSpanning vs → IsAbove u vs → IsAbove (negative u) vs → u ≡ origin
line_zero vs u spans up down =
    spans u (both (λ v. pos 0 ≤ℤ dot v u) (λ v. pos 0 ≤ℤ dot v (negative u)) (λ v. dot v u ≡ pos 0)
    (λ v p q. zero_from_bounds (dot v u) p (opposite_nonpositive_back (dot v (negative u)) (dot v u) (dot_negative v u) q)) vs up down)

-- the list is not spanned by conditions that are all one
not_one : (vs ks : List V3) (g : V3) → IsSpanning vs → ((x : V3) → IsAbove x ks → IsAbove x vs) → All (λ m. m ≡ g) ks → ⊥
not_one vs ks g spans rules one =
    let (u, some, flat) = perpendicular g in
    some (line_zero vs u spans
    (rules u (All-weaker (λ m. m ≡ g) (λ m. pos 0 ≤ℤ dot m u) (λ m e. zero_nonneg (dot m u) (ap (λ v. dot v u) e ∙ flat)) ks one))
    (rules (negative u) (All-weaker (λ m. m ≡ g) (λ m. pos 0 ≤ℤ dot m (negative u))
    (λ m e. zero_nonneg (dot m (negative u)) (opposite_zero (dot m (negative u)) (dot m u) (dot_negative m u) (ap (λ v. dot v u) e ∙ flat))) ks one)))

-- v is parallel to g and lies on z, or z is strictly on its positive side
Side : V3 → V3 → V3 → Type 0
Side g z v = (cross v g ≡ origin) × (dot v z ≡ pos 0) ⊎ (pos 0 <ℤ dot v z)

side_zero : (g z : V3) → Side g z origin
unfolding Side
side_zero g z =
    let ρ = values (g ∷ z ∷ []) [] in
    inl (ring3 ρ (crossE originE v0) originE (tt, tt, tt), ring ρ (dotE originE v1) (num (pos 0)) tt)

cross_sum : (c : ℕ) (v m g : V3) → cross v g ≡ origin → cross m g ≡ origin → cross (plus (times c v) m) g ≡ origin
cross_sum c v m g e f =
    ring3 (values (v ∷ m ∷ g ∷ []) (pos c ∷ [])) (crossE (plusE (timesE (at 9) v0) v1) v2) (plusE (timesE (at 9) (crossE v0 v2)) (crossE v1 v2)) (tt, tt, tt)
    ∙ (λ i. plus (times c (e i)) (f i)) ∙ ring3 (pos c ∷ []) (plusE (timesE (at 0) originE) originE) originE (tt, tt, tt)

side_more : (c : ℕ) (v m z : V3) → pos 0 ≤ℤ dot v z → pos 0 <ℤ dot m z → pos 0 <ℤ dot (plus (times c v) m) z
side_more c v m z h = positive_sum _ (pos c *ℤ dot v z) (dot m z) (dot_step c v m z) (nonneg_mul (pos c) (dot v z) (nonneg_pos c) h)

side_sum : (g z : V3) (c : ℕ) (v m : V3) → Side g z v → Side g z m → Side g z (plus (times c v) m)
unfolding Side
side_sum g z c v m (inl (e, f)) (inl (h, j)) = inl (cross_sum c v m g e h, dot_step c v m z ∙ (λ i. pos c *ℤ f i +ℤ j i) ∙ ring (pos c ∷ []) (at 0 ⊗ num (pos 0) ⊕ num (pos 0)) (num (pos 0)) tt)
side_sum g z c v m (inl (e, f)) (inr q) = inr (side_more c v m z (zero_nonneg (dot v z) f) q)
side_sum g z c v m (inr p) (inr q) = inr (side_more c v m z (positive_nonneg (dot v z) p) q)
side_sum g z zero v m (inr p) (inl (h, j)) = inl (ap (λ w. cross w g) (times_zero_plus v m) ∙ h, ap (λ w. dot w z) (times_zero_plus v m) ∙ j)
side_sum g z (suc c) v m (inr p) (inl (h, j)) =
    inr (positive_is (dot (plus (times (suc c) v) m) z) (pos (suc c) *ℤ dot v z) (dot_step (suc c) v m z ∙ ap (λ q. pos (suc c) *ℤ dot v z +ℤ q) j ∙ +ℤ_idr (pos (suc c) *ℤ dot v z))
    (pos_mul (pos (suc c)) (dot v z) (omega (arith, ints)) p))

side_mix : (g z : V3) (cs : List ℕ) (ks : List V3) → All (Side g z) ks → Side g z (mix cs ks)
side_mix g z [] ks h = side_zero g z
side_mix g z (c ∷ cs) [] h = side_zero g z
side_mix g z (c ∷ cs) (k ∷ ks) h = side_sum g z c k (mix cs ks) (All-head (Side g z) k ks h) (side_mix g z cs ks (All-tail (Side g z) k ks h))

side_part : (g z m w : V3) (k : ℕ) → 1 ≤ k → w ≡ times k m → Side g z w → (cross m g ≡ origin) ⊎ (pos 0 <ℤ dot m z)
unfolding Side
side_part g z m w k one e (inl (f, i)) =
    inl (unscaled (pos k) (cross m g) (positive_pos k one)
    (ring3 (values (m ∷ g ∷ []) (pos k ∷ [])) (timesE (at 6) (crossE v0 v1)) (crossE (timesE (at 6) v0) v1) (tt, tt, tt) ∙ ap (λ v. cross v g) (sym e) ∙ f))
side_part g z m w k one e (inr p) =
    inr (cancel_positive (pos k) (dot m z) (positive_pos k one) (subst (λ q. pos 0 <ℤ q) (ap (λ v. dot v z) e ∙ times_dot k m z) p))

-- between d and x, on g
abbrev between : V3 → V3 → V3 → V3
between g d x = plus (scale (dot g d) x) (scale (pos 0 -ℤ dot g x) d)

between_on : (g d x : V3) → dot g (between g d x) ≡ pos 0
between_on g d x = ring (values (g ∷ d ∷ x ∷ []) []) (dotE v0 (plusE (timesE (dotE v0 v1) v2) (timesE (num (pos 0) ⊖ dotE v0 v2) v1))) (num (pos 0)) tt

module _ (vs ks : List V3) (d : V3) (inside : All (λ v. pos 0 <ℤ dot v d) vs)
    (rules : (x : V3) → IsAbove x ks → IsAbove x vs) (from : (g : V3) → Contains ks g → Contains vs g) where
  in_d : (g : V3) → Contains ks g → pos 0 <ℤ dot g d
  in_d g c = All-contains (λ v. pos 0 <ℤ dot v d) vs g inside (from g c)

  -- a kept member other than g is strictly on the positive side of the vector on g
  strictly : (g : V3) (x : V3) → pos 0 <ℤ dot g d → dot g x <ℤ pos 0 → (m : V3) → Contains ks m → pos 0 ≤ℤ dot m x → pos 0 <ℤ dot m (between g d x)
  strictly g x pd low m c h =
      positive_sum (dot m (between g d x)) (dot g d *ℤ dot m x) ((pos 0 -ℤ dot g x) *ℤ dot m d) (dot_pair (dot g d) (pos 0 -ℤ dot g x) m x d)
      (nonneg_mul (dot g d) (dot m x) (positive_nonneg (dot g d) pd) h)
      (pos_mul (pos 0 -ℤ dot g x) (dot m d) (turned_positive (dot g x) low) (in_d m c))

  border_at : (g : V3) → Contains ks g → Needed ks [] g → (z : V3) × IsOnBorder vs g z × ((h : V3) → Contains ks h → h ≢ g → pos 0 <ℤ dot h z)
  unfolding Needed Side
  border_at g c (x, low, others, none) =
      let z = between g d x in
      let pd = in_d g c in
      let P : V3 → Type 0 = λ m. (m ≡ g) ⊎ (pos 0 ≤ℤ dot m x) in
      let sides : All (Side g z) ks =
      All-from_members (Side g z) ks
      (λ m in_ks. ⊎_elim
      (λ e. inl (ap (λ v. cross v g) e ∙ cross_self g, ap (λ v. dot v z) e ∙ between_on g d x))
      (λ h. inr (strictly g x pd low m in_ks h))
      (All-contains P ks m others in_ks)) in (
        z,
        record {
          g_in = from g c;
          on = between_on g d x;
          inside = All-from_members (λ m. (cross m g ≡ origin) ⊎ (pos 0 <ℤ dot m z)) vs
              (λ m in_vs.
              let i = combine_lemma ks m (λ y up. All-contains (λ v. pos 0 ≤ℤ dot v y) vs m (rules y up) in_vs) in
              side_part g z m (mix i.numbers ks) i.k i.positive i.is (side_mix g z i.numbers ks sides));
        },
        λ h in_h apart. ⊎_elim (λ e. absurd (apart e)) (λ q. strictly g x pd low h in_h q) (All-contains P ks h others in_h),
      )

two_borders : (vs ks : List V3) (d : V3) → IsSpanning vs → All (λ v. pos 0 <ℤ dot v d) vs → ((x : V3) → IsAbove x ks → IsAbove x vs) → ((g : V3) → Contains ks g → Contains vs g)
    → All (Needed ks []) ks → HasTwoBorders vs
two_borders vs [] d spans inside rules from needed = absurd (not_one vs [] d spans rules (All-nil (λ m. m ≡ d)))
two_borders vs (g ∷ ks) d spans inside rules from needed = elim (find_other g (g ∷ ks)) [
  | inr one ↦ absurd (not_one vs (g ∷ ks) g spans rules one)
  | inl (h, in_h, apart) ↦
      let in_g = Contains-front g ks in
      let b = border_at vs (g ∷ ks) d inside rules from g in_g (All-contains (Needed (g ∷ ks) []) (g ∷ ks) g needed in_g) in
      let c = border_at vs (g ∷ ks) d inside rules from h in_h (All-contains (Needed (g ∷ ks) []) (g ∷ ks) h needed in_h) in
      record { g = g; h = h; y = b.0; z = c.0; y_on = b.1; z_on = c.1; y_inside = b.2 h in_h apart; z_inside = c.2 g in_g (λ e. apart (sym e)) }
]

pub borders_lemma : (vs : List V3) (d : V3) → IsSpanning vs → All (λ v. pos 0 <ℤ dot v d) vs → HasTwoBorders vs
unfolding Pruned
borders_lemma vs d spans inside =
    let (ks, needed, rules, from) = prune [] vs (All-nil (Needed [] vs)) in
    two_borders vs ks d spans inside rules (λ g c. ⊎_elim (λ n. absurd (Contains-nothing g n)) (λ y. y) (from g c)) needed
