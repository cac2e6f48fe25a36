-- From one vector that has all members on its positive side, turned about as far as the members let it.
use Rattle.std.proofs.Common.{◌≡◌, ◌≢◌, sym, subst, ◌∙◌, ℤ, pos, negsuc, ◌+ℤ◌, ◌-ℤ◌, ◌*ℤ◌, ◌≤ℤ◌, ◌<ℤ◌, ◌⊎◌, inl, inr, List, [], ◌∷◌, All, Contains}
use Rattle.std.proofs.lemmas.Int.{by_lt_z}
use Rattle.std.proofs.lemmas.List.Elements.{All-nil, All-cons, All-head, All-tail, All-weaker}
use Rattle.staat_vec.specs.declared.vector.V3.{V3}
use Rattle.staat_vec.specs.Vectors.{dot, plus, origin}
use Rattle.staat_model.specs.Cones.{IsAbove, IsSpanning}
use Rattle.staat_vec.proofs.Ring.{at, num, ◌⊕◌, ◌⊖◌, ◌⊗◌, ring, ring_by}
use Rattle.staat_vec.proofs.VecRing.{dotE, plusE, timesE, values, v0, v1, v2, scale, ring3, dot_scale}
use Rattle.staat_vec.proofs.Order.{nonneg_mul, cancel_nonneg, nonneg_turned, negative_factor, add_nonneg, turned_nonneg, turned_positive, positive_nonneg, zero_between, negative_apart, nonneg_is, nonneg_pos}
use Rattle.staat_model.proofs.Members.{both}
use Rattle.staat_vec.proofs.Integers.{product_zero}
use Rattle.staat_vec.proofs.Unique.{Contains-front}
use Rattle.staat_vec.proofs.ListLaws.{Contains-there}

-- a member w at which a*x + b*u is zero, where no member is on its negative side
Hit : List V3 → V3 → V3 → Type 0
Hit vs x u = (a b : ℤ) × (pos 0 <ℤ a) × (pos 0 ≤ℤ b) × (w : V3) × Contains vs w × (dot w u <ℤ pos 0) × (a *ℤ dot w x +ℤ b *ℤ dot w u ≡ pos 0) × All (λ v. pos 0 ≤ℤ (a *ℤ dot v x +ℤ b *ℤ dot v u)) vs

-- how the ratios of two members compare
ratio : (a b p q r s : ℤ) → pos 0 <ℤ a → pos 0 ≤ℤ p → pos 0 ≤ℤ r → q <ℤ pos 0 → (a *ℤ p +ℤ b *ℤ q) <ℤ pos 0 → pos 0 ≤ℤ (a *ℤ r +ℤ b *ℤ s) → pos 0 ≤ℤ ((pos 0 -ℤ q) *ℤ r +ℤ p *ℤ s)
ratio a b p q r s ha hp hr hq hv hw = by_lt_z {P = pos 0 ≤ℤ ((pos 0 -ℤ q) *ℤ r +ℤ p *ℤ s)} s (pos 0)
    (λ neg. cancel_nonneg a ((pos 0 -ℤ q) *ℤ r +ℤ p *ℤ s) ha
    (nonneg_is (a *ℤ ((pos 0 -ℤ q) *ℤ r +ℤ p *ℤ s)) ((pos 0 -ℤ q) *ℤ (a *ℤ r +ℤ b *ℤ s) +ℤ s *ℤ (a *ℤ p +ℤ b *ℤ q))
    (ring (a ∷ b ∷ p ∷ q ∷ r ∷ s ∷ []) (at 0 ⊗ ((num (pos 0) ⊖ at 3) ⊗ at 4 ⊕ at 2 ⊗ at 5)) ((num (pos 0) ⊖ at 3) ⊗ (at 0 ⊗ at 4 ⊕ at 1 ⊗ at 5) ⊕ at 5 ⊗ (at 0 ⊗ at 2 ⊕ at 1 ⊗ at 3)) tt)
    (add_nonneg ((pos 0 -ℤ q) *ℤ (a *ℤ r +ℤ b *ℤ s)) (s *ℤ (a *ℤ p +ℤ b *ℤ q))
    (nonneg_mul (pos 0 -ℤ q) (a *ℤ r +ℤ b *ℤ s) (turned_nonneg q hq) hw)
    (nonneg_turned s (a *ℤ p +ℤ b *ℤ q) neg hv))))
    (λ nonneg. add_nonneg ((pos 0 -ℤ q) *ℤ r) (p *ℤ s) (nonneg_mul (pos 0 -ℤ q) r (turned_nonneg q hq) hr) (nonneg_mul p s hp nonneg))

-- the new pair at v
meets_at : (p q : ℤ) → (pos 0 -ℤ q) *ℤ p +ℤ p *ℤ q ≡ pos 0
meets_at p q = ring (p ∷ q ∷ []) ((num (pos 0) ⊖ at 1) ⊗ at 0 ⊕ at 0 ⊗ at 1) (num (pos 0)) tt

module _ (x u v : V3) (vs : List V3) (up : IsAbove x (v ∷ vs)) where
  here_up : pos 0 ≤ℤ dot v x
  here_up = All-head (λ v. pos 0 ≤ℤ dot v x) v vs up

  rest_up : IsAbove x vs
  rest_up = All-tail (λ v. pos 0 ≤ℤ dot v x) v vs up

  -- v is the first to be hit, if the rest stays on the positive side
  hit_here : dot v u <ℤ pos 0 → All (λ w. pos 0 ≤ℤ ((pos 0 -ℤ dot v u) *ℤ dot w x +ℤ dot v x *ℤ dot w u)) vs → Hit (v ∷ vs) x u
  unfolding Hit
  hit_here neg rest = (
    pos 0 -ℤ dot v u,
    dot v x,
    turned_positive (dot v u) neg,
    here_up,
    v,
    Contains-front v vs,
    neg,
    meets_at (dot v x) (dot v u),
    All-cons (λ w. pos 0 ≤ℤ ((pos 0 -ℤ dot v u) *ℤ dot w x +ℤ dot v x *ℤ dot w u)) v vs (nonneg_is _ (pos 0) (meets_at (dot v x) (dot v u)) (nonneg_pos 0)) rest,
  )

  hit_step : IsAbove u vs ⊎ Hit vs x u → IsAbove u (v ∷ vs) ⊎ Hit (v ∷ vs) x u
  unfolding Hit
  hit_step (inl above) =
      by_lt_z {P = IsAbove u (v ∷ vs) ⊎ Hit (v ∷ vs) x u} (dot v u) (pos 0)
      (λ neg. inr (hit_here neg (both (λ w. pos 0 ≤ℤ dot w x) (λ w. pos 0 ≤ℤ dot w u) (λ w. pos 0 ≤ℤ ((pos 0 -ℤ dot v u) *ℤ dot w x +ℤ dot v x *ℤ dot w u))
      (λ w p q. add_nonneg ((pos 0 -ℤ dot v u) *ℤ dot w x) (dot v x *ℤ dot w u) (nonneg_mul (pos 0 -ℤ dot v u) (dot w x) (turned_nonneg (dot v u) neg) p) (nonneg_mul (dot v x) (dot w u) here_up q))
      vs rest_up above)))
      (λ nonneg. inl (All-cons (λ w. pos 0 ≤ℤ dot w u) v vs nonneg above))
  hit_step (inr (a, b, pa, pb, w, in_vs, low, e, rest)) =
      by_lt_z {P = IsAbove u (v ∷ vs) ⊎ Hit (v ∷ vs) x u} (a *ℤ dot v x +ℤ b *ℤ dot v u) (pos 0)
      (λ neg. let q = negative_factor a b (dot v x) (dot v u) (positive_nonneg a pa) pb here_up neg in
      inr (hit_here q (both (λ w. pos 0 ≤ℤ dot w x) (λ w. pos 0 ≤ℤ (a *ℤ dot w x +ℤ b *ℤ dot w u)) (λ w. pos 0 ≤ℤ ((pos 0 -ℤ dot v u) *ℤ dot w x +ℤ dot v x *ℤ dot w u))
      (λ w p r. ratio a b (dot v x) (dot v u) (dot w x) (dot w u) pa here_up p q neg r)
      vs rest_up rest)))
      (λ nonneg. inr (a, b, pa, pb, w, Contains-there v w vs in_vs, low, e, All-cons (λ v. pos 0 ≤ℤ (a *ℤ dot v x +ℤ b *ℤ dot v u)) v vs nonneg rest))

hit : (x u : V3) (vs : List V3) → IsAbove x vs → IsAbove u vs ⊎ Hit vs x u
hit x u [] up = inl (All-nil (λ v. pos 0 ≤ℤ dot v u))
hit x u (v ∷ vs) up = hit_step x u v vs up (hit x u vs (rest_up x u v vs up))

pub dot_pair : (a b : ℤ) (v x u : V3) → dot v (plus (scale a x) (scale b u)) ≡ a *ℤ dot v x +ℤ b *ℤ dot v u
dot_pair a b v x u = ring (values (v ∷ x ∷ u ∷ []) (a ∷ b ∷ [])) (dotE v0 (plusE (timesE (at 9) v1) (timesE (at 10) v2))) (at 9 ⊗ dotE v0 v1 ⊕ at 10 ⊗ dotE v0 v2) tt

-- x turned towards u or away from it, until a member is hit that u is not at right angles to
unfoldable pub Turned : List V3 → V3 → V3 → Type 0
Turned vs x u = (r : V3) × IsAbove r vs × (w : V3) × Contains vs w × (dot w u ≢ pos 0) × (dot w r ≡ pos 0) × (a : ℤ) × (pos 0 <ℤ a) × ((z : V3) → dot z u ≡ pos 0 → dot z r ≡ a *ℤ dot z x)

from_hit : (vs : List V3) (x u : V3) (k : ℤ) → Hit vs x (scale k u) → Turned vs x u
unfolding Turned Hit
from_hit vs x u k (a, b, pa, pb, w, in_vs, low, e, rest) =
    let s = scale k u in
    let r = plus (scale a x) (scale b s) in (
      r,
      All-weaker (λ v. pos 0 ≤ℤ (a *ℤ dot v x +ℤ b *ℤ dot v s)) (λ v. pos 0 ≤ℤ dot v r) (λ v h. nonneg_is (dot v r) (a *ℤ dot v x +ℤ b *ℤ dot v s) (dot_pair a b v x s) h) vs rest,
      w,
      in_vs,
      (λ q. negative_apart (dot w s) low (dot_scale k w u ∙ product_zero k (dot w u) q)),
      dot_pair a b w x s ∙ e,
      a,
      pa,
      λ z q. dot_pair a b z x s
          ∙ ring_by (a ∷ dot z x ∷ b ∷ dot z s ∷ []) (at 0 ⊗ at 1 ⊕ at 2 ⊗ at 3) (at 0 ⊗ at 1) (at 2) (at 3) (num (pos 0)) (dot_scale k z u ∙ product_zero k (dot z u) q) tt,
    )

scale_one : (u : V3) → scale (pos 1) u ≡ u
scale_one u = ring3 (values (u ∷ []) []) (timesE (num (pos 1)) v0) v0 (tt, tt, tt)

pub turn : (vs : List V3) (x u : V3) → IsSpanning vs → IsAbove x vs → u ≢ origin → Turned vs x u
turn vs x u spans up some = elim (hit x (scale (pos 1) u) vs up) [
  | inr h ↦ from_hit vs x u (pos 1) h
  | inl above ↦ elim (hit x (scale (negsuc 0) u) vs up) [
    | inr h ↦ from_hit vs x u (negsuc 0) h
    | inl below ↦ absurd (some (spans u (both (λ v. pos 0 ≤ℤ dot v (scale (pos 1) u)) (λ v. pos 0 ≤ℤ dot v (scale (negsuc 0) u)) (λ v. dot v u ≡ pos 0)
        (λ v p q. zero_between (dot v u) (subst (λ w. pos 0 ≤ℤ dot v w) (scale_one u) p) (nonneg_is (negsuc 0 *ℤ dot v u) (dot v (scale (negsuc 0) u)) (sym (dot_scale (negsuc 0) v u)) q))
        vs above below)))
  ]
]
