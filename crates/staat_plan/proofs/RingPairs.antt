-- The first vertex in the order of pairs, by the numbers of the two planes.
use Rattle.std.specs.{List.Sorted.IsStrictlySortedBy, Ordering.nat_cmp, Prelude.map}
use Rattle.std.proofs.lemmas.List.Elements.{All-append, All-cons, All-nil}
use Rattle.std.proofs.Common.{◌≡◌, inl, inr, ⊎_elim, ℕ, ◌+◌, ◌*◌, ◌<◌, ◌≤◌, Bool, true, false, if◌then◌else◌, arith, ap, sym, subst, refl, List, [], ◌∷◌, ◌++◌, All, Contains}
use Rattle.staat_vec.specs.{Lists.IsFirst, Primitives.primitive, Vectors.cross, declared.vector.V3.V3}
use Rattle.staat_vec.proofs.{Comparisons.{head_less, tail_sorted}, ListLaws.{first_right, first_left}}
use Rattle.staat_vec.proofs.Unique.{Contains-cases, Contains-front, Contains-later, Contains-nothing}
use Rattle.staat_model.specs.Planes.{crossings, vertices}
use Rattle.staat_ring.specs.Rings.{facet_by}

-- a crossing with a lesser plane comes before
pub order_less : (k j : ℕ) (c b : Bool) → k < j → 2 * j + (if b then 1 else 0) ≤ 2 * k + (if c then 1 else 0) → ⊥
order_less k j true true lt le = absurd (omega arith)
order_less k j true false lt le = absurd (omega arith)
order_less k j false true lt le = absurd (omega arith)
order_less k j false false lt le = absurd (omega arith)

module _ (f : ℕ → V3) (P : V3 → Type 0) where
  -- the crossing of two planes, or its negative
  abbrev pub at : ℕ → ℕ → Bool → V3
  at i j turned = facet_by turned (primitive (cross (f i) (f j)))

  abbrev pub order : ℕ → Bool → ℕ
  order j turned = 2 * j + (if turned then 1 else 0)

  none_of : (i : ℕ) (ks : List ℕ) → ((j : ℕ) (b : Bool) → Contains ks j → P (at i j b) → ⊥) → All (λ v. P v → ⊥) (crossings (f i) (map f ks))
  none_of i [] none = All-nil (λ v. P v → ⊥)
  none_of i (k ∷ ks) none =
      All-cons (λ v. P v → ⊥) (at i k false) (at i k true ∷ crossings (f i) (map f ks)) (none k false (Contains-front k ks))
      (All-cons (λ v. P v → ⊥) (at i k true) (crossings (f i) (map f ks)) (none k true (Contains-front k ks)) (none_of i ks (λ j b c. none j b (Contains-later k ks j c))))

  first_of : (i : ℕ) (ks : List ℕ) (j : ℕ) (b : Bool) → IsStrictlySortedBy nat_cmp ks → Contains ks j → P (at i j b) → ((k : ℕ) (c : Bool) → Contains ks k → P (at i k c) → order j b ≤ order k c) → IsFirst P (crossings (f i) (map f ks)) (at i j b)
  first_of i [] j b s c p least = absurd (Contains-nothing j c)
  first_of i (k ∷ ks) j b s c p least = ⊎_elim {C = IsFirst P (crossings (f i) (map f (k ∷ ks))) (at i j b)} (λ e. here b refl e) (λ cj. later cj (first_of i ks j b (tail_sorted k ks s) cj p (λ m d cm h. least m d (Contains-later k ks m cm) h))) (Contains-cases k ks j c)
    where
      here : (d : Bool) → d ≡ b → j ≡ k → IsFirst P (at i k false ∷ at i k true ∷ crossings (f i) (map f ks)) (at i j b)
      here false q e = inl ((λ t. at i (e t) (sym q t)), subst (λ v. P v) (λ t. at i (e t) (sym q t)) p)
      here true q e = inr (
        (λ h. absurd (let l = least k false (Contains-front k ks) h in let o = ap (order j) q in omega (arith, l, o, e))),
        inl ((λ t. at i (e t) (sym q t)), subst (λ v. P v) (λ t. at i (e t) (sym q t)) p),
      )

      later : Contains ks j → IsFirst P (crossings (f i) (map f ks)) (at i j b) → IsFirst P (at i k false ∷ at i k true ∷ crossings (f i) (map f ks)) (at i j b)
      later cj rest =
          let lt = head_less k ks j s cj in
          inr (
            (λ h. order_less k j false b lt (least k false (Contains-front k ks) h)),
            inr (
              (λ h. order_less k j true b lt (least k true (Contains-front k ks) h)),
              rest,
            ),
          )

  -- no pair has the property
  pub no_pairs : (ks : List ℕ) → IsStrictlySortedBy nat_cmp ks → ((i j : ℕ) (b : Bool) → Contains ks i → Contains ks j → i < j → P (at i j b) → ⊥) → All (λ v. P v → ⊥) (vertices (map f ks))
  no_pairs [] s none = All-nil (λ v. P v → ⊥)
  no_pairs (k ∷ ks) s none =
      All-append (λ v. P v → ⊥) (crossings (f k) (map f ks)) (vertices (map f ks))
      (none_of k ks (λ j b c. none k j b (Contains-front k ks) (Contains-later k ks j c) (head_less k ks j s c)))
      (no_pairs ks (tail_sorted k ks s) (λ i j b ci cj. none i j b (Contains-later k ks i ci) (Contains-later k ks j cj)))

  -- the pair (i, j) is the first that has it
  pub first_pair : (ks : List ℕ) (i j : ℕ) (b : Bool) → IsStrictlySortedBy nat_cmp ks → Contains ks i → Contains ks j → i < j → P (at i j b)
      → ((h k : ℕ) (c : Bool) → Contains ks h → Contains ks k → h < i → h < k → P (at h k c) → ⊥) → ((k : ℕ) (c : Bool) → Contains ks k → i < k → P (at i k c) → order j b ≤ order k c)
      → IsFirst P (vertices (map f ks)) (at i j b)
  first_pair [] i j b s ci cj lt p none least = absurd (Contains-nothing i ci)
  first_pair (k ∷ ks) i j b s ci cj lt p none least = ⊎_elim {C = IsFirst P (vertices (map f (k ∷ ks))) (at i j b)} here (λ c. later c (first_pair ks i j b (tail_sorted k ks s) c (in_tail j (let q = head_less k ks i s c in omega (arith, q, lt)) cj) lt p
      (λ h m d ch cm. none h m d (Contains-later k ks h ch) (Contains-later k ks m cm)) (λ m d cm. least m d (Contains-later k ks m cm)))) (Contains-cases k ks i ci)
    where
      in_tail : (m : ℕ) → k < m → Contains (k ∷ ks) m → Contains ks m
      in_tail m lt c = ⊎_elim {C = Contains ks m} (λ e. absurd (omega (arith, e))) (λ h. h) (Contains-cases k ks m c)

      here : i ≡ k → IsFirst P (crossings (f k) (map f ks) ++ vertices (map f ks)) (at i j b)
      here e = first_left P (crossings (f k) (map f ks)) (vertices (map f ks)) (at i j b)
          (subst (λ h. IsFirst P (crossings (f h) (map f ks)) (at i j b)) e
          (first_of i ks j b (tail_sorted k ks s) (in_tail j (omega (arith, e, lt)) cj) p (λ m c cm h. least m c (Contains-later k ks m cm) (let q = head_less k ks m s cm in omega (arith, q, e)) h)))

      later : Contains ks i → IsFirst P (vertices (map f ks)) (at i j b) → IsFirst P (crossings (f k) (map f ks) ++ vertices (map f ks)) (at i j b)
      later c rest =
          let q = head_less k ks i s c in
          first_right P (crossings (f k) (map f ks)) (vertices (map f ks)) (at i j b)
          (none_of k ks (λ m d cm. none k m d (Contains-front k ks) (Contains-later k ks m cm) q (head_less k ks m s cm)))
          rest
