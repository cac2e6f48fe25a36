-- The rows of a blocking graph, as the arcs of pairs of parts come in.
use Rattle.std.proofs.Common.{◌≡◌, ◌≢◌, ◌↔◌, ◌⊎◌, inl, inr, ⊎_elim, ℕ, sym, subst, ◌∙◌, Bool, List}
use Rattle.std.specs.Prelude.{IsTrue, replicate}
use Rattle.staat_vec.specs.declared.vector.V3.{V3}
use Rattle.staat_vec.proofs.Naturals.{same_or}
use Rattle.staat_model.specs.declared.set.PartSet.{PartSet}
use Rattle.staat_model.specs.Sets.{Has, IsSubset}
use Rattle.staat_model.proofs.FreeSides.{member_or}
use Rattle.staat_graph.specs.Graphs.{HasArc}
use Rattle.staat_graph.proofs.Arcs.{empty_graph}
use Rattle.staat_pairs.specs.Tables.{Table}
use Rattle.staat_planes.specs.Tables.{GainsArcs, IsAhead, IsAheadIn}
use Rattle.staat_planes.proofs.Gaining.{adds_both, adds_nothing, adds_same}

-- ---- the arcs of two parts

module _ (R : ℕ → ℕ → Type 0) (old mid new : List ℕ) (a b : ℕ) (ahead behind : Bool) (is_ahead : IsTrue ahead ↔ R a b) (is_behind : IsTrue behind ↔ R b a)
    (first : (x y : ℕ) → HasArc mid x y ↔ (HasArc old x y ⊎ ((x ≡ a) × (y ≡ b) × IsTrue ahead)))
    (second : (x y : ℕ) → HasArc new x y ↔ (HasArc mid x y ⊎ ((x ≡ b) × (y ≡ a) × IsTrue behind))) where
  moved : (x y u v : ℕ) → x ≡ u → y ≡ v → R x y → R u v
  moved x y u v ex ey r = subst (λ p. R p v) ex (subst (R x) ey r)

  pub pair_gained : GainsArcs R a (λ y. y ≡ b) old new
  pair_gained x y = adds_same (adds_both (first x y) (second x y)) to from
    where
      to : ((x ≡ a) × (y ≡ b) × IsTrue ahead) ⊎ ((x ≡ b) × (y ≡ a) × IsTrue behind) → R x y × (((x ≡ a) × (y ≡ b)) ⊎ ((y ≡ a) × (x ≡ b)))
      to (inl (ex, ey, t)) = (moved a b x y (sym ex) (sym ey) (is_ahead.0 t), inl (ex, ey))
      to (inr (ex, ey, t)) = (moved b a x y (sym ex) (sym ey) (is_behind.0 t), inr (ey, ex))

      from : R x y × (((x ≡ a) × (y ≡ b)) ⊎ ((y ≡ a) × (x ≡ b))) → ((x ≡ a) × (y ≡ b) × IsTrue ahead) ⊎ ((x ≡ b) × (y ≡ a) × IsTrue behind)
      from (r, inl (ex, ey)) = inl (ex, ey, is_ahead.1 (moved x y a b ex ey r))
      from (r, inr (ey, ex)) = inr (ex, ey, is_behind.1 (moved x y b a ex ey r))

-- ---- the arcs of a part and of several others

-- y is the part a and P holds of x, or the other way round
abbrev IsWith : (a : ℕ) → (ℕ → Type 0) → ℕ → ℕ → Type 0
IsWith a P x y = ((x ≡ a) × P y) ⊎ ((y ≡ a) × P x)

pub nothing_gained : (R : ℕ → ℕ → Type 0) (a : ℕ) (P : ℕ → Type 0) (rows : List ℕ) → ((y : ℕ) → P y → ⊥) → GainsArcs R a P rows rows
nothing_gained R a P rows none x y = adds_nothing (λ h. ⊎_elim {C = ⊥} (λ at. none y at.1) (λ at. none x at.1) h.1)

pub more_gained : (R : ℕ → ℕ → Type 0) (a : ℕ) (P Q S : ℕ → Type 0) (old mid new : List ℕ) → GainsArcs R a P old mid → GainsArcs R a Q mid new
    → ((y : ℕ) → S y ↔ (P y ⊎ Q y)) → GainsArcs R a S old new
more_gained R a P Q S old mid new first second both x y = adds_same (adds_both (first x y) (second x y)) to from
  where
    to : (R x y × IsWith a P x y) ⊎ (R x y × IsWith a Q x y) → R x y × IsWith a S x y
    to (inl (r, inl (e, p))) = (r, inl (e, (both y).1 (inl p)))
    to (inl (r, inr (e, p))) = (r, inr (e, (both x).1 (inl p)))
    to (inr (r, inl (e, q))) = (r, inl (e, (both y).1 (inr q)))
    to (inr (r, inr (e, q))) = (r, inr (e, (both x).1 (inr q)))

    from : R x y × IsWith a S x y → (R x y × IsWith a P x y) ⊎ (R x y × IsWith a Q x y)
    from (r, inl (e, s)) = ⊎_elim (λ p. inl (r, inl (e, p))) (λ q. inr (r, inl (e, q))) ((both y).0 s)
    from (r, inr (e, s)) = ⊎_elim (λ p. inl (r, inr (e, p))) (λ q. inr (r, inr (e, q))) ((both x).0 s)

-- ---- sets of parts that are left

-- left without one of its members
module _ (left rest one : PartSet) (b : ℕ) (one_is : (q : ℕ) → Has one q ↔ (q ≡ b)) (rest_is : (q : ℕ) → Has rest q ↔ (Has left q × (Has one q → ⊥))) where
  pub taken : (q : ℕ) → Has rest q ↔ (Has left q × (q ≢ b))
  taken q = (
    λ h. let (l, apart) = (rest_is q).0 h in (l, λ e. apart ((one_is q).1 e)),
    λ (l, ne). (rest_is q).1 (l, λ o. ne ((one_is q).0 o)),
  )

-- the parts of a set that are not left, with one more
pub one_done : (all left rest : PartSet) (b : ℕ) → IsSubset left all → Has left b → ((q : ℕ) → Has rest q ↔ (Has left q × (q ≢ b)))
    → (y : ℕ) → (Has all y × (Has rest y → ⊥)) ↔ ((Has all y × (Has left y → ⊥)) ⊎ (y ≡ b))
one_done all left rest b within has_b rest_is y = (
  λ (a, gone). elim (same_or y b) [
    | inl e ↦ inr e
    | inr ne ↦ inl (a, λ l. gone ((rest_is y).1 (l, ne)))
  ],
  λ h. ⊎_elim {C = Has all y × (Has rest y → ⊥)}
      (λ (a, none). (a, λ r. none ((rest_is y).0 r).0))
      (λ e. (subst (Has all) (sym e) (within b has_b), λ r. ((rest_is y).0 r).1 e)) h,
)

-- all others are done where none is left
pub all_done : (R : ℕ → ℕ → Type 0) (a : ℕ) (all left : PartSet) (old new : List ℕ) → ((q : ℕ) → Has left q → ⊥) → GainsArcs R a (λ y. Has all y × (Has left y → ⊥)) old new
    → GainsArcs R a (Has all) old new
all_done R a all left old new none gained =
    more_gained R a (λ y. Has all y × (Has left y → ⊥)) (λ _. ⊥) (Has all) old new new gained (nothing_gained R a (λ _. ⊥) new (λ _ h. h))
    (λ y. (λ h. inl (h, none y), λ h. ⊎_elim {C = Has all y} (λ p. p.0) (λ wrong. absurd wrong) h))

-- ---- the whole graph

-- the arcs of those pairs of parts of w that are not both left
abbrev pub HasArcsBut : (t : Table) (w left : PartSet) (d : V3) (rows : List ℕ) → Type 0
HasArcsBut t w left d rows = (x y : ℕ) → HasArc rows x y ↔ (IsAheadIn t w d x y × (Has left x → Has left y → ⊥))

pub all_left : (t : Table) (w : PartSet) (d : V3) → HasArcsBut t w w d (replicate 32 0)
all_left t w d x y = (λ h. absurd (empty_graph x y h), λ (is, apart). absurd (apart is.a_in is.b_in))

pub none_left : (t : Table) (w left : PartSet) (d : V3) (rows : List ℕ) → ((q : ℕ) → Has left q → ⊥) → HasArcsBut t w left d rows → (x y : ℕ) → HasArc rows x y ↔ IsAheadIn t w d x y
none_left t w left d rows none arcs x y = (λ h. ((arcs x y).0 h).0, λ is. (arcs x y).1 (is, λ hx hy. none x hx))

pub row_gained : (t : Table) (w left rest : PartSet) (d : V3) (old new : List ℕ) (a : ℕ) → IsSubset left w → Has left a → ((q : ℕ) → Has rest q ↔ (Has left q × (q ≢ a)))
    → HasArcsBut t w left d old → GainsArcs (IsAhead t d) a (Has rest) old new → HasArcsBut t w rest d new
row_gained t w left rest d old new a within has_a rest_is before gained x y = (
  λ h. ⊎_elim {C = IsAheadIn t w d x y × (Has rest x → Has rest y → ⊥)}
      (λ o. let (is, apart) = (before x y).0 o in (is, λ hx hy. apart ((rest_is x).0 hx).0 ((rest_is y).0 hy).0))
      (λ (r, which). ⊎_elim {C = IsAheadIn t w d x y × (Has rest x → Has rest y → ⊥)}
      (λ (e, hy). (record { a_in = subst (Has w) (sym e) (within a has_a); b_in = within y ((rest_is y).0 hy).0; ahead = r }, λ hx _. ((rest_is x).0 hx).1 e))
      (λ (e, hx). (record { a_in = within x ((rest_is x).0 hx).0; b_in = subst (Has w) (sym e) (within a has_a); ahead = r }, λ _ hy. ((rest_is y).0 hy).1 e)) which)
      ((gained x y).0 h),
  λ (is, apart). elim (same_or x a) [
    | inl ex ↦ elim (member_or rest y) [
      | inl hy ↦ (gained x y).1 (inr (is.ahead, inl (ex, hy)))
      | inr none ↦ kept is (λ hx hy. none ((rest_is y).1 (hy, λ ey. is.ahead.across.different (ex ∙ sym ey))))
    ]
    | inr nx ↦ elim (same_or y a) [
      | inl ey ↦ elim (member_or rest x) [
        | inl hx ↦ (gained x y).1 (inr (is.ahead, inr (ey, hx)))
        | inr none ↦ kept is (λ hx hy. none ((rest_is x).1 (hx, nx)))
      ]
      | inr ny ↦ kept is (λ hx hy. apart ((rest_is x).1 (hx, nx)) ((rest_is y).1 (hy, ny)))
    ]
  ],
)
  where
    kept : IsAheadIn t w d x y → (Has left x → Has left y → ⊥) → HasArc new x y
    kept is apart = (gained x y).1 (inl ((before x y).1 (is, apart)))
