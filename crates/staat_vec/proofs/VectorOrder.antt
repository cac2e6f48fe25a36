-- The order of vectors is total, and tells vectors apart.
use Rattle.std.proofs.Common.{◌≡◌, refl, sym, ap, subst, ◌∙◌, ◌≢◌, Bool, true, ◌&&◌}
use Rattle.std.specs.Ordering.{eq_by_cmp, int_cmp, is_eq, ordering_then}
use Rattle.std.specs.declared.cmp.Ordering.TheVariants.{Less, Equal}
use Rattle.std.specs.Cmp.{IsEquivalence, IsTotalOrder, int_cmp_total, int_cmp_is, tied_then}
use Rattle.std.specs.FinMap.{IsAntisymmetric, int_cmp-IsAntisymmetric}
use Rattle.std.proofs.lemmas.Cmp.{eq_by_cmp_equiv, on_total, then_total, tied_itself}
use Rattle.staat_vec.specs.Vectors.{vector_cmp}
use Rattle.staat_vec.proofs.Comparisons.{from_is_eq, then_both_equal}
use Rattle.staat_vec.specs.declared.vector.V3.{V3}

pub vector_total : IsTotalOrder vector_cmp
vector_total = then_total (on_total (λ v. v.x) int_cmp_total) (then_total (on_total (λ v. v.y) int_cmp_total) (on_total (λ v. v.z) int_cmp_total))

-- vectors of which none comes first are one
pub vector_exact : IsAntisymmetric vector_cmp
vector_exact a b e =
    let x : (int_cmp a.x b.x ≡ Equal) × (ordering_then (int_cmp a.y b.y) (int_cmp a.z b.z) ≡ Equal) = then_both_equal _ _ e in
    let y : (int_cmp a.y b.y ≡ Equal) × (int_cmp a.z b.z ≡ Equal) = then_both_equal _ _ x.1 in
    λ i. record {
      x = int_cmp-IsAntisymmetric a.x b.x x.0 i;
      y = int_cmp-IsAntisymmetric a.y b.y y.0 i;
      z = int_cmp-IsAntisymmetric a.z b.z y.1 i;
    }

pub vector_not_below_itself : (u : V3) → vector_cmp u u ≡ Less → ⊥
vector_not_below_itself u e = let same : vector_cmp u u ≡ Equal = tied_itself vector_total u in cc

pub vector_cmp-same : (g : V3) → vector_cmp g g ≡ Equal
vector_cmp-same g = (λ i. ordering_then (sym (int_cmp_is g.x g.x Equal refl) i) (ordering_then (sym (int_cmp_is g.y g.y Equal refl) i) (sym (int_cmp_is g.z g.z Equal refl) i)))

pub less_apart : (g h : V3) → vector_cmp g h ≡ Less → g ≢ h
less_apart g h less e = let same : vector_cmp g h ≡ Equal = ap (vector_cmp g) (sym e) ∙ vector_cmp-same g in cc

-- ---- the test of the program

abbrev pub vector_eq : V3 → V3 → Bool
vector_eq x y = is_eq (int_cmp x.x y.x) && (is_eq (int_cmp x.y y.y) && is_eq (int_cmp x.z y.z))

pub vector_ties : (x y : V3) → vector_eq x y ≡ eq_by_cmp vector_cmp x y
vector_ties x y = ap (λ b. is_eq (int_cmp x.x y.x) && b) (tied_then (int_cmp x.y y.y) (int_cmp x.z y.z)) ∙ tied_then (int_cmp x.x y.x) (ordering_then (int_cmp x.y y.y) (int_cmp x.z y.z))

pub vector_equiv : IsEquivalence vector_eq
vector_equiv = let p : vector_eq ≡ eq_by_cmp vector_cmp = λ i x y. vector_ties x y i in subst (λ F. IsEquivalence F) (sym p) (eq_by_cmp_equiv vector_total)

pub vector_same : (x y : V3) → vector_eq x y ≡ true → x ≡ y
vector_same x y e = vector_exact x y (from_is_eq (vector_cmp x y) (sym (vector_ties x y) ∙ e))
