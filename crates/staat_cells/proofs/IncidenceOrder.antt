-- The order of incidences is total, and tells incidences apart.
use Rattle.std.proofs.Common.{◌≡◌, ℕ, ◌∙◌, sym, ap, subst, Bool, true, ◌&&◌}
use Rattle.std.specs.Ordering.{eq_by_cmp, is_eq, nat_cmp, ordering_then}
use Rattle.std.specs.declared.cmp.Ordering.{Ordering}
use Rattle.std.specs.Cmp.{IsEquivalence, IsTotalOrder, tied_then, unsigned_tied}
use Rattle.std.specs.FinMap.{IsAntisymmetric, nat_cmp-IsAntisymmetric}
use Rattle.std.proofs.lemmas.Cmp.{eq_by_cmp_equiv, on_total, then_total, nat_cmp_total}
use Rattle.staat_cells.specs.declared.incidence.Incidence.{Incidence}
use Rattle.staat_cells.specs.Packing.{incidence_cmp}
use Rattle.staat_vec.proofs.Comparisons.{then_both_equal, from_is_eq}
use Rattle.staat_cells.specs.contracts.incidence.IncidencePartialEq.TheImpl as impl

pub incidence_total : IsTotalOrder incidence_cmp
incidence_total = then_total (on_total (λ x. x.a) nat_cmp_total) (then_total (on_total (λ x. x.b) nat_cmp_total) (then_total (on_total (λ x. x.c) nat_cmp_total) (then_total (on_total (λ x. x.d) nat_cmp_total) (on_total (λ x. x.of) nat_cmp_total))))

pub incidence_exact : IsAntisymmetric incidence_cmp
incidence_exact x y e =
    let (a, r) = then_both_equal (nat_cmp x.a y.a) _ e in
    let (b, s) = then_both_equal (nat_cmp x.b y.b) _ r in
    let (c, t) = then_both_equal (nat_cmp x.c y.c) _ s in
    let (d, of) = then_both_equal (nat_cmp x.d y.d) _ t in
    λ i. record {
      a = nat_cmp-IsAntisymmetric x.a y.a a i;
      b = nat_cmp-IsAntisymmetric x.b y.b b i;
      c = nat_cmp-IsAntisymmetric x.c y.c c i;
      d = nat_cmp-IsAntisymmetric x.d y.d d i;
      of = nat_cmp-IsAntisymmetric x.of y.of of i;
    }

abbrev pub test : Incidence → Incidence → Bool
test x y = impl.ghosts.eq x y

pub ties : (x y : Incidence) → test x y ≡ eq_by_cmp incidence_cmp x y
ties x y =
    let eq : ℕ → ℕ → Bool = λ m n. is_eq (nat_cmp m n) in
    let of : Ordering = nat_cmp x.of y.of in
    let d : Ordering = ordering_then (nat_cmp x.d y.d) of in
    let c : Ordering = ordering_then (nat_cmp x.c y.c) d in
    let b : Ordering = ordering_then (nat_cmp x.b y.b) c in
    (λ i. sym (unsigned_tied x.a y.a) i && (sym (unsigned_tied x.b y.b) i && (sym (unsigned_tied x.c y.c) i && (sym (unsigned_tied x.d y.d) i && sym (unsigned_tied x.of y.of) i))))
    ∙ ap (λ t. eq x.a y.a && (eq x.b y.b && (eq x.c y.c && t))) (tied_then (nat_cmp x.d y.d) of)
    ∙ ap (λ t. eq x.a y.a && (eq x.b y.b && t)) (tied_then (nat_cmp x.c y.c) d)
    ∙ ap (λ t. eq x.a y.a && t) (tied_then (nat_cmp x.b y.b) c)
    ∙ tied_then (nat_cmp x.a y.a) b

pub test_equivalence : IsEquivalence test
test_equivalence = let p : test ≡ eq_by_cmp incidence_cmp = λ i x y. ties x y i in subst (λ F. IsEquivalence F) (sym p) (eq_by_cmp_equiv incidence_total)

pub test_exact : (x y : Incidence) → test x y ≡ true → x ≡ y
test_exact x y e = incidence_exact x y (from_is_eq (incidence_cmp x y) (sym (ties x y) ∙ e))
