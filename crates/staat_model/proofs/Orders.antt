-- The orders of arcs and of signs are total, and only equal values tie.
use Rattle.std.proofs.Common.{◌≡◌, refl}
use Rattle.std.specs.Cmp.{IsTotalOrder, nat_cmp_total}
use Rattle.std.proofs.lemmas.Cmp.{lists_total, on_total, then_total}
use Rattle.std.specs.FinMap.{IsAntisymmetric, nat_cmp-IsAntisymmetric, slice_cmp-IsAntisymmetric}
use Rattle.std.specs.Ordering.{nat_cmp, ordering_then}
use Rattle.std.specs.declared.cmp.Ordering.TheVariants.{Equal}
use Rattle.staat_vec.specs.declared.vector.Sign.{Sign}
use Rattle.staat_vec.specs.declared.vector.Sign.TheVariants.{Neg, Zero, Pos}
use Rattle.staat_model.specs.Certificates.{arc_cmp}
use Rattle.staat_model.specs.Cells.{sign_place, signs_cmp}
use Rattle.staat_vec.proofs.Comparisons.{then_both_equal}

pub arc_total : IsTotalOrder arc_cmp
arc_total = then_total (on_total (λ p. p.a) nat_cmp_total) (then_total (on_total (λ p. p.i) nat_cmp_total) (then_total (on_total (λ p. p.b) nat_cmp_total) (on_total (λ p. p.j) nat_cmp_total)))

pub arc_exact : IsAntisymmetric arc_cmp
arc_exact p q e =
    let a : (nat_cmp p.a q.a ≡ Equal) × (ordering_then (nat_cmp p.i q.i) (ordering_then (nat_cmp p.b q.b) (nat_cmp p.j q.j)) ≡ Equal) = then_both_equal _ _ e in
    let i : (nat_cmp p.i q.i ≡ Equal) × (ordering_then (nat_cmp p.b q.b) (nat_cmp p.j q.j) ≡ Equal) = then_both_equal _ _ a.1 in
    let b : (nat_cmp p.b q.b ≡ Equal) × (nat_cmp p.j q.j ≡ Equal) = then_both_equal _ _ i.1 in
    λ t. record {
      a = nat_cmp-IsAntisymmetric p.a q.a a.0 t;
      i = nat_cmp-IsAntisymmetric p.i q.i i.0 t;
      b = nat_cmp-IsAntisymmetric p.b q.b b.0 t;
      j = nat_cmp-IsAntisymmetric p.j q.j b.1 t;
    }

sign_exact : IsAntisymmetric (λ (s t : Sign). nat_cmp (sign_place s) (sign_place t))
sign_exact Neg Neg e = refl
sign_exact Zero Zero e = refl
sign_exact Pos Pos e = refl
sign_exact s t e = absurd cc

pub signs_total : IsTotalOrder signs_cmp
signs_total = lists_total (on_total sign_place nat_cmp_total)

pub signs_exact : IsAntisymmetric signs_cmp
signs_exact = slice_cmp-IsAntisymmetric sign_exact
