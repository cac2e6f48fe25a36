-- Which of two arcs comes first, by the first field in which they differ.
use Rattle.staat_model.specs.declared.certificate.Arc.{Arc}
use Rattle.std.specs.declared.cmp.Ordering.TheVariants.{Less, Equal}
use Rattle.staat_model.specs.Certificates.{arc_cmp}
use Rattle.std.proofs.Common.{◌<◌, ◌≡◌, ◌∙◌, ap, refl, sym}
use Rattle.staat_vec.proofs.Comparisons.{then_less, then_same, nat_cmp-less, nat_cmp-same}

pub less_by_a : (x y : Arc) → x.a < y.a → arc_cmp x y ≡ Less
less_by_a x y h = then_less x.a y.a _ h

pub less_by_i : (x y : Arc) → x.a ≡ y.a → x.i < y.i → arc_cmp x y ≡ Less
less_by_i x y e h = then_same x.a y.a _ e ∙ then_less x.i y.i _ h

pub less_by_b : (x y : Arc) → x.a ≡ y.a → x.i ≡ y.i → x.b < y.b → arc_cmp x y ≡ Less
less_by_b x y e f h = then_same x.a y.a _ e ∙ then_same x.i y.i _ f ∙ then_less x.b y.b _ h

pub less_by_j : (x y : Arc) → x.a ≡ y.a → x.i ≡ y.i → x.b ≡ y.b → x.j < y.j → arc_cmp x y ≡ Less
less_by_j x y e f g h = then_same x.a y.a _ e ∙ then_same x.i y.i _ f ∙ then_same x.b y.b _ g ∙ nat_cmp-less x.j y.j h

pub not_before_itself : (x y : Arc) → arc_cmp x y ≡ Less → x ≡ y → ⊥
not_before_itself x y lt e = let wrong : Less ≡ Equal = sym lt ∙ ap (arc_cmp x) (sym e) ∙ then_same x.a x.a _ refl ∙ then_same x.i x.i _ refl ∙ then_same x.b x.b _ refl ∙ nat_cmp-same x.j in cc
