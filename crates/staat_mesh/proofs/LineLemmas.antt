-- Positions on one line, and planes that hold the same positions.
use Rattle.std.proofs.Common.{◌≡◌, ◌≢◌, List, [], ◌∷◌, All, Contains, ap, sym, ◌∙◌}
use Rattle.std.proofs.lemmas.List.Elements.{All-contains}
use Rattle.staat_vec.specs.declared.vector.V3.{V3}
use Rattle.staat_vec.specs.Vectors.{origin, minus, cross}
use Rattle.staat_vec.proofs.VecRing.{values, ring3, v0, v1, v2, v3, originE, crossE, minusE}
use Rattle.staat_mesh.specs.Sides.{OnLine}
use Rattle.staat_vec.proofs.VectorLaws.{parallel_cross}

-- ---- one line

along : (d a b c : V3) → cross d (minus b a) ≡ minus (cross d (minus b c)) (cross d (minus a c))
along d a b c = ring3 (values (d ∷ a ∷ b ∷ c ∷ []) []) (crossE v0 (minusE v2 v1)) (minusE (crossE v0 (minusE v2 v3)) (crossE v0 (minusE v1 v3))) (tt, tt, tt)

along_line : (d a b c : V3) → cross d (minus b c) ≡ origin → cross d (minus a c) ≡ origin → cross d (minus b a) ≡ origin
along_line d a b c e f = along d a b c ∙ (λ i. minus (e i) (f i))

-- positions on a line through a are on one line
pub on_line_through : (d a : V3) (ps : List V3) → d ≢ origin → All (λ p. cross d (minus p a) ≡ origin) ps → OnLine ps
on_line_through d a ps some all = λ x y z hx hy hz.
    let at : (p : V3) → Contains ps p → cross d (minus p a) ≡ origin = λ p h. All-contains (λ q. cross d (minus q a) ≡ origin) ps p all h in
    parallel_cross d (minus y x) (minus z x) some (along_line d x y a (at y hy) (at x hx)) (along_line d x z a (at z hz) (at x hx))

pub no_way : (a w : V3) → cross (minus a a) w ≡ origin
no_way a w = ring3 (values (a ∷ w ∷ []) []) (crossE (minusE v0 v0) v1) originE (tt, tt, tt)

-- so are those at one place
pub on_line_at : (a : V3) (ps : List V3) → All (λ p. p ≡ a) ps → OnLine ps
on_line_at a ps all = λ x y z hx hy hz.
    let at : (p : V3) → Contains ps p → p ≡ a = λ p h. All-contains (λ q. q ≡ a) ps p all h in
    ap (λ q. cross (minus q x) (minus z x)) (at y hy ∙ sym (at x hx)) ∙ no_way x (minus z x)
