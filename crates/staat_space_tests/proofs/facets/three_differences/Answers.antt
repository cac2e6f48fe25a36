use Rattle.std.proofs.Common.{◌≡◌, ap, arith, get_or, length, pos, unsigned_abs}
use Rattle.staat_vec.specs.declared.vector.V3.{V3}
use Rattle.staat_space_tests.proofs.facets.three_differences.Goals as goal

abbrev first : V3
first = record { x = pos 1; y = pos 0; z = pos 0 }

pub furthest-requires-clause-some : goal.furthest-requires-clause-some
furthest-requires-clause-some g c =
    let same = c.as_slice.ensures in
    (0, first, (let e = ap length same in omega (arith, e)), ap (λ l. get_or l 0 first) same, λ e. (let y : 1 ≡ 0 = ap (λ (v : V3). unsigned_abs v.y) e in omega (arith, y)))
