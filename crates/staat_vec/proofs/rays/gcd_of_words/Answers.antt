use Rattle.std.proofs.Common.{◌*◌, ◌^◌, ◌<◌, ◌≤◌, sym, subst, arith, rules, w64, Fits}
use Rattle.std.specs.Int.{IsGcd}
use native.Mathlib.Nat.{mod-eq_of_lt}
use Rattle.std.proofs.lemmas.Nat.Gcd.{le_of_dvd}
use Rattle.staat_vec.proofs.OddParts.{IsGcd-by_odd_parts}
use Rattle.staat_vec.proofs.rays.gcd_of_words.Goals as goal

pub returns : goal.returns
returns c =
    let g = c.gcd_with_odd.result * 2 ^ c.common_twos.result in
    let is : IsGcd c.args.a c.args.b g = IsGcd-by_odd_parts _ _ _ _ _ _ _ _ c.odd_part.ensures.whole c.odd_part-2.ensures.whole c.common_twos.ensures c.odd_part.ensures.odd c.odd_part-2.ensures.odd c.gcd_with_odd.ensures in
    let some : 0 < c.args.a = omega arith in
    let below : g ≤ c.args.a = le_of_dvd some is.0 in
    let fits : Fits w64 c.args.a = search rules in
    let small : g < 2 ^ 64 = omega (arith, below) in
    subst (λ n. IsGcd c.args.a c.args.b n) (sym (mod-eq_of_lt small)) is
