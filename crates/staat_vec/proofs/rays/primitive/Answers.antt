use Rattle.std.proofs.Common.{◌≡◌, ◌∙◌, ap, sym, subst, rules, ℕ, ℤ, pos, int_div, FitsSigned, to_z, of_z}
use Rattle.std.specs.Int.{w128}
use Rattle.std.proofs.lemmas.Int.{to_z-of_z}
use Rattle.staat_vec.specs.Vectors.{IsWithin}
use Rattle.staat_vec.specs.Primitives.{IsPrimitiveOf, content, primitive}
use Rattle.staat_vec.proofs.Primitives.{IsWithin-primitive, primitive-is}
use Rattle.staat_vec.proofs.rays.primitive.Goals as goal
use Rattle.staat_vec.proofs.VecRing.{same_vector}

-- a component without the content, as it is read back
part : (q a : ℤ) (g k : ℕ) → FitsSigned w128 q → FitsSigned w128 a → q ≡ int_div (to_z w128 (of_z w128 a)) (pos g) → g ≡ k → to_z w128 (of_z w128 q) ≡ int_div a (pos k)
part q a g k q_fits a_fits e same =
    to_z-of_z w128 q q_fits ∙ e ∙ ap (λ z. int_div z (pos g)) (to_z-of_z w128 a a_fits) ∙ ap (λ n. int_div a (pos n)) same

pub returns-clause-value : goal.returns-clause-value
unfolding primitive
returns-clause-value c =
    let v = c.args.v in
    let g = c.content-divisor.result in
    let same = c.content-divisor.ensures.value in
    same_vector _ (primitive v)
    (part c.quotient.result v.x g (content v) (search rules) (search rules) c.quotient.ensures same)
    (part c.quotient-2.result v.y g (content v) (search rules) (search rules) c.quotient-2.ensures same)
    (part c.quotient-3.result v.z g (content v) (search rules) (search rules) c.quotient-3.ensures same)

pub returns-clause-ray : goal.returns-clause-ray
returns-clause-ray c = subst (IsPrimitiveOf c.args.v) (sym (returns-clause-value c)) (primitive-is c.args.v c.requires.some)

pub returns-clause-size : goal.returns-clause-size
returns-clause-size c bound h =
    subst (IsWithin bound) (sym (returns-clause-value c)) (IsWithin-primitive bound c.args.v h)
