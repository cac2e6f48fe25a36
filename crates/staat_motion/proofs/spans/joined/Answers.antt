use Rattle.std.proofs.Common.{◌≡◌, ◌⊎◌, ℤ, ◌≤ℤ◌, FitsSigned, of_z, rules, subst, sym, to_z}
use Rattle.std.specs.Int.{w128}
use Rattle.std.proofs.lemmas.Int.{to_z-of_z}
use Rattle.staat_motion.proofs.spans.joined.Goals as goal

abbrev read : ℤ → ℤ
read z = to_z w128 (of_z w128 z)

-- a fact of three numbers as they are handed on is one of the numbers
read_three : (P : ℤ → ℤ → ℤ → Type 0) (r a b : ℤ) → FitsSigned w128 r → FitsSigned w128 a → FitsSigned w128 b
    → P r (read a) (read b) → P (read r) a b
read_three P r a b f g h k =
    subst (λ z. P z a b) (sym (to_z-of_z w128 r f)) (subst (λ x. P r x b) (to_z-of_z w128 a g) (subst (λ y. P r (read a) y) (to_z-of_z w128 b h) k))

pub returns-clause-low : goal.returns-clause-low
returns-clause-low c = read_three (λ r a b. (r ≡ a) ⊎ (r ≡ b)) c.lesser.result c.args.a.low c.args.b.low (search rules) (search rules) (search rules) c.lesser.ensures.either

pub returns-clause-high : goal.returns-clause-high
returns-clause-high c = read_three (λ r a b. (r ≡ a) ⊎ (r ≡ b)) c.greater.result c.args.a.high c.args.b.high (search rules) (search rules) (search rules) c.greater.ensures.either

pub returns-clause-low_a : goal.returns-clause-low_a
returns-clause-low_a c = read_three (λ r a b. r ≤ℤ a) c.lesser.result c.args.a.low c.args.b.low (search rules) (search rules) (search rules) c.lesser.ensures.first

pub returns-clause-low_b : goal.returns-clause-low_b
returns-clause-low_b c = read_three (λ r a b. r ≤ℤ b) c.lesser.result c.args.a.low c.args.b.low (search rules) (search rules) (search rules) c.lesser.ensures.second

pub returns-clause-high_a : goal.returns-clause-high_a
returns-clause-high_a c = read_three (λ r a b. a ≤ℤ r) c.greater.result c.args.a.high c.args.b.high (search rules) (search rules) (search rules) c.greater.ensures.first

pub returns-clause-high_b : goal.returns-clause-high_b
returns-clause-high_b c = read_three (λ r a b. b ≤ℤ r) c.greater.result c.args.a.high c.args.b.high (search rules) (search rules) (search rules) c.greater.ensures.second
