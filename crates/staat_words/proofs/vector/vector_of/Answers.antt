use Rattle.std.proofs.Common.{◌≡◌, ◌≢◌, ◌<◌, ◌≤◌, ◌^◌, ◌∙◌, ◌&&◌, ℕ, ℤ, Bool, true, false, Option, Some, None, IfSome, ap, pos, refl, subst, sym}
use Rattle.std.proofs.Common.{arith, of_z, to_z, unsigned_abs}
use Rattle.std.specs.Int.{w128}
use Rattle.std.proofs.lemmas.Int.{ints, to_z-of_z}
use Rattle.std.specs.Prelude.{if◌then◌else◌}
use Rattle.std.specs.Ordering.{int_eq}
use Rattle.staat_vec.proofs.Truth.{false_true_clash}
use Rattle.staat_vec.specs.Vectors.{IsWithin, origin, vector}
use Rattle.staat_vec.specs.declared.vector.V3.{V3}
use Rattle.staat_words.specs.Spelled.{nonzero, vector_within}
use Rattle.staat_words.proofs.Steps.{ended, went_on}
use Rattle.staat_words.proofs.vector.vector_of.Goals as goal

abbrev is_zero : V3 → Bool
is_zero v = int_eq v.x (pos 0) && (int_eq v.y (pos 0) && int_eq v.z (pos 0))

-- what holds of a vector that is not zero holds of the one that is taken
taken : (P : V3 → Type 0) (v : V3) (found : Option V3) → found ≡ nonzero v → (is_zero v ≡ false → P v) → IfSome found P
taken P v found same holds = subst (λ o. IfSome o P) (sym same) (at (is_zero v) holds) where
  at : (b : Bool) → (b ≡ false → P v) → IfSome (if b then None else Some v) P
  at true h = tt
  at false h = h refl

-- a small number is what is read back of it
read_back : (most : ℕ) (z : ℤ) → most < 2 ^ 100 → unsigned_abs z ≤ most → to_z w128 (of_z w128 z) ≡ z
read_back most z few bound = grind (arith, ints, to_z-of_z)

vector_back : (most : ℕ) (x y z : ℤ) → most < 2 ^ 100 → unsigned_abs x ≤ most → unsigned_abs y ≤ most → unsigned_abs z ≤ most
    → vector (to_z w128 (of_z w128 x)) (to_z w128 (of_z w128 y)) (to_z w128 (of_z w128 z)) ≡ vector x y z
vector_back most x y z few in_x in_y in_z = rw (read_back most x few in_x) rw (read_back most y few in_y) rw (read_back most z few in_z) refl

pub returns-in_err-first-clause-exact : goal.returns-in_err-first-clause-exact
unfolding vector_within
returns-in_err-first-clause-exact c = ended _ _ _ c.in_err-first.ensures c.from_residual.ensures

pub returns-in_err-second-clause-exact : goal.returns-in_err-second-clause-exact
unfolding vector_within
returns-in_err-second-clause-exact c = went_on _ _ _ _ c.in_ok-first.ensures (
    ended _ _ _ c.in_err-second.ensures c.from_residual-in_err-second.ensures)

pub returns-in_err-x-clause-exact : goal.returns-in_err-x-clause-exact
unfolding vector_within
returns-in_err-x-clause-exact c = went_on _ _ _ _ c.in_ok-first.ensures (went_on _ _ _ _ c.in_ok-second.ensures (
    ended _ _ _ c.in_err-x.ensures.exact c.from_residual-in_err-x.ensures))

pub returns-in_err-y-clause-exact : goal.returns-in_err-y-clause-exact
unfolding vector_within
returns-in_err-y-clause-exact c = went_on _ _ _ _ c.in_ok-first.ensures (went_on _ _ _ _ c.in_ok-second.ensures (
    went_on _ _ _ _ c.in_ok-x.ensures.exact (
    ended _ _ _ c.in_err-y.ensures.exact c.from_residual-in_err-y.ensures)))

pub returns-in_err-z-clause-exact : goal.returns-in_err-z-clause-exact
unfolding vector_within
returns-in_err-z-clause-exact c = went_on _ _ _ _ c.in_ok-first.ensures (went_on _ _ _ _ c.in_ok-second.ensures (
    went_on _ _ _ _ c.in_ok-x.ensures.exact (went_on _ _ _ _ c.in_ok-y.ensures.exact (
    ended _ _ _ c.in_err-z.ensures.exact c.from_residual-in_err-z.ensures))))

-- what is answered, by the three numbers that were read
by_numbers : (c : goal.After-nonzero) → c.nonzero.result ≡ nonzero (vector c.in_ok-x.x c.in_ok-y.y c.in_ok-z.z)
by_numbers c = c.nonzero.ensures ∙ ap nonzero (vector_back c.args.most c.in_ok-x.x c.in_ok-y.y c.in_ok-z.z c.requires
    c.in_ok-x.ensures.found.bound c.in_ok-y.ensures.found.bound c.in_ok-z.ensures.found.bound)

pub returns-clause-exact : goal.returns-clause-exact
unfolding vector_within
returns-clause-exact c = went_on _ _ _ _ c.in_ok-first.ensures (went_on _ _ _ _ c.in_ok-second.ensures (
    went_on _ _ _ _ c.in_ok-x.ensures.exact (went_on _ _ _ _ c.in_ok-y.ensures.exact (
    went_on _ _ _ _ c.in_ok-z.ensures.exact (by_numbers c)))))

pub returns-clause-bound : goal.returns-clause-bound
returns-clause-bound c =
    taken (IsWithin c.args.most) (vector c.in_ok-x.x c.in_ok-y.y c.in_ok-z.z) c.nonzero.result (by_numbers c) (λ _. record {
      x = c.in_ok-x.ensures.found.bound;
      y = c.in_ok-y.ensures.found.bound;
      z = c.in_ok-z.ensures.found.bound;
    })

pub returns-clause-moves : goal.returns-clause-moves
returns-clause-moves c =
    taken (λ v. v ≢ origin) (vector c.in_ok-x.x c.in_ok-y.y c.in_ok-z.z) c.nonzero.result (by_numbers c) (
    λ not_zero is_origin. false_true_clash _ not_zero (ap is_zero is_origin))
