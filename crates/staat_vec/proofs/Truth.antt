-- Truth values: what a test by `&&`, `||` or `not` tells.
use Rattle.std.proofs.Common.{Bool, false, refl, true, ◌≡◌, sym, not}
use Rattle.std.proofs.lemmas.Bool.{and_parts, and_right, both_ways, not-false, not-true}
use Rattle.std.specs.Prelude.{◌&&◌, ◌==◌, ◌||◌, IsTrue}

pub and_split : (a b : Bool) → (a && b) ≡ true → (a ≡ true) × (b ≡ true)
and_split = and_parts

pub and_true : (b : Bool) → (b && true) ≡ b
and_true true = refl
and_true false = refl

pub and_false : (b : Bool) → (b && false) ≡ false
and_false b = and_right b false refl

pub and_zero_is_one : (b : Bool) → (b && (0 == 1)) ≡ false
and_zero_is_one = and_false

pub or_false : (b : Bool) → (b || false) ≡ b
or_false true = refl
or_false false = refl

pub same_truth : (a b : Bool) → (a ≡ true → b ≡ true) → (b ≡ true → a ≡ true) → a ≡ b
same_truth true b f g = sym (f refl)
same_truth false true f g = g refl
same_truth false false f g = refl

pub from_not_false : (b : Bool) → not b ≡ false → b ≡ true
from_not_false = not-false

pub from_not_true : (b : Bool) → not b ≡ true → b ≡ false
from_not_true = not-true

pub not_true_clash : (b : Bool) → not b ≡ true → b ≡ true → ⊥
not_true_clash b e f = both_ways b (not-true b e) f

pub true_not_clash : (b : Bool) → b ≡ true → not b ≡ true → ⊥
true_not_clash b a c = not_true_clash b c a

pub false_true_clash : (b : Bool) → b ≡ false → b ≡ true → ⊥
false_true_clash = both_ways

pub false_test_clash : (b : Bool) → b ≡ false → IsTrue b → ⊥
false_test_clash b e h = cc
