-- Options: what is found is one thing, and what a test lets through.
use Rattle.std.specs.Prelude.{Some, None, Option, option_map, cond}
use Rattle.std.proofs.Common.{◌≡◌, refl, Bool, ap, true, false}

pub none_some : {X : Type 0} (x : X) → None ≡ Some x → ⊥
none_some x e = cc

pub some_injective : {X : Type 0} (x y : X) → Some x ≡ Some y → x ≡ y
some_injective x y e = cc

pub from_some : {X : Type 0} {x y : X} → Some x ≡ Some y → x ≡ y
from_some e = cc

pub one_answer : {X : Type 0} (o : Option X) (x y : X) → o ≡ Some x → o ≡ Some y → x ≡ y
one_answer o x y e f = cc

pub option_map_found : {X Y : Type 0} (f : X → Y) (o : Option X) (y : Y) → option_map f o ≡ Some y → (x : X) × (o ≡ Some x) × (f x ≡ y)
option_map_found f None y h = cc
option_map_found f (Some x) y h = (x, refl, cc)

pub let_through : {X : Type 0} (b : Bool) (x : X) → b ≡ true → cond b (Some x) None ≡ Some x
let_through b x e = ap (λ t. cond t (Some x) None) e

-- a test that let the answer through
pub test_passed : {X : Type 0} (b : Bool) (x : Option X) (y : X) → cond b x None ≡ Some y → (b ≡ true) × (x ≡ Some y)
test_passed true x y e = (refl, e)
test_passed false x y e = cc
