-- A vector that moves a part has components that a coordinate may have.
use Rattle.std.proofs.Common.{◌≡◌, ◌≤◌, ℤ, Bool, true, false, nat_le, List, [], ◌∷◌, Option, Some, None, refl, subst, arith, codes, unsigned_abs}
use Rattle.std.specs.Prelude.{option_and_then, option_map, is_some, unwrap_or}
use Rattle.std.proofs.lemmas.Bool.Decides.{nat_tests}
use Rattle.serde_json.specs.Data.{Data}
use Rattle.serde_json.specs.Find.{as_array, as_i64, as_number, get}
use Rattle.staat_vec.specs.declared.vector.TheConstants.{POINT}
use Rattle.staat_vec.specs.declared.vector.V3.{V3}
use Rattle.staat_vec.specs.Vectors.{IsWithin, origin, vector}
use Rattle.staat_manifest.specs.Placements.{as_coordinate, at_of, placement_of, small, vector_by, three_in, vector_of_member}
use Rattle.staat_manifest.specs.Values.{list_of}

small_within : (z w : ℤ) → small z ≡ Some w → unsigned_abs w ≤ POINT
small_within z w e = go (nat_le (unsigned_abs z) POINT) refl
  where
    go : (b : Bool) → nat_le (unsigned_abs z) POINT ≡ b → unsigned_abs w ≤ POINT
    go true h = let same : z ≡ w = cc in subst (λ v. unsigned_abs v ≤ POINT) same (grind (arith, nat_tests, h))
    go false h = cc

read_within : (o : Option ℤ) (w : ℤ) → option_and_then small o ≡ Some w → unsigned_abs w ≤ POINT
read_within None w e = cc
read_within (Some z) w e = small_within z w e

coordinate_within : (d : Data) (w : ℤ) → as_coordinate d ≡ Some w → unsigned_abs w ≤ POINT
unfolding as_coordinate
coordinate_within d w e = read_within (option_and_then as_i64 (as_number d)) w e

three_within : (a b c : Data) (x y z : Option ℤ) (v : V3) → as_coordinate a ≡ x → as_coordinate b ≡ y → as_coordinate c ≡ z → vector_by x y z ≡ Some v → IsWithin POINT v
three_within a b c (Some x) (Some y) (Some z) v f g h e =
    let same : vector x y z ≡ v = cc in
    subst (IsWithin POINT) same (record { x = coordinate_within a x f; y = coordinate_within b y g; z = coordinate_within c z h })
three_within a b c (Some x) (Some y) None v f g h e = cc
three_within a b c (Some x) None z v f g h e = cc
three_within a b c None y z v f g h e = cc

items_within : (ds : List Data) (v : V3) → three_in ds ≡ Some v → IsWithin POINT v
items_within [] v e = cc
items_within (a ∷ []) v e = cc
items_within (a ∷ b ∷ []) v e = cc
items_within (a ∷ b ∷ c ∷ []) v e = three_within a b c (as_coordinate a) (as_coordinate b) (as_coordinate c) v refl refl refl e
items_within (a ∷ b ∷ c ∷ d ∷ rest) v e = cc

array_within : (o : Option (List Data)) (v : V3) → option_and_then three_in o ≡ Some v → IsWithin POINT v
array_within None v e = cc
array_within (Some ds) v e = items_within ds v e

origin_within : IsWithin POINT origin
origin_within = record { x = omega arith; y = omega arith; z = omega arith }

member_within : (o : Option Data) (v : V3) → vector_of_member o ≡ Some v → IsWithin POINT v
member_within None v e = let same : origin ≡ v = cc in subst (IsWithin POINT) same origin_within
member_within (Some d) v e = array_within (option_map list_of (as_array d)) v e

placement_within : (part : Data) (o : Option V3) → placement_of part ≡ o → is_some o ≡ true → IsWithin POINT (unwrap_or o origin)
unfolding placement_of
placement_within part None e h = cc
placement_within part (Some v) e h = member_within (get (codes "at") part) v e

-- a part of good form is moved by no more than a coordinate
pub at_within : (part : Data) → is_some (placement_of part) ≡ true → IsWithin POINT (at_of part)
at_within part h = placement_within part (placement_of part) refl h
