-- Where a part is to stand: what its member `at` says.
use Rattle.std.specs.Prelude.{ℤ, List, [], ◌∷◌, Option, Some, None, if◌then◌else◌, codes, nat_le}
use Rattle.std.specs.Prelude.{option_and_then}
use Rattle.std.specs.Prelude.{option_map, unsigned_abs, unwrap_or}
use Rattle.serde_json.specs.Data.{Data}
use Rattle.serde_json.specs.Find.{as_array, as_i64, as_number, get}
use Rattle.staat_vec.specs.declared.vector.TheConstants.{POINT}
use Rattle.staat_vec.specs.declared.vector.V3.{V3}
use Rattle.staat_vec.specs.Vectors.{origin, vector}
use Rattle.staat_manifest.specs.Values.{list_of}

-- the number, where it is not too great for a coordinate
abbrev pub small : ℤ → Option ℤ
small z = if nat_le (unsigned_abs z) POINT then Some z else None

-- the coordinate that the value is
unfoldable pub as_coordinate : Data → Option ℤ
as_coordinate d = option_and_then small (option_and_then as_i64 (as_number d))

abbrev pub vector_by : Option ℤ → Option ℤ → Option ℤ → Option V3
vector_by (Some x) (Some y) (Some z) = Some (vector x y z)
vector_by (Some x) (Some y) None = None
vector_by (Some x) None z = None
vector_by None y z = None

-- the vector that exactly three coordinates are
abbrev pub three_in : List Data → Option V3
three_in [] = None
three_in (x ∷ []) = None
three_in (x ∷ y ∷ []) = None
three_in (x ∷ y ∷ z ∷ []) = vector_by (as_coordinate x) (as_coordinate y) (as_coordinate z)
three_in (x ∷ y ∷ z ∷ w ∷ rest) = None

abbrev pub vector_of_value : Data → Option V3
vector_of_value d = option_and_then three_in (option_map list_of (as_array d))

abbrev pub vector_of_member : Option Data → Option V3
vector_of_member None = Some origin
vector_of_member (Some d) = vector_of_value d

-- the vector that the member `at` is, and the zero vector where there is none
unfoldable pub placement_of : Data → Option V3
placement_of part = vector_of_member (get (codes "at") part)

-- the same for a part of good form
abbrev pub at_of : Data → V3
at_of part = unwrap_or (placement_of part) origin
