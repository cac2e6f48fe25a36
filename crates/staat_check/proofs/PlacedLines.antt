-- Lines that are found for vectors and their opposites.
use Rattle.std.proofs.Common.{◌≡◌, ◌≢◌, ℕ, ◌<◌, inl, subst, sym, List, length, map, get_or}
use Rattle.std.proofs.lemmas.Option.{slice_get-get_or}
use Rattle.staat_vec.specs.declared.vector.V3.{V3}
use Rattle.staat_vec.specs.Primitives.{canon}
use Rattle.staat_vec.specs.Vectors.{negative, origin}
use Rattle.staat_vec.proofs.Canons.{canon-negative}
use Rattle.staat_model.specs.declared.certificate.Dir.{Dir}
use Rattle.staat_model.specs.Certificates.{HasLine, IsListed}
use Rattle.staat_check.proofs.VertexSearch.{known_by_canon}
use Rattle.staat_vec.proofs.ListLaws.{Contains-map}
use Rattle.staat_vec.proofs.Unique.{from_place}

-- the direction of a line has a line
pub line_at : (dirs : List Dir) (k : ℕ) (e : Dir) (v : V3) → k < length dirs → (get_or dirs k e).d ≡ v → HasLine dirs v
line_at dirs k e v lt is =
    let x : Dir = get_or dirs k e in
    subst (HasLine dirs) is (Contains-map (λ (dir : Dir). dir.d) dirs x (from_place dirs k x (slice_get-get_or dirs k e lt)))

-- in version 2 the line of the canonical one serves a vector and its opposite
pub listed_by_canon : (version : ℕ) (dirs : List Dir) (v : V3) → version ≡ 2 → HasLine dirs (canon v) → IsListed version dirs v
listed_by_canon version dirs v two line = (known_by_canon version (map (λ (dir : Dir). dir.d) dirs) v two).0 (inl line)

pub opposite_listed_by_canon : (version : ℕ) (dirs : List Dir) (v : V3) → v ≢ origin → version ≡ 2 → HasLine dirs (canon v) → IsListed version dirs (negative v)
opposite_listed_by_canon version dirs v some two line = listed_by_canon version dirs (negative v) two (subst (HasLine dirs) (sym (canon-negative v some)) line)
