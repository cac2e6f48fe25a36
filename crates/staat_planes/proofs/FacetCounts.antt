-- A list of facets has at most twice as many members as there are planes.
use Rattle.std.proofs.Common.{◌*◌, ◌≤◌, arith, ap, ◌∙◌, subst, List, ◌++◌, length, Contains, ⊎_elim, length-append}
use Rattle.std.specs.Prelude.{map}
use Rattle.std.proofs.lemmas.List.{length-map}
use Rattle.std.proofs.lemmas.List.Elements.{All-contains, Contains-append_left, Contains-append_right}
use Rattle.staat_vec.specs.declared.vector.V3.{V3}
use Rattle.staat_vec.specs.Primitives.{canon}
use Rattle.staat_vec.specs.Vectors.{negative}
use Rattle.staat_vec.proofs.Canons.{canon-either, negative-negative}
use Rattle.staat_pairs.specs.Tables.{AreTableFacets, IsTableFacet}
use Rattle.staat_vec.proofs.ListLaws.{Contains-map}
use Rattle.staat_vec.proofs.VectorLists.{length-le_from_contains}

-- a vector is its canonical one or the negative of that
either_way : (planes : List V3) (n : V3) → Contains planes (canon n) → Contains (planes ++ map negative planes) n
either_way planes n c =
    ⊎_elim
    (λ e. Contains-append_left planes (map negative planes) n (subst (Contains planes) e c))
    (λ e. Contains-append_right planes (map negative planes) n (subst (Contains (map negative planes)) (ap negative e ∙ negative-negative n) (Contains-map negative planes (canon n) c)))
    (canon-either n)

pub few_facets : (planes facets : List V3) → AreTableFacets planes facets → length facets ≤ 2 * length planes
few_facets planes facets are =
    let le = length-le_from_contains facets (planes ++ map negative planes) are.ascending (λ n c. let f : IsTableFacet planes n = All-contains (IsTableFacet planes) facets n are.each c in either_way planes n f.plane) in
    omega (arith, le, length-append planes (map negative planes), length-map planes negative)
