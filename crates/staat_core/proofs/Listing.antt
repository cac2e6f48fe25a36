-- Lists of pairs of a table.
use Rattle.std.proofs.Common.{◌≡◌, ◌≢◌, ◌⊎◌, ⊎_elim, sym, subst, List, All, Contains}
use Rattle.std.proofs.lemmas.List.Elements.{All-contains, All-weaker}
use Rattle.staat_vec.specs.declared.vector.V3.{V3}
use Rattle.staat_vec.specs.declared.words.TheConstants.{SMALL}
use Rattle.staat_vec.specs.Primitives.{canon}
use Rattle.staat_vec.specs.Vectors.{IsWithin, origin}
use Rattle.staat_vec.proofs.Primitives.{IsPrimitive-some}
use Rattle.staat_model.specs.declared.certificate.Arc.{Arc}
use Rattle.staat_model.proofs.Members.{All-from_members}
use Rattle.staat_pairs.specs.Tables.{AreTableFacets, IsTableFacet}
use Rattle.staat_pairs.proofs.BuildLemmas.{within_by_canon}

pub all_put : (P : Arc → Type 0) (xs ys : List Arc) (pair : Arc) → All P xs → P pair → ((x : Arc) → Contains ys x → Contains xs x ⊎ (x ≡ pair)) → All P ys
all_put P xs ys pair all has more = All-from_members P ys (λ x c. ⊎_elim {C = P x} (λ h. All-contains P xs x all h) (λ e. subst P (sym e) has) (more x c))

pub some_facets : (planes facets : List V3) → AreTableFacets planes facets → All (λ n. n ≢ origin) facets
some_facets planes facets are = All-weaker (IsTableFacet planes) (λ n. n ≢ origin) (λ n h. IsPrimitive-some n h.primitive) facets are.each

-- facets on small planes are small
pub low_facets : (planes facets : List V3) → AreTableFacets planes facets → All (IsWithin SMALL) planes → All (IsWithin SMALL) facets
low_facets planes facets are low = All-weaker (IsTableFacet planes) (IsWithin SMALL) (λ n h. within_by_canon SMALL n (All-contains (IsWithin SMALL) planes (canon n) low h.plane)) facets are.each
