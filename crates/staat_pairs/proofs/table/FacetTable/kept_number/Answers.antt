use Rattle.std.proofs.Common.{◌≡◌, ◌<◌, ◌∙◌, ℕ, List, [], ap, get_or, length, refl, subst, sym}
use Rattle.std.specs.Prelude.{Some, flat_map, slice_get}
use Rattle.std.proofs.lemmas.Option.{slice_get-get_or, slice_get_within}
use Rattle.staat_vec.specs.declared.vector.V3.{V3}
use Rattle.staat_vec.specs.Primitives.{canon}
use Rattle.staat_vec.specs.Vectors.{origin}
use Rattle.staat_vec.proofs.ListLaws.{place_is}
use Rattle.staat_vec.proofs.Options.{some_injective}
use Rattle.staat_pairs.specs.PlaneNumbers.{ArePlaneNumbers}
use Rattle.staat_pairs.specs.Tables.{IsTable, facets_of}
use Rattle.staat_pairs.proofs.TableLemmas.{kept_is}
use Rattle.staat_pairs.proofs.table.FacetTable.kept_number.Goals as goal

-- a number beside a facet is that of its plane
number_within : (planes facets : List V3) (numbers : List ℕ) (p : ℕ) (n : V3) → ArePlaneNumbers planes facets numbers → slice_get facets p ≡ Some n → p < length numbers
number_within planes facets numbers p n are at = subst (λ l. p < l) (sym are.count) (slice_get_within facets p n at)

number_is : (planes facets : List V3) (numbers : List ℕ) (p k : ℕ) (n : V3) → ArePlaneNumbers planes facets numbers → slice_get facets p ≡ Some n → k ≡ get_or numbers p k → slice_get planes k ≡ Some (canon n)
number_is planes facets numbers p k n are at e =
    let (j, here, there) = are.each p n at in
    let same : j ≡ k = some_injective j k (sym here ∙ place_is numbers p k (number_within planes facets numbers p n are at) e) in
    subst (λ m. slice_get planes m ≡ Some (canon n)) same there

pub place-requires : goal.place-requires
place-requires c =
    let same = kept_is c.args.self.now c.args.arc (get_or c.self.inside.facets c.slot-slot.result []) c.self.inside.facets c.slot-slot.result c.requires.order (ap (λ t. t.facets) c.self.view_is) c.slot-slot.ensures.is refl in
    subst (λ l. c.args.m < length l) (sym same) c.requires.place

pub index-requires : goal.index-requires
index-requires c =
    let kept : List V3 = get_or c.self.inside.facets c.slot-slot.result [] in
    let same : kept ≡ facets_of c.args.self.now c.args.arc = kept_is c.args.self.now c.args.arc (get_or c.self.inside.facets c.slot-slot.result []) c.self.inside.facets c.slot-slot.result c.requires.order (ap (λ t. t.facets) c.self.view_is) c.slot-slot.ensures.is refl in
    let n : V3 = get_or kept c.args.m origin in
    let at = c.place.ensures n (slice_get-get_or kept c.args.m origin (subst (λ l. c.args.m < length l) (sym same) c.requires.place)) in
    subst (λ l. c.place.result < l) (sym c.self.inside.numbers.ok.0)
    (number_within c.self.inside.planes.items (flat_map (λ l. l) c.self.inside.facets) c.self.inside.numbers.items c.place.result n c.self.invariant.numbers_are at)

pub returns-clause-table : goal.returns-clause-table
returns-clause-table c = subst IsTable c.self.view_is c.self.invariant.table

pub returns-clause-is : goal.returns-clause-is
returns-clause-is c n at =
    let kept : List V3 = get_or c.self.inside.facets c.slot-slot.result [] in
    let same : kept ≡ facets_of c.args.self.now c.args.arc = kept_is c.args.self.now c.args.arc (get_or c.self.inside.facets c.slot-slot.result []) c.self.inside.facets c.slot-slot.result c.requires.order (ap (λ t. t.facets) c.self.view_is) c.slot-slot.ensures.is refl in
    let found = c.place.ensures n (ap (λ l. slice_get l c.args.m) same ∙ at) in
    subst (λ ps. slice_get ps c.index.result.now ≡ Some (canon n)) (ap (λ t. t.planes) c.self.view_is)
    (number_is c.self.inside.planes.items (flat_map (λ l. l) c.self.inside.facets) c.self.inside.numbers.items c.place.result c.index.result.now n c.self.invariant.numbers_are found c.index.ensures)
