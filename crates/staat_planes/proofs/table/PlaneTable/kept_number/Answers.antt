use Rattle.std.proofs.Common.{◌≡◌, ◌<◌, ◌≤◌, ℕ, arith, get_or, length, subst, sym}
use Rattle.std.specs.Prelude.{Some, slice_get}
use Rattle.staat_vec.specs.declared.vector.V3.{V3}
use Rattle.staat_model.specs.declared.certificate.Arc.{Arc}
use Rattle.std.proofs.lemmas.Option.{slice_get-get_or, slice_get_within}
use Rattle.staat_vec.specs.Primitives.{canon}
use Rattle.staat_vec.specs.Vectors.{origin}
use Rattle.staat_pairs.specs.Tables.{Table, facets_of}
use Rattle.staat_planes.proofs.table.PlaneTable.kept_number.Goals as goal

-- a number of a plane is one of those that the table has
number_within : (t : Table) (k m : ℕ) (arc : Arc) → m < length (facets_of t arc) → ((n : V3) → slice_get (facets_of t arc) m ≡ Some n → slice_get t.planes k ≡ Some (canon n)) → k < length t.planes
number_within t k m arc lt is =
    let n = get_or (facets_of t arc) m origin in
    slice_get_within t.planes k (canon n) (is n (slice_get-get_or (facets_of t arc) m origin lt))

pub overflow_cast-result : goal.overflow_cast-result
overflow_cast-result c =
    let lt = subst (λ (t : Table). c.args.m < length (facets_of t c.args.arc)) (sym c.self.view_is) c.requires.place in
    let within = number_within c.self.inside.table c.kept_number.result c.args.m c.args.arc lt c.kept_number.ensures.is in
    let most : length c.self.inside.table.planes ≤ 1024 = c.self.invariant in
    omega (arith, within, most)

pub returns-clause-within : goal.returns-clause-within
returns-clause-within c =
    let lt = subst (λ (t : Table). c.args.m < length (facets_of t c.args.arc)) (sym c.self.view_is) c.requires.place in
    subst (λ (t : Table). c.kept_number.result < length t.planes) c.self.view_is (number_within c.self.inside.table c.kept_number.result c.args.m c.args.arc lt c.kept_number.ensures.is)
