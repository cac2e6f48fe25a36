use Rattle.std.proofs.Common.{◌≡◌, ◌<◌, ◌≤◌, ◌-◌, ◌∙◌, ℕ, List, arith, ap, get_or, length, refl, subst, sym}
use Rattle.std.specs.Prelude.{Some, slice_get}
use Rattle.std.proofs.lemmas.List.Elements.{All-contains}
use Rattle.std.proofs.lemmas.Option.{slice_get-get_or}
use Rattle.staat_vec.specs.declared.vector.V3.{V3}
use Rattle.staat_vec.specs.Vectors.{negative, origin}
use Rattle.staat_vec.proofs.Canons.{canon-negative, negative-negative}
use Rattle.staat_vec.proofs.Options.{some_injective}
use Rattle.staat_vec.proofs.Primitives.{IsPrimitive-some}
use Rattle.staat_vec.proofs.Unique.{from_place}
use Rattle.staat_model.specs.declared.certificate.Arc.{Arc}
use Rattle.staat_pairs.specs.Tables.{IsTableArc, IsTableFacet, Table, back, facets_of, reversed_facets}
use Rattle.staat_pairs.proofs.ReversedFacets.{length-reversed, reversed_at}
use Rattle.staat_pairs.proofs.TableLemmas.{back_across, facets_reversed}
use Rattle.staat_planes.proofs.table.PlaneTable.facet_plane.Goals as goal

module _ (t : Table) (arc kept : Arc) (across : IsTableArc t arc) (le : arc.b ≤ arc.a) (e : kept ≡ back arc) (m : ℕ) (lt : m < length (facets_of t arc)) where
  abbrev list : List V3
  list = facets_of t kept

  turned : facets_of t arc ≡ reversed_facets list
  turned = facets_reversed t arc kept list across le e refl

  below : m < length list
  below = subst (λ k. m < k) (ap length turned ∙ length-reversed list) lt

  at_turned : (n : V3) → slice_get (facets_of t arc) m ≡ Some n → slice_get list (length list - 1 - m) ≡ Some (negative n)
  at_turned n at =
      let x : V3 = get_or list (length list - 1 - m) origin in
      let same : negative x ≡ n = some_injective (negative x) n (sym (reversed_at list m origin below) ∙ ap (λ l. slice_get l m) (sym turned) ∙ at) in
      slice_get-get_or list (length list - 1 - m) origin (omega (arith, below)) ∙ ap Some (sym (negative-negative x) ∙ ap negative same)

pub overflow_sub-kept_count : goal.overflow_sub-kept_count
overflow_sub-kept_count c =
    let lt = below c.args.self.now c.args.arc c.back-kept.result c.requires.across c.if-arc.false c.back-kept.ensures c.args.m c.requires.place in
    omega (arith, lt, c.kept_count.ensures.is)

pub overflow_sub-kept_count-else-arc : goal.overflow_sub-kept_count-else-arc
overflow_sub-kept_count-else-arc c =
    let lt = below c.args.self.now c.args.arc c.back-kept.result c.requires.across c.if-arc.false c.back-kept.ensures c.args.m c.requires.place in
    omega (arith, lt, c.kept_count.ensures.is)

pub kept_number-requires-else-arc-clause-across : goal.kept_number-requires-else-arc-clause-across
kept_number-requires-else-arc-clause-across c = subst (IsTableArc c.args.self.now) (sym c.back-kept.ensures) (back_across c.args.self.now c.args.arc c.requires.across)

pub kept_number-requires-else-arc-clause-place : goal.kept_number-requires-else-arc-clause-place
kept_number-requires-else-arc-clause-place c =
    let lt = below c.args.self.now c.args.arc c.back-kept.result c.requires.across c.if-arc.false c.back-kept.ensures c.args.m c.requires.place in
    omega (arith, lt, c.kept_count.ensures.is)

pub returns-else-arc-clause-is : goal.returns-else-arc-clause-is
returns-else-arc-clause-is c n at =
    let t = c.args.self.now in
    let there = at_turned t c.args.arc c.back-kept.result c.requires.across c.if-arc.false c.back-kept.ensures c.args.m c.requires.place n at in
    let facet = All-contains (IsTableFacet t.planes) (facets_of t c.args.arc) n (c.kept_number-else-arc.ensures.table.facets c.args.arc c.requires.across).each (from_place (facets_of t c.args.arc) c.args.m n at) in
    c.kept_number-else-arc.ensures.is (negative n) (ap (λ k. slice_get (facets_of t c.back-kept.result) (k - 1 - c.args.m)) c.kept_count.ensures.is ∙ there)
    ∙ ap Some (canon-negative n (IsPrimitive-some n facet.primitive))
