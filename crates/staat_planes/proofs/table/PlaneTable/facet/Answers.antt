use Rattle.std.proofs.Common.{◌≡◌, ◌<◌, ◌∙◌, ap, sym, subst, length}
use Rattle.std.specs.Prelude.{Some, slice_get}
use Rattle.std.proofs.lemmas.List.Elements.{All-contains}
use Rattle.staat_pairs.specs.Tables.{AreTableFacets, IsTableFacet, facets_of, reversed_facets}
use Rattle.staat_pairs.proofs.TableLemmas.{facets_reversed}
use Rattle.staat_pairs.proofs.ReversedFacets.{length-reversed}
use Rattle.staat_planes.proofs.table.PlaneTable.facet.Goals as goal
use Rattle.staat_vec.proofs.ListLaws.{place_is}
use Rattle.staat_vec.proofs.Unique.{from_place}

pub reversed_at-requires : goal.reversed_at-requires
reversed_at-requires c =
    let is : facets_of c.args.self.now c.args.arc ≡ reversed_facets c.kept_facets-else-arc.result.now = facets_reversed c.args.self.now c.args.arc c.back.result c.kept_facets-else-arc.result.now c.requires.across c.if-arc.false c.back.ensures c.kept_facets-else-arc.ensures.is in
    subst (λ n. c.args.m < n) (ap length is ∙ length-reversed c.kept_facets-else-arc.result.now) c.requires.place

pub returns-then-arc-clause-is : goal.returns-then-arc-clause-is
returns-then-arc-clause-is c =
    let below : c.args.m < length c.kept_facets.result.now = subst (λ l. c.args.m < length l) (sym c.kept_facets.ensures.is) c.requires.place in
    ap (λ l. slice_get l c.args.m) (sym c.kept_facets.ensures.is)
    ∙ place_is c.kept_facets.result.now c.args.m c.index-kept_facets-m.result below c.index-kept_facets-m.is
    ∙ ap Some (sym c.vector.ensures.is)

pub returns-else-arc-clause-is : goal.returns-else-arc-clause-is
returns-else-arc-clause-is c =
    let is : facets_of c.args.self.now c.args.arc ≡ reversed_facets c.kept_facets-else-arc.result.now = facets_reversed c.args.self.now c.args.arc c.back.result c.kept_facets-else-arc.result.now c.requires.across c.if-arc.false c.back.ensures c.kept_facets-else-arc.ensures.is in
    ap (λ l. slice_get l c.args.m) is ∙ c.reversed_at.ensures

pub returns-else-arc-clause-rules : goal.returns-else-arc-clause-rules
returns-else-arc-clause-rules c =
    let rules : AreTableFacets c.args.self.now.planes (facets_of c.args.self.now c.args.arc) = c.kept_facets-else-arc.ensures.table.facets c.args.arc c.requires.across in
    All-contains (IsTableFacet c.args.self.now.planes) (facets_of c.args.self.now c.args.arc) c.reversed_at.result rules.each (from_place (facets_of c.args.self.now c.args.arc) c.args.m c.reversed_at.result (returns-else-arc-clause-is c))
