use Rattle.std.proofs.Common.{◌≡◌, ◌∙◌, List, ap, subst, get_or}
use Rattle.std.specs.Prelude.{Some, slice_get}
use Rattle.staat_vec.specs.declared.vector.V3.{V3}
use Rattle.staat_pairs.specs.Tables.{facets_of}
use Rattle.staat_check.specs.Conditions.{both_sides, turned_if}
use Rattle.staat_check.proofs.ConditionLemmas.{facets_more}
use Rattle.staat_check.proofs.conditions.push_facets.Goals as goal

pub loop-m-preserved : goal.loop-m-preserved
loop-m-preserved c =
    let t = c.args.table.now in
    let facet = c.index-facets-m.result in
    let seen = c.kept_facets-facets.result.now in
    let at = subst (λ (ps : List V3). slice_get (both_sides ps) c.number_of.result ≡ Some (turned_if c.args.turned (get_or seen c.loop-m.m facet))) c.planes.ensures.is
    (c.number_of.ensures ∙ ap (λ n. Some (turned_if c.args.turned n)) (c.vector.ensures.is ∙ c.index-facets-m.is)) in
    facets_more c.args.turned (both_sides t.planes) (facets_of t c.args.arc) seen c.loop-m.m c.number_of.result facet c.args.numbers.now.items c.loop-m.numbers.items c.push.new.self.items
    c.kept_facets-facets.ensures.is c.loop-m-test.true c.loop-m.invariant at c.in_ok-push.ensures.items
