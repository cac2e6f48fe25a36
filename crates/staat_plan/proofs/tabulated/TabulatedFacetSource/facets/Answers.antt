use Rattle.std.proofs.{Common.{◌∙◌, ap}, lemmas.Result.IfOk-weaker}
use Rattle.std.specs.Prelude.{Some}
use Rattle.staat_cone.proofs.Sources.{listed_within, overlap_by_list}
use Rattle.staat_plan.proofs.TableFacets.{facets_listed}
use Rattle.staat_plan.proofs.tabulated.TabulatedFacetSource.facets.Goals as goal

pub returns-in-Some-clause-facets : goal.returns-in-Some-clause-facets
returns-in-Some-clause-facets g c =
    IfOk-weaker c.facets_in.result _ _ (λ list e.
    facets_listed c.self.inside.sound.now c.self.inside.table.now c.in-Some.arc c.args.p.now c.args.q.now list.items c.self.invariant c.in-Some.ensures.0
    (c.in-Some.ensures.1 ∙ ap Some c.points.ensures.points) (c.in-Some.ensures.2 ∙ ap Some c.points-2.ensures.points) e) c.facets_in.ensures

pub returns-in-Some-clause-overlap : goal.returns-in-Some-clause-overlap
returns-in-Some-clause-overlap g c =
    IfOk-weaker c.facets_in.result _ _ (λ list listed. overlap_by_list c.args.p.now c.args.q.now list.items c.points.ensures.piece c.points-2.ensures.piece listed) (returns-in-Some-clause-facets g c)

pub returns-in-Some-clause-size : goal.returns-in-Some-clause-size
returns-in-Some-clause-size g c =
    IfOk-weaker c.facets_in.result _ _ (λ list listed. listed_within c.args.p.now c.args.q.now list.items c.points.ensures.piece c.points-2.ensures.piece listed) (returns-in-Some-clause-facets g c)
