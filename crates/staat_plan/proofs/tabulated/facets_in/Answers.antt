use Rattle.std.proofs.{Common.{◌∙◌, ap, sym, [], ◌∷◌, ◌++◌, arith}, lemmas.List.take_all}
use Rattle.staat_vec.proofs.ListLaws.{take_next}
use Rattle.staat_pairs.specs.Tables.{facets_of}
use Rattle.staat_plan.proofs.tabulated.facets_in.Goals as goal

pub loop-m-preserved : goal.loop-m-preserved
loop-m-preserved c = c.in_ok-push.ensures.items ∙ ap (λ list. list ++ c.facet.result ∷ []) c.loop-m.invariant ∙ sym (take_next (facets_of c.args.table.now c.args.arc) c.loop-m.m c.facet.result c.facet.ensures.is)

pub returns : goal.returns
returns c =
    c.loop-m.invariant ∙ take_all c.loop-m.m (facets_of c.args.table.now c.args.arc) (omega (arith, c.facet_count-m-end.ensures.is, c.loop-m-test.false))
