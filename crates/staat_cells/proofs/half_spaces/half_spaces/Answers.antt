use Rattle.std.proofs.Common.{◌≤◌, subst}
use Rattle.staat_pairs.specs.Tables.{facets_of}
use Rattle.staat_cells.proofs.PieceCones.{facet_more, facets_all, no_facets}
use Rattle.staat_cells.proofs.half_spaces.half_spaces.Goals as goal

pub loop-m-init : goal.loop-m-init
loop-m-init c =
    no_facets c.args.table.now.planes (facets_of c.args.table.now c.args.arc) c.new-found.result.items
    c.new-found.ensures.items

pub loop-m-preserved : goal.loop-m-preserved
loop-m-preserved c =
    facet_more c.args.table.now.planes (facets_of c.args.table.now c.args.arc) c.facet.result c.loop-m.m
    c.loop-m.found.items c.push.new.self.items c.half_space_ahead.result c.facet.ensures.is
    c.half_space_ahead.ensures c.in_ok-push.ensures.items c.loop-m.invariant

pub returns : goal.returns
returns c =
    facets_all c.args.table.now.planes (facets_of c.args.table.now c.args.arc) c.loop-m.m c.loop-m.found.items
    (subst (λ n. n ≤ c.loop-m.m) c.facet_count-m-end.ensures.is c.loop-m-test.false) c.loop-m.invariant
