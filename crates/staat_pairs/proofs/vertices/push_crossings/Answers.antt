use Rattle.std.proofs.Common.{◌∙◌, ap, sym}
use Rattle.std.specs.Prelude.{Some}
use Rattle.staat_vec.proofs.ListLaws.{place_is}
use Rattle.staat_pairs.proofs.DirectionLemmas.{crossing_end, crossing_more}
use Rattle.staat_pairs.proofs.vertices.push_crossings.Goals as goal

pub loop-h-preserved : goal.loop-h-preserved
loop-h-preserved c = crossing_more c.args.version c.args.g _ c.crossing.result c.args.hs.now c.args.taken.now.items c.loop-h.taken.items c.push_both.new.taken.items c.loop-h.h-index (place_is c.args.hs.now c.loop-h.h-index c.h-item.result c.loop-h-test.true c.h-item.is ∙ ap Some (sym c.vector.ensures.is)) c.crossing.ensures.value c.loop-h.invariant c.in_ok-push_both.ensures

pub returns : goal.returns
returns c = crossing_end c.args.version c.args.g c.args.hs.now c.args.taken.now.items c.loop-h.taken.items c.loop-h.h-index c.loop-h-test.false c.loop-h.invariant
