use Rattle.std.proofs.Common.{◌∙◌, ap, subst, sym}
use Rattle.staat_ring.specs.Rings.{Arrangement, WereMadeFrom}
use Rattle.staat_plan.proofs.RingSetLemmas.{all_linked}
use Rattle.staat_plan.proofs.walker.counted_step.Goals as goal

pub returns-clause-ready : goal.returns-clause-ready
returns-clause-ready g c = record {
  made = subst (WereMadeFrom c.args.table.now.planes) (sym c.step_past.ensures.rings) c.requires.ready.made;
  whole = ap (λ (rings : Arrangement). rings.unlinked) c.step_past.ensures.rings ∙ c.requires.ready.whole;
  walk_is = c.step_past.ensures.made;
}

pub step_past-requires-clause-linked : goal.step_past-requires-clause-linked
step_past-requires-clause-linked g c =
    all_linked c.args.table.now c.args.w c.used_marks-marks.result c.args.rings.now c.requires.ready.made
    c.requires.ready.whole c.used_marks-marks.ensures.is
