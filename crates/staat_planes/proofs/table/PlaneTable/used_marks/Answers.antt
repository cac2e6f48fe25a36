use Rattle.std.proofs.Common.{subst}
use Rattle.staat_model.specs.declared.set.PartSet.{PartSet}
use Rattle.staat_model.specs.Sets.{IsSubset}
use Rattle.staat_planes.proofs.Marking.{all_marked, used_marked}
use Rattle.staat_planes.proofs.table.PlaneTable.used_marks.Goals as goal

pub returns-then-within-clause-is : goal.returns-then-within-clause-is
returns-then-within-clause-is c =
    all_marked c.args.self.now c.args.w c.requires
    (subst (λ (s : PartSet). IsSubset s c.args.w) c.set.ensures.is (c.within.ensures.0 c.if-within.true)) c.set.ensures.most

pub returns-clause-is : goal.returns-clause-is
returns-clause-is c = used_marked c.args.self.now c.args.w c.mark_in.new.marks c.mark_axes.new.marks c.requires c.mark_in.ensures c.mark_axes.ensures.axes c.mark_axes.ensures.others
