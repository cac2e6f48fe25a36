use Rattle.staat_planes.proofs.UsedLaw.{listed_used}
use Rattle.staat_planes.proofs.table.PlaneTable.used.Goals as goal

pub returns-clause-plane : goal.returns-clause-plane
returns-clause-plane c parts n made at = c.used_marks-marks.ensures.is.each parts c.args.k n made at

pub returns-clause-planes : goal.returns-clause-planes
returns-clause-planes c parts planes n made at are = listed_used parts c.args.w planes n _ are (returns-clause-plane c parts n made at)
