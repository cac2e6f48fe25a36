use Rattle.staat_vec.proofs.ListLaws.{All-taken}
use Rattle.staat_holds.specs.VisitedNodes.{IsVisited}
use Rattle.staat_holds.proofs.Marking.{either_or, marks_begin, marks_next}
use Rattle.staat_holds.proofs.reach.mark_next.Goals as goal

pub loop-way-init : goal.loop-way-init
loop-way-init c = marks_begin c.args.ways.now c.args.marks.now

pub loop-way-preserved : goal.loop-way-preserved
loop-way-preserved c =
    let found = c.mark_along-is_found.result in
    let e = c.mark_along-is_found.ensures in
    marks_next c.args.ways.now c.loop-way.way-index _ c.args.marks.now c.loop-way.marks c.mark_along-is_found.new.marks c.loop-way.is_new found _ c.loop-way-test.true (either_or c.loop-way.is_new found)
    (record { long = c.mark_along-is_found.auto.marks; kept = e.kept; only = e.only; same = e.open; shut = e.shut; more = e.more }) c.loop-way.invariant

pub returns-clause-kept : goal.returns-clause-kept
returns-clause-kept c = c.loop-way.invariant.kept

pub returns-clause-reached : goal.returns-clause-reached
returns-clause-reached c = c.loop-way.invariant.reached

pub returns-clause-shut : goal.returns-clause-shut
returns-clause-shut c = λ e. All-taken (λ way. IsVisited c.loop-way.marks way.from → IsVisited c.loop-way.marks way.to) c.args.ways.now c.loop-way.way-index c.loop-way-test.false (c.loop-way.invariant.shut e)

pub returns-clause-more : goal.returns-clause-more
returns-clause-more c = c.loop-way.invariant.more
