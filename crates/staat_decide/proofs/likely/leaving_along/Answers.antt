use Rattle.staat_decide.proofs.Picked.{kept_are, some_tells}
use Rattle.staat_decide.proofs.Rows.{row_lengths}
use Rattle.staat_decide.proofs.likely.leaving_along.Goals as goal

pub take_apart-requires-clause-each : goal.take_apart-requires-clause-each
take_apart-requires-clause-each c =
    row_lengths c.args.parts.now c.args.asked.now.d c.args.w.now c.as_slice-2.result.now
    (kept_are c.args.parts.now c.args.asked.now c.args.w.now c.as_slice.result.now c.in_ok-rows.rows.items c.as_slice-2.result.now
    c.requires.asked c.requires.members c.as_slice.ensures c.in_ok-rows.ensures c.as_slice-2.ensures.value)

pub returns : goal.returns
returns c = record {
  size = c.requires.asked.size;
  peels = some_tells c.args.parts.now c.args.asked.now.d c.args.w.now c.as_slice-2.result.now c.in_ok-take_apart.field-0 c.in-Some.sets c.in-Some.is c.in_ok-take_apart.ensures.some
      c.requires.asked.moves
      (kept_are c.args.parts.now c.args.asked.now c.args.w.now c.as_slice.result.now c.in_ok-rows.rows.items c.as_slice-2.result.now
      c.requires.asked c.requires.members c.as_slice.ensures c.in_ok-rows.ensures c.as_slice-2.ensures.value);
}
