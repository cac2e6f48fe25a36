use Rattle.std.proofs.lemmas.List.Elements.{All-nil}
use Rattle.staat_cells.specs.FirstCell.{AreNotAbove}
use Rattle.staat_cells.proofs.first_cell.ends_between.Goals as goal

pub returns : goal.returns
returns c planes a_in b_in = record {
  a = c.args.a;
  b = c.args.b;
  a_in = a_in;
  b_in = b_in;
  is = λ i. record { first = c.cross_normal.ensures.value i; second = c.cross_normal-2.ensures.value i };
  turn = c.requires.turn;
  first_size = c.cross_normal.ensures.size;
  second_size = c.cross_normal-2.ensures.size;
  passed_are = All-nil (AreNotAbove (record { first = c.cross_normal.result; second = c.cross_normal-2.result }));
}
