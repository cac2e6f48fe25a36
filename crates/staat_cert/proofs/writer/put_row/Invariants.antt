use Rattle.std.proofs.Common.{◌≡◌, ◌+◌, ◌-◌, ◌*◌, ◌≤◌, drop, length}
use Rattle.staat_model.specs.Lines.{spaced}
use Rattle.staat_cert.proofs.writer.put_row.Given as goal

abbrev pub invariant-loop-k : goal.invariant-loop-k
invariant-loop-k l = record {
  is : l.row ≡ spaced (drop (length l.numbers - l.k) l.numbers);
  size : length l.row ≤ 1 + 22 * l.k;
}
