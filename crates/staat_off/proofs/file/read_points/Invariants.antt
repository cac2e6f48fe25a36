use Rattle.std.proofs.Common.{◌≡◌, ◌-◌}
use Rattle.staat_off.specs.Readers.{many}
use Rattle.staat_off.specs.Reading.{point}
use Rattle.staat_off.proofs.Many.{with_front}
use Rattle.staat_off.proofs.file.read_points.Given as goal

abbrev pub invariant-points : goal.invariant-points
invariant-points l =
    with_front l.points.items (many (l.number - l.counter) (point l.digits) l.rest) ≡ many l.number (point l.digits) l.fn.rest
