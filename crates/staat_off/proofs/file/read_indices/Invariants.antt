use Rattle.std.proofs.Common.{◌≡◌, ◌-◌}
use Rattle.staat_off.specs.Readers.{many}
use Rattle.staat_off.specs.Reading.{index}
use Rattle.staat_off.proofs.Many.{with_front}
use Rattle.staat_off.proofs.file.read_indices.Given as goal

abbrev pub invariant-corners : goal.invariant-corners
invariant-corners l =
    with_front l.corners.items (many (l.number - l.counter) (index l.vertices) l.rest) ≡ many l.number (index l.vertices) l.fn.rest
