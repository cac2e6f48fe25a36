use Rattle.std.proofs.Common.{◌≡◌, ◌-◌}
use Rattle.staat_off.specs.Readers.{many}
use Rattle.staat_off.specs.Reading.{face}
use Rattle.staat_off.proofs.Many.{with_front}
use Rattle.staat_off.proofs.file.read_faces.Given as goal

abbrev pub invariant-faces : goal.invariant-faces
invariant-faces l =
    with_front l.faces.items (many (l.number - l.counter) (face l.vertices) l.rest) ≡ many l.number (face l.vertices) l.fn.rest
