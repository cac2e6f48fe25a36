use Rattle.std.proofs.Common.{◌≡◌, ◌<◌, ℤ, List, ◌∷◌, arith, length, refl}
use Rattle.std.specs.Prelude.{None}
use Rattle.staat_cert.specs.LineReading.{dir_from, vector_alone}
use Rattle.staat_cert.proofs.line.dir_line.Goals as goal

too_few : (zs : List ℤ) → length zs < 3 → None ≡ dir_from zs
unfolding dir_from vector_alone
too_few (x ∷ y ∷ z ∷ zs) few = absurd (omega arith)
too_few zs few = refl

pub returns-then-numbers-lt3 : goal.returns-then-numbers-lt3
returns-then-numbers-lt3 c = too_few c.args.numbers.now (omega arith)
