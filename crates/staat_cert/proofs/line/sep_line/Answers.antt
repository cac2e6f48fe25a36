use Rattle.std.proofs.Common.{◌≡◌, ◌<◌, ℤ, List, ◌∷◌, arith, length, refl}
use Rattle.std.specs.Prelude.{None}
use Rattle.staat_cert.specs.LineReading.{arc_alone, sep_from}
use Rattle.staat_cert.proofs.line.sep_line.Goals as goal

too_few : (zs : List ℤ) → length zs < 4 → None ≡ sep_from zs
unfolding sep_from arc_alone
too_few (a ∷ i ∷ b ∷ j ∷ zs) few = absurd (omega arith)
too_few zs few = refl

pub returns-then-numbers-lt4 : goal.returns-then-numbers-lt4
returns-then-numbers-lt4 c = too_few c.args.numbers.now (omega arith)
