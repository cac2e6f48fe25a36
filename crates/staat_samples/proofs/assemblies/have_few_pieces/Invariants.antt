use Rattle.std.proofs.Common.{◌≡◌, ◌+◌, length, take}
use Rattle.std.specs.Prelude.{sum_by}
use Rattle.staat_limits.specs.declared.limits.TheConstants.{MOST_PIECES}
use Rattle.staat_samples.proofs.assemblies.have_few_pieces.Given as goal

abbrev pub invariant-loop-part : goal.invariant-loop-part
invariant-loop-part l = l.left + sum_by (λ part. length part.pieces) (take l.part-index l.parts) ≡ MOST_PIECES
