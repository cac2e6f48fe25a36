use Rattle.std.proofs.Common.{◌≤◌, All, length, take}
use Rattle.staat_model.specs.Certificates.{HasLine}
use Rattle.staat_check.proofs.refusal.have_lines.Given as goal

abbrev pub invariant-loop-dir : goal.invariant-loop-dir
invariant-loop-dir l = (l.found ≤ length l.directions) × All (HasLine l.dirs) (take l.found l.directions)
