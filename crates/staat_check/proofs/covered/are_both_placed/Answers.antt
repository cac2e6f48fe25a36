use Rattle.std.proofs.Common.{subst}
use Rattle.staat_model.specs.Certificates.{HasLine}
use Rattle.staat_check.proofs.PlacedLines.{listed_by_canon, opposite_listed_by_canon}
use Rattle.staat_check.proofs.covered.are_both_placed.Goals as goal

pub returns-then-version-eq2-clause-one : goal.returns-then-version-eq2-clause-one
returns-then-version-eq2-clause-one c = λ yes. listed_by_canon c.args.version c.args.dirs.now c.args.v c.if-version-eq2.true (subst (HasLine c.args.dirs.now) c.canon.ensures.value (c.is_placed.ensures yes))

pub returns-then-version-eq2-clause-opposite : goal.returns-then-version-eq2-clause-opposite
returns-then-version-eq2-clause-opposite c = λ yes. opposite_listed_by_canon c.args.version c.args.dirs.now c.args.v c.requires.some c.if-version-eq2.true (subst (HasLine c.args.dirs.now) c.canon.ensures.value (c.is_placed.ensures yes))
