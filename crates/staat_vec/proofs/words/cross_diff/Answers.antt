use Rattle.std.proofs.Common.{subst, sym}
use Rattle.staat_vec.specs.Vectors.{IsWithin}
use Rattle.staat_vec.specs.declared.vector.TheConstants.{DIFF, NORMAL}
use Rattle.staat_vec.proofs.Bounds.{IsWithin-cross}
use Rattle.staat_vec.proofs.words.cross_diff.Goals as goal

pub returns-clause-size : goal.returns-clause-size
returns-clause-size c =
    subst (IsWithin NORMAL) (sym c.word_cross.ensures) (IsWithin-cross DIFF DIFF c.args.a c.args.b c.requires.a c.requires.b)
