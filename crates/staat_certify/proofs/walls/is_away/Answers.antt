use Rattle.std.proofs.Common.{◌∙◌, ◌≤ℤ◌, pos, sym}
use Rattle.std.proofs.lemmas.Int.{by_lt_z}
use Rattle.staat_vec.specs.Vectors.{dot}
use Rattle.staat_vec.proofs.Signs.{positive_sign, sign_positive}
use Rattle.staat_certify.proofs.walls.is_away.Goals as goal

pub returns-in_default-clause-yes : goal.returns-in_default-clause-yes
returns-in_default-clause-yes c test = let z = dot c.args.n c.args.d in
    by_lt_z {P = z ≤ℤ pos 0} (pos 0) z (λ high. absurd (c.in_default.not-Pos (c.sign_dot.ensures ∙ positive_sign z high))) (λ down. down)

pub returns-in-Pos-clause-no : goal.returns-in-Pos-clause-no
returns-in-Pos-clause-no c test = sign_positive (dot c.args.n c.args.d) (sym c.sign_dot.ensures ∙ c.in-Pos.is)
