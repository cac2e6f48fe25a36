use Rattle.std.proofs.Common.{◌≡◌, ◌∙◌, ℤ, pos, Decides, arith, eqb, ap, sym}
use Rattle.std.proofs.lemmas.Bool.{eqb-true}
use Rattle.std.proofs.lemmas.Int.{to_z-of_z}
use mir.Syntax.{w64}
use mir.Val.{SFits, of_z, to_z}
use Rattle.staat_vec.specs.declared.vector.TheConstants.{DIFF}
use Rattle.staat_vec.specs.declared.words.TheConstants.{SMALL}
use Rattle.staat_vec.specs.Vectors.{dot}
use Rattle.staat_vec.proofs.Bounds.{IsWithin-wider}
use Rattle.staat_model.proofs.solid.is_on_plane.Goals as goal

pub small_dot-requires-clause-d : goal.small_dot-requires-clause-d
small_dot-requires-clause-d c = IsWithin-wider DIFF SMALL c.sub.result (omega arith) c.sub.ensures.size

is_zero : (z : ℤ) → SFits w64 z → Decides (eqb (of_z w64 z) 0) (z ≡ pos 0)
is_zero z fits = (
  λ t. sym (to_z-of_z w64 z fits) ∙ ap (to_z w64) (eqb-true (of_z w64 z) 0 t),
  λ e. ap (λ y. eqb (of_z w64 y) 0) e,
)

pub returns : goal.returns
returns c =
    let zero = is_zero c.small_dot.result (record { sfits = c.small_dot.type_inv }) in
    let e = c.small_dot.ensures.value ∙ ap (dot c.args.n) c.sub.ensures.value in
    (λ t. sym e ∙ zero.0 t, λ h. zero.1 (e ∙ h))
