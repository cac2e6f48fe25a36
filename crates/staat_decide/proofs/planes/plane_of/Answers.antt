use Rattle.std.proofs.Common.{◌≡◌, ◌∙◌, ◌&&◌, ap, int_eq, pos, sym, true}
use Rattle.std.proofs.lemmas.Bool.{false≢true}
use Rattle.staat_vec.specs.declared.vector.V3.{V3}
use Rattle.staat_vec.specs.declared.vector.TheConstants.{NORMAL}
use Rattle.staat_decide.proofs.planes.plane_of.Goals as goal

pub canon-requires-clause-some : goal.canon-requires-clause-some
canon-requires-clause-some c = λ none.
    let same : c.eq.result ≡ true =
    c.eq.ensures ∙ ap (λ (v : V3). int_eq v.x (pos 0) && (int_eq v.y (pos 0) && int_eq v.z (pos 0))) none in
    false≢true (sym c.if-eq.false ∙ same)

pub returns : goal.returns
returns c = c.canon.ensures.size NORMAL (c.is_within.ensures.0 c.if-not-is_within.false)
