use Rattle.std.proofs.Common.{inr, refl, subst, sym}
use Rattle.std.proofs.lemmas.Bool.{false≢true}
use Rattle.staat_check.specs.Known.{IsKnown}
use Rattle.staat_check.proofs.VertexSearch.{known_opposite}
use Rattle.staat_check.proofs.vertices.unknown_of_both.Goals as goal

pub returns-then-version-eq2 : goal.returns-then-version-eq2
returns-then-version-eq2 c = let known = c.if-not-is_known.ensures.0 refl in (known, known_opposite c.args.version c.args.listed.now c.args.v c.if-version-eq2.true known)

pub returns-then-not-is_known-2 : goal.returns-then-not-is_known-2
returns-then-not-is_known-2 c = inr (
  c.if-not-is_known.ensures.0 refl,
  c.neg-opposite.ensures.value,
  λ k. false≢true (c.if-not-is_known-2.ensures.1 (subst (IsKnown c.args.version c.args.listed.now) (sym c.neg-opposite.ensures.value) k)),
)
