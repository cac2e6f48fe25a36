use Rattle.std.proofs.Common.{◌≡◌, ◌∙◌, ⊎_elim, sym, true≢false}
use Rattle.staat_vec.specs.declared.vector.Sign.TheVariants.{Neg, Pos}
use Rattle.staat_vec.specs.Primitives.{canon}
use Rattle.staat_vec.specs.Vectors.{negative}
use Rattle.staat_vec.proofs.Canons.{canon-either}
use Rattle.staat_vec.proofs.Primitives.{IsPrimitive-some}
use Rattle.staat_cells.proofs.PieceCones.{half_space_is, own_negative, own_positive}
use Rattle.staat_cells.proofs.half_spaces.half_space_ahead.Goals as goal

pub canon-requires-clause-some : goal.canon-requires-clause-some
canon-requires-clause-some c = IsPrimitive-some c.args.n c.requires.facet.primitive

pub returns-then-is_same : goal.returns-then-is_same
returns-then-is_same c =
    let same = sym c.canon.ensures.value ∙ c.is_same.ensures.0 c.if-is_same.true in
    half_space_is c.args.table.now.planes c.requires.rules c.args.n c.args.plane Pos c.requires.plane
    (own_positive c.args.n (IsPrimitive-some c.args.n c.requires.facet.primitive) same)

pub returns-else-is_same : goal.returns-else-is_same
returns-else-is_same c =
    let turned : canon c.args.n ≡ negative c.args.n =
    ⊎_elim {C = canon c.args.n ≡ negative c.args.n}
    (λ e. absurd (true≢false (sym (c.is_same.ensures.1 (c.canon.ensures.value ∙ e))
    ∙ c.if-is_same.false)))
    (λ e. e) (canon-either c.args.n) in
    half_space_is c.args.table.now.planes c.requires.rules c.args.n c.args.plane Neg c.requires.plane
    (own_negative c.args.n (IsPrimitive-some c.args.n c.requires.facet.primitive) turned)
