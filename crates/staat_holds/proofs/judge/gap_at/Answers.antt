use Rattle.std.proofs.Common.{◌≡◌, false, true, ap, sym, subst, ◌∙◌}
use Rattle.staat_vec.specs.Primitives.{primitive}
use Rattle.staat_vec.specs.Vectors.{cross}
use Rattle.staat_holds.specs.Links.{IsJoined}
use Rattle.staat_holds.proofs.LinkDirections.{joined_primitive}
use Rattle.staat_holds.proofs.judge.gap_at.Goals as goal

pub returns-then-branch : goal.returns-then-branch
returns-then-branch c =
    let joined = c.in_ok-is_joined.ensures.0 c.if-branch.true in
    (joined_primitive c.args.links.now c.args.count (cross c.args.g c.args.h) c.requires.apart).0 (subst (IsJoined c.args.links.now c.args.count) c.cross_normal-d.ensures.value joined)

pub returns : goal.returns
returns c =
    let value : c.cross_normal-d.result ≡ cross c.args.g c.args.h = c.cross_normal-d.ensures.value in
    let is : c.primitive.result ≡ primitive (cross c.args.g c.args.h) = c.primitive.ensures.value ∙ ap primitive value in
    let both = joined_primitive c.args.links.now c.args.count (cross c.args.g c.args.h) c.requires.apart in
    (is, λ joined. wrong (sym c.if-branch.false ∙ c.in_ok-is_joined.ensures.1 (subst (IsJoined c.args.links.now c.args.count) (sym value) (both.1 (subst (IsJoined c.args.links.now c.args.count) is joined)))))
  where
    wrong : false ≡ true → ⊥
    wrong e = cc
