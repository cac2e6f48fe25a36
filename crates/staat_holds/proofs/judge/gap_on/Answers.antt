use Rattle.std.proofs.Common.{◌≡◌, List, [], All, drop, get_or, subst, sym}
use Rattle.std.proofs.lemmas.List.{drop_all}
use Rattle.std.proofs.lemmas.List.Elements.{All-nil}
use Rattle.staat_vec.specs.declared.vector.V3.{V3}
use Rattle.staat_vec.specs.Primitives.{primitive}
use Rattle.staat_vec.specs.Vectors.{cross, origin}
use Rattle.staat_model.specs.Planes.{crossings}
use Rattle.staat_holds.specs.Links.{IsGap, IsJoined}
use Rattle.staat_holds.proofs.GapLemmas.{crossing_found, crossing_next, told_none, told_some}
use Rattle.staat_holds.proofs.LinkDirections.{joined_opposite}
use Rattle.staat_holds.proofs.judge.gap_on.Goals as goal

pub returns-in-Some : goal.returns-in-Some
returns-in-Some c =
    let joined = IsJoined c.args.links.now c.args.count in
    let u : V3 = primitive (cross c.args.g (get_or c.args.hs.now c.loop-h.h-index origin)) in
    let h = told_some (joined u) (λ v. (v ≡ u) × IsGap c.args.links.now c.args.count v) c.in_ok-v.field-0 c.in-Some.v c.in-Some.is c.in_ok-v.ensures in
    crossing_found joined c.args.g origin c.args.hs.now c.loop-h.h-index c.in-Some.v c.loop-h-test.true h.0 h.1 c.loop-h.invariant

pub loop-h-preserved : goal.loop-h-preserved
loop-h-preserved c =
    let joined = IsJoined c.args.links.now c.args.count in
    let u : V3 = primitive (cross c.args.g (get_or c.args.hs.now c.loop-h.h-index origin)) in
    let h = told_none (joined u) (λ v. (v ≡ u) × IsGap c.args.links.now c.args.count v) c.in_ok-v.field-0 c.in-None.is c.in_ok-v.ensures in
    crossing_next joined c.args.g origin c.args.hs.now c.loop-h.h-index c.loop-h-test.true h (joined_opposite c.args.links.now c.args.count u h) c.loop-h.invariant

pub returns : goal.returns
returns c =
    let joined = IsJoined c.args.links.now c.args.count in
    let none : drop c.loop-h.h-index c.args.hs.now ≡ [] = drop_all c.loop-h.h-index c.args.hs.now c.loop-h-test.false in
    c.loop-h.invariant.all (subst (λ (hs : List V3). All joined (crossings c.args.g hs)) (sym none) (All-nil joined))
