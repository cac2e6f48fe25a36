use Rattle.std.proofs.Common.{◌≡◌, List, [], All, drop, get_or, subst, sym}
use Rattle.std.proofs.lemmas.List.{drop_all}
use Rattle.std.proofs.lemmas.List.Elements.{All-nil}
use Rattle.staat_vec.specs.declared.vector.V3.{V3}
use Rattle.staat_vec.specs.Lists.{IsFirst}
use Rattle.staat_vec.specs.Vectors.{origin}
use Rattle.staat_model.specs.Planes.{crossings, vertices}
use Rattle.staat_holds.specs.Links.{IsGap, IsJoined}
use Rattle.staat_holds.proofs.GapLemmas.{apart_at, plane_found, plane_next, told_none, told_some}
use Rattle.staat_holds.proofs.judge.gap_among.Goals as goal

pub gap_on-requires-clause-apart : goal.gap_on-requires-clause-apart
gap_on-requires-clause-apart c = apart_at c.args.planes.now c.planes_from.result.now c.loop-k.k _ c.loop-k-test.true c.planes_from.ensures c.requires.apart

pub returns-in-Some : goal.returns-in-Some
returns-in-Some c =
    let joined = IsJoined c.args.links.now c.args.count in
    let vs : List V3 = crossings (get_or c.args.planes.now c.loop-k.k origin) c.planes_from.result.now in
    let h = told_some (All joined vs) (IsFirst (IsGap c.args.links.now c.args.count) vs) c.in_ok-v.field-0 c.in-Some.v c.in-Some.is c.in_ok-v.ensures in
    plane_found joined origin c.args.planes.now c.planes_from.result.now c.loop-k.k c.in-Some.v c.loop-k-test.true c.planes_from.ensures h c.loop-k.invariant

pub loop-k-preserved : goal.loop-k-preserved
loop-k-preserved c =
    let joined = IsJoined c.args.links.now c.args.count in
    let vs : List V3 = crossings (get_or c.args.planes.now c.loop-k.k origin) c.planes_from.result.now in
    let h = told_none (All joined vs) (IsFirst (IsGap c.args.links.now c.args.count) vs) c.in_ok-v.field-0 c.in-None.is c.in_ok-v.ensures in
    plane_next joined origin c.args.planes.now c.planes_from.result.now c.loop-k.k c.loop-k-test.true c.planes_from.ensures h c.loop-k.invariant

pub returns : goal.returns
returns c =
    let joined = IsJoined c.args.links.now c.args.count in
    let none : drop c.loop-k.k c.args.planes.now ≡ [] = drop_all c.loop-k.k c.args.planes.now c.loop-k-test.false in
    c.loop-k.invariant.all (subst (λ (gs : List V3). All joined (vertices gs)) (sym none) (All-nil joined))
