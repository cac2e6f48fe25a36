use Rattle.std.proofs.Common.{◌<ℤ◌, pos}
use Rattle.std.specs.Prelude.{false}
use Rattle.std.proofs.lemmas.Bool.{false≢true}
use Rattle.std.proofs.lemmas.List.Elements.{All-rest}
use Rattle.std.specs.Int.{w128}
use Rattle.staat_vec.specs.declared.words.TheConstants.{SMALL}
use Rattle.staat_vec.specs.Vectors.{IsWithin, dot}
use Rattle.staat_planes.proofs.Passing.{by_first, by_others, not_both, told_ahead, told_behind, untold}
use Rattle.staat_planes.proofs.leads.Heading.past.Goals as goal

pub is_ahead-requires : goal.is_ahead-requires
is_ahead-requires c fair = All-rest (IsWithin SMALL) c.in-Some.first.now c.in-Some.others.now c.args.facets.now c.in-Some.ensures.cases.0 (c.requires fair)

pub is_behind-requires : goal.is_behind-requires
is_behind-requires c fair = All-rest (IsWithin SMALL) c.in-Some.first.now c.in-Some.others.now c.args.facets.now c.in-Some.ensures.cases.0 (c.requires fair)

pub returns-then-along-gt0-clause-ahead : goal.returns-then-along-gt0-clause-ahead
returns-then-along-gt0-clause-ahead c =
    by_others (λ n. pos 0 <ℤ dot n c.args.self.now.d) c.args.facets.now c.in-Some.others.now c.in-Some.first.now c.in-Some.ensures.cases.0 c.is_ahead.result
    ((told_ahead w128 c.along-along.result (dot c.in-Some.first.now c.args.self.now.d) (record { sfits = c.along-along.type_inv }) c.along-along.ensures).0 c.if-along-gt0.true) c.is_ahead.ensures

pub returns-then-along-gt0-clause-behind : goal.returns-then-along-gt0-clause-behind
returns-then-along-gt0-clause-behind c =
    let along = dot c.in-Some.first.now c.args.self.now.d in
    by_first (λ n. dot n c.args.self.now.d <ℤ pos 0) c.args.facets.now c.in-Some.others.now c.in-Some.first.now c.in-Some.ensures.cases.0 false false≢true
    (not_both along ((told_ahead w128 c.along-along.result along (record { sfits = c.along-along.type_inv }) c.along-along.ensures).0 c.if-along-gt0.true))

pub returns-then-along-lt0-clause-ahead : goal.returns-then-along-lt0-clause-ahead
returns-then-along-lt0-clause-ahead c =
    by_first (λ n. pos 0 <ℤ dot n c.args.self.now.d) c.args.facets.now c.in-Some.others.now c.in-Some.first.now c.in-Some.ensures.cases.0 false false≢true
    (untold _ c.if-along-gt0.false (told_ahead w128 c.along-along.result (dot c.in-Some.first.now c.args.self.now.d) (record { sfits = c.along-along.type_inv }) c.along-along.ensures))

pub returns-then-along-lt0-clause-behind : goal.returns-then-along-lt0-clause-behind
returns-then-along-lt0-clause-behind c =
    by_others (λ n. dot n c.args.self.now.d <ℤ pos 0) c.args.facets.now c.in-Some.others.now c.in-Some.first.now c.in-Some.ensures.cases.0 c.is_behind.result
    ((told_behind w128 c.along-along.result (dot c.in-Some.first.now c.args.self.now.d) (record { sfits = c.along-along.type_inv }) c.along-along.ensures).0 c.if-along-lt0.true) c.is_behind.ensures

pub returns-else-along-lt0-clause-ahead : goal.returns-else-along-lt0-clause-ahead
returns-else-along-lt0-clause-ahead c =
    by_first (λ n. pos 0 <ℤ dot n c.args.self.now.d) c.args.facets.now c.in-Some.others.now c.in-Some.first.now c.in-Some.ensures.cases.0 c.neither.result.ahead c.neither.ensures.ahead
    (untold _ c.if-along-gt0.false (told_ahead w128 c.along-along.result (dot c.in-Some.first.now c.args.self.now.d) (record { sfits = c.along-along.type_inv }) c.along-along.ensures))

pub returns-else-along-lt0-clause-behind : goal.returns-else-along-lt0-clause-behind
returns-else-along-lt0-clause-behind c =
    by_first (λ n. dot n c.args.self.now.d <ℤ pos 0) c.args.facets.now c.in-Some.others.now c.in-Some.first.now c.in-Some.ensures.cases.0 c.neither.result.behind c.neither.ensures.behind
    (untold _ c.if-along-lt0.false (told_behind w128 c.along-along.result (dot c.in-Some.first.now c.args.self.now.d) (record { sfits = c.along-along.type_inv }) c.along-along.ensures))
