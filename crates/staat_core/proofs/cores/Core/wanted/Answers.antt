use Rattle.std.proofs.Common.{Contains, Option, subst}
use Rattle.std.specs.Prelude.{IfSome}
use Rattle.std.proofs.lemmas.List.Elements.{All-contains}
use Rattle.staat_core.specs.declared.grow.Wanted.{Wanted}
use Rattle.staat_core.specs.Sources.{IsSmallPair}
use Rattle.staat_core.proofs.cores.Core.wanted.Goals as goal

pub returns-in-Some-best : goal.returns-in-Some-best
returns-in-Some-best g c = subst (λ (o : Option Wanted). IfSome o (λ b. Contains (g.S.PairSource.pairs c.args.source.now) b.pair)) c.in-Some-best.is c.loop-arc.invariant

pub is_link-requires : goal.is_link-requires
is_link-requires g c = All-contains IsSmallPair c.pairs-pairs.result.now c.in-Some-pair_at.pair c.pairs-pairs.ensures.small c.in-Some-pair_at.ensures

pub better-found-requires-clause-pair : goal.better-found-requires-clause-pair
better-found-requires-clause-pair g c = subst (λ xs. Contains xs c.in-Some-pair_at.pair) c.pairs-pairs.ensures.is c.in-Some-pair_at.ensures
