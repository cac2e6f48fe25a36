use Rattle.std.proofs.Common.{◌≡◌, true, sym, subst, Contains}
use Rattle.std.proofs.lemmas.Bool.{false≢true}
use Rattle.std.proofs.lemmas.List.Elements.{All-contains}
use Rattle.staat_core.specs.Cores.{core_pairs}
use Rattle.staat_core.specs.Sources.{IsSmallPair}
use Rattle.staat_core.proofs.Growing.{grows_further, grows_not}
use Rattle.staat_core.proofs.Holding.{held_by_arcs}
use Rattle.staat_core.proofs.Leading.{leading_kept}
use Rattle.staat_core.proofs.cores.Core.grow_at.Goals as goal

pub loop-k-init : goal.loop-k-init
loop-k-init g c = record { core = c.requires.core; grows = grows_not c.args.self.now; reversed = c.requires.reversed; leads = c.requires.leads }

pub loop-k-preserved : goal.loop-k-preserved
loop-k-preserved g c =
    let told : c.take.result ≡ true = (let e = c.if-not-take.false in cc) in record {
      core = c.take.ensures.core;
      grows = grows_further c.args.self.now c.loop-k.self c.take.new.self c.loop-k.invariant.grows c.take.ensures.grows;
      reversed = c.put_pair.ensures.reversed;
      leads = λ parts speaks.
          c.put_pair.ensures.leads parts (core_pairs c.take.new.self) speaks (c.take.ensures.listed told)
          (leading_kept parts (core_pairs c.loop-k.self) (core_pairs c.take.new.self) c.args.heading.now.d c.loop-k.joins.ahead.rows c.take.ensures.grows.pairs (c.loop-k.invariant.leads parts speaks));
    }

pub returns-in_default : goal.returns-in_default
returns-in_default g c = record {
  core = c.loop-k.invariant.core;
  grows = c.loop-k.invariant.grows;
  held = λ told parts speaks. held_by_arcs parts (core_pairs c.loop-k.self) c.args.moving c.args.w c.args.heading.now.d c.loop-k.joins.ahead.rows (c.loop-k.invariant.leads parts speaks) c.in_default.ensures;
}

pub returns-in_default-wanted : goal.returns-in_default-wanted
returns-in_default-wanted g c = record { core = c.loop-k.invariant.core; grows = c.loop-k.invariant.grows; held = λ t. absurd (false≢true t) }

pub returns-then-not-take : goal.returns-then-not-take
returns-then-not-take g c = record {
  core = c.take.ensures.core;
  grows = grows_further c.args.self.now c.loop-k.self c.take.new.self c.loop-k.invariant.grows c.take.ensures.grows;
  held = λ t. absurd (false≢true t);
}

pub returns : goal.returns
returns g c = record { core = c.loop-k.invariant.core; grows = c.loop-k.invariant.grows; held = λ t. absurd (false≢true t) }

pub returns-then-not-grows-clause-grows : goal.returns-then-not-grows-clause-grows
returns-then-not-grows-clause-grows g c = grows_not c.args.self.now

pub take-requires : goal.take-requires
take-requires g c = record { core = c.loop-k.invariant.core; pair = c.in-Some-wanted.ensures }

pub put_pair-requires : goal.put_pair-requires
put_pair-requires g c = record {
  pair = c.in-Some-wanted.ensures;
  small = All-contains IsSmallPair c.pairs-pairs.result.now c.in-Some-wanted.pair c.pairs-pairs.ensures.small (subst (λ xs. Contains xs c.in-Some-wanted.pair) (sym c.pairs-pairs.ensures.is) c.in-Some-wanted.ensures);
  low = c.requires.low;
  reversed = c.loop-k.invariant.reversed;
}
