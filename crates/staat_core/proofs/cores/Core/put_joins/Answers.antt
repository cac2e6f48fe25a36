use Rattle.std.proofs.Common.{◌<◌, ◌≡◌, ℕ, get_or, sym, subst, List, All, Contains, length}
use Rattle.std.proofs.lemmas.List.Elements.{All-contains, All-get_or, Contains-get_or}
use Rattle.staat_model.specs.declared.certificate.Arc.{Arc}
use Rattle.staat_core.specs.Cores.{core_pairs}
use Rattle.staat_core.specs.Sources.{IsSmallPair}
use Rattle.staat_core.proofs.cores.Core.put_joins.Goals as goal

abbrev nowhere : Arc
nowhere = record { a = 0; i = 0; b = 0; j = 0 }

listed : (pairs some items : List Arc) (k : ℕ) (d : Arc) → items ≡ some → All (Contains pairs) some → k < length items → Contains pairs (get_or items k d)
listed pairs some items k d e all lt = All-get_or (Contains pairs) items k d lt (subst (All (Contains pairs)) (sym e) all)

pub put_pair-requires-clause-small : goal.put_pair-requires-clause-small
put_pair-requires-clause-small g c =
    let items = c.pairs-pair-items.result.now in
    let pair : Arc = get_or items c.loop-pair.pair-index nowhere in
    let all = listed (g.S.PairSource.pairs c.args.source.now) (core_pairs c.args.self.now) items c.loop-pair.pair-index nowhere c.pairs-pair-items.ensures c.requires.core.among c.loop-pair-test.true in
    All-contains IsSmallPair c.pairs-pairs.result.now pair c.pairs-pairs.ensures.small (subst (λ xs. Contains xs pair) (sym c.pairs-pairs.ensures.is) all)

pub put_pair-requires-clause-pair : goal.put_pair-requires-clause-pair
put_pair-requires-clause-pair g c = listed (g.S.PairSource.pairs c.args.source.now) (core_pairs c.args.self.now) c.pairs-pair-items.result.now c.loop-pair.pair-index nowhere c.pairs-pair-items.ensures c.requires.core.among c.loop-pair-test.true

pub loop-pair-preserved : goal.loop-pair-preserved
loop-pair-preserved g c =
    let items = c.pairs-pair-items.result.now in
    let pair : Arc = get_or items c.loop-pair.pair-index nowhere in
    let in_core = subst (λ xs. Contains xs pair) c.pairs-pair-items.ensures (Contains-get_or items c.loop-pair.pair-index nowhere c.loop-pair-test.true) in record {
      reversed = c.put_pair.ensures.reversed;
      leads = λ parts speaks. c.put_pair.ensures.leads parts (core_pairs c.args.self.now) speaks in_core (c.loop-pair.invariant.leads parts speaks);
    }
