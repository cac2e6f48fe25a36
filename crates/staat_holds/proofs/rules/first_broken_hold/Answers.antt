use Rattle.staat_holds.specs.Chains.{IsFirstRule, KeepsHoldRules}
use Rattle.staat_holds.proofs.ChainSteps.{broken_at, few_names, keep_end, keep_next, names_next, tells_none, tells_some}
use Rattle.staat_holds.proofs.rules.first_broken_hold.Goals as goal

pub broken_rule-requires-clause-few : goal.broken_rule-requires-clause-few
broken_rule-requires-clause-few g c =
    few_names c.args.parts.now c.args.holds.now c.loop-k.k c.loop-k.names.items c.as_slice.result.now c.as_slice.ensures.value c.loop-k.invariant.names c.requires.few

pub returns-in-Some : goal.returns-in-Some
returns-in-Some g c =
    let parts = c.args.parts.now in
    let now = c.as_slice.result.now in
    let hold = c.index-holds-k.result in
    let breaks = tells_some (KeepsHoldRules parts now hold) (IsFirstRule parts now hold) c.in_ok-rule.field-0 c.in-Some.rule c.in-Some.is c.in_ok-rule.ensures in
    broken_at parts c.args.holds.now c.loop-k.k hold c.loop-k.names.items now c.in-Some.rule c.as_slice.ensures.value c.loop-k.invariant.names c.loop-k-test.true c.index-holds-k.is c.loop-k.invariant.keep breaks

pub loop-k-preserved : goal.loop-k-preserved
loop-k-preserved g c =
    let parts = c.args.parts.now in
    let holds = c.args.holds.now in
    let k = c.loop-k.k in
    let now = c.as_slice.result.now in
    let hold = c.index-holds-k.result in
    let names = c.loop-k.names.items in
    let at = c.index-holds-k.is in
    let keeps = tells_none (KeepsHoldRules parts now hold) (IsFirstRule parts now hold) c.in_ok-rule.field-0 c.in-None.is c.in_ok-rule.ensures in record {
      names = names_next parts holds k hold names c.as_slice-in-loop-k-2.result.now c.as_slice-in-loop-k.result.now c.in_ok-names-2.names.items
          c.as_slice-in-loop-k-2.ensures.value c.loop-k.invariant.names c.as_slice-in-loop-k.ensures c.loop-k-test.true at c.in_ok-names-2.ensures;
      keep = keep_next parts holds k hold names now c.as_slice.ensures.value c.loop-k.invariant.names c.loop-k-test.true at c.loop-k.invariant.keep keeps;
    }

pub returns : goal.returns
returns g c = keep_end c.args.parts.now c.args.holds.now c.loop-k.k c.loop-k-test.false c.loop-k.invariant.keep
