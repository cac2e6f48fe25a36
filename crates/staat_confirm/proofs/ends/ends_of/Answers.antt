use Rattle.std.proofs.Common.{rules, ◌∙◌, arith, ap}
use Rattle.std.specs.Prelude.{slice_get}
use Rattle.staat_confirm.proofs.Standing.{ends_next, no_ends}
use Rattle.staat_confirm.proofs.ends.ends_of.Goals as goal

pub loop-k-init : goal.loop-k-init
loop-k-init c = record { count = search rules; within = omega arith; ends = no_ends _ _ _ (omega arith) }

pub end_at-end-requires-clause-behind : goal.end_at-end-requires-clause-behind
end_at-end-requires-clause-behind c = λ m plan le at. ap (λ l. slice_get l m) c.as_slice.ensures.value ∙ c.loop-k.invariant.ends m plan (let some = c.loop-k-test.true in omega (arith, le, some)) at

pub loop-k-preserved : goal.loop-k-preserved
loop-k-preserved c = record {
  count = search rules;
  within = (let le = c.loop-k.invariant.within in omega (arith, le));
  ends = ends_next _ _ _ _ (let le = c.loop-k.invariant.within in let count = c.loop-k.invariant.count in let some = c.loop-k-test.true in omega (arith, le, count, some))
      (λ m plan le at. c.loop-k.invariant.ends m plan (let some = c.loop-k-test.true in omega (arith, le, some)) at) c.end_at-end.ensures;
}

pub returns-clause-ends : goal.returns-clause-ends
returns-clause-ends c = λ m plan le at. c.loop-k.invariant.ends m plan (let none = c.loop-k-test.false in omega (arith, none)) at
