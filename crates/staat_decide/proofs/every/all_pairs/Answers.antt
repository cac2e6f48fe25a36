use Rattle.std.specs.Prelude.{Err, IfOk, Ok, Result}
use Rattle.staat_decide.proofs.AllPairs.{all_kept}
use Rattle.staat_decide.proofs.every.all_pairs.Goals as goal

weaker_told : {X E : Type 0} {A B : X → Type 0} → (r : Result X E) → ((x : X) → A x → B x) → IfOk r A → IfOk r B
weaker_told (Ok x) f h = f x h
weaker_told (Err e) f h = tt

pub returns-clause-all : goal.returns-clause-all
returns-clause-all c =
    weaker_told c.pairs_of.result
    (λ pairs each. all_kept c.args.parts.now c.args.w.now pairs.items c.args.nodes.now c.in_ok-ends.ends.items c.as_slice.result.now
    c.requires.places c.as_slice.ensures.value c.in_ok-ends.ensures each) c.pairs_of.ensures.each
