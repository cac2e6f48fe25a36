use Rattle.std.proofs.Common.{[], ◌∷◌, arith, length-append}
use Rattle.std.specs.Prelude.{IfSome, None}
use Rattle.std.proofs.lemmas.List.Elements.{All-push}
use Rattle.staat_decide.specs.Keeping.{IsKept}
use Rattle.staat_decide.proofs.table.table_for.Goals as goal

pub loop-preserved : goal.loop-preserved
loop-preserved c =
    let xs = c.loop.table.items in
    let old = c.loop.invariant in
    rw c.in_ok-push.ensures.items (record {
      some = omega (arith, length-append xs (None ∷ []), old.some);
      kept = All-push (λ slot. IfSome slot (IsKept c.args.parts.now)) xs None old.kept tt;
    })
