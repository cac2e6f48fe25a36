use Rattle.std.proofs.Common.{◌≡◌, All, Bool, List, length, subst, sym}
use Rattle.std.specs.Prelude.{Err, IfOk, IfSome, None, Ok, Option, Result, Some}
use Rattle.staat_decide.specs.Arcs.{AreBlockingRows}
use Rattle.staat_decide.proofs.Held.{none_weaker_told}
use Rattle.staat_decide.proofs.Rows.{row_count, row_lengths}
use Rattle.staat_decide.proofs.peeling.peel.Goals as goal

pub take_apart-requires-clause-rows : goal.take_apart-requires-clause-rows
take_apart-requires-clause-rows g c =
    subst (λ (rows : List (List Bool)). length rows ≡ length c.args.w.now) (sym c.as_slice.ensures.value)
    (row_count c.args.parts.now c.args.along.now.d c.args.w.now c.in_ok-rows.rows.items c.in_ok-rows.ensures)

pub take_apart-requires-clause-each : goal.take_apart-requires-clause-each
take_apart-requires-clause-each g c =
    subst (λ (rows : List (List Bool)). All (λ row. length row ≡ length c.args.w.now) rows) (sym c.as_slice.ensures.value)
    (row_lengths c.args.parts.now c.args.along.now.d c.args.w.now c.in_ok-rows.rows.items c.in_ok-rows.ensures)

some_weaker_told : {X E : Type 0} {A B : X → Type 0} → (r : Result (Option X) E) → ((x : X) → A x → B x)
    → IfOk r (λ o. IfSome o A) → IfOk r (λ o. IfSome o B)
some_weaker_told (Ok None) f h = tt
some_weaker_told (Ok (Some x)) f h = f x h
some_weaker_told (Err e) f h = tt

pub returns-clause-some : goal.returns-clause-some
returns-clause-some g c =
    let parts = c.args.parts.now in
    let d = c.args.along.now.d in
    let rows = subst (λ (rows : List (List Bool)). AreBlockingRows parts d c.args.w.now rows) (sym c.as_slice.ensures.value) c.in_ok-rows.ensures in
    some_weaker_told c.take_apart.result (λ sets peels. peels parts d c.requires.moves rows) c.take_apart.ensures.some

pub returns-clause-none : goal.returns-clause-none
returns-clause-none g c =
    let parts = c.args.parts.now in
    let d = c.args.along.now.d in
    let rows = subst (λ (rows : List (List Bool)). AreBlockingRows parts d c.args.w.now rows) (sym c.as_slice.ensures.value) c.in_ok-rows.ensures in
    none_weaker_told c.take_apart.result (λ held. held parts d rows) c.take_apart.ensures.none
