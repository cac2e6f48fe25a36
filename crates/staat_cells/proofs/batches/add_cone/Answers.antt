use Rattle.std.proofs.Common.{◌≡◌, ◌-◌, ◌<◌, ℕ, List, arith, length, subst, sym}
use Rattle.std.specs.Prelude.{Some, slice_get, slice_index_or}
use Rattle.std.proofs.lemmas.Result.{on_ok_weaker}
use Rattle.staat_model.proofs.Places.{place_within}
use Rattle.staat_cells.specs.declared.batches.Batch.{Batch}
use Rattle.staat_cells.specs.declared.half_spaces.HalfSpace.{HalfSpace}
use Rattle.staat_cells.proofs.BatchCones.{batch_room, batch_set}
use Rattle.staat_cells.proofs.batches.add_cone.Goals as goal

there : (batches items : List Batch) (k j : ℕ) (x : Batch) (cone : List HalfSpace) → batches ≡ items
    → x ≡ slice_index_or items k x → slice_get (slice_index_or batches k x).cones.items j ≡ Some cone
    → slice_get x.cones.items j ≡ Some cone
there batches items k j x cone same is at =
    subst (λ (y : Batch). slice_get y.cones.items j ≡ Some cone) (sym is)
    (subst (λ (l : List Batch). slice_get (slice_index_or l k x).cones.items j ≡ Some cone) same at)

pub add_parts-requires-clause-cone : goal.add_parts-requires-clause-cone
add_parts-requires-clause-cone c =
    let x = c.index_mut.result.now in
    place_within x.cones.items c.in-Some.j c.args.cone.now
    (there c.deref.result.now c.args.batches.now.items c.in-Some.k c.in-Some.j x c.args.cone.now c.deref.ensures.value
    c.index_mut.ensures.value (c.find.ensures.cone c.in-Some.k c.in-Some.j c.in-Some.is x))

pub returns-in-Some : goal.returns-in-Some
returns-in-Some c =
    let x = c.index_mut.result.now in
    let lt = subst (λ (l : List Batch). c.in-Some.k < length l) c.deref.ensures.value
    (c.find.ensures.batch c.in-Some.k c.in-Some.j c.in-Some.is) in
    on_ok_weaker c.add_parts.result (λ added.
    batch_set c.args.batches.now.items c.in-Some.k x c.add_parts.new.batch c.args.cone.now c.args.a c.args.b lt
    c.index_mut.ensures.value c.requires.rules
    (added c.args.cone.now
    (there c.deref.result.now c.args.batches.now.items c.in-Some.k c.in-Some.j x c.args.cone.now c.deref.ensures.value
    c.index_mut.ensures.value (c.find.ensures.cone c.in-Some.k c.in-Some.j c.in-Some.is x))))
    c.add_parts.ensures

pub returns : goal.returns
returns c =
    let room = c.in_ok-make_room.ensures in
    let mid = c.make_room.new.batches.items in
    let some = room.some in
    let lt : c.len-last.result - 1 < length mid = omega (arith, some) in
    on_ok_weaker c.add_new.result (λ added.
    batch_room c.args.batches.now.items mid _ c.args.cone.now c.args.a c.args.b room
    (batch_set mid (c.len-last.result - 1) c.index_mut-2.result.now c.add_new.new.batch c.args.cone.now
    c.args.a c.args.b lt c.index_mut-2.ensures.value room.batches added))
    c.add_new.ensures
