use Rattle.std.proofs.Common.{◌-◌, ◌<◌, List, length, subst}
use Rattle.std.specs.Prelude.{slice_index_or}
use Rattle.staat_cells.specs.declared.batches.Batch.{Batch}
use Rattle.staat_cells.proofs.BatchCones.{batch_empty}
use Rattle.staat_cells.proofs.batches.make_room.Goals as goal

pub returns-then-has_room : goal.returns-then-has_room
returns-then-has_room c = record {
  some = subst (λ (l : List Batch). 0 < length l) c.deref.ensures.value (c.has_room.ensures.some c.if-has_room.true);
  room = subst (λ (l : List Batch). (d : Batch) → length (slice_index_or l (length l - 1) d).cones.items < 128)
      c.deref.ensures.value (c.has_room.ensures.last c.if-has_room.true);
  arcs = λ signs x y. (λ h. h, λ h. h);
  batches = c.requires;
}

pub returns : goal.returns
returns c =
    batch_empty c.args.batches.now.items c.push.new.self.items
    (record { cones = c.new.result; tests = c.new-2.result; arcs = c.new-3.result }) c.new.ensures.items
    c.new-2.ensures.items c.new-3.ensures.items c.in_ok-push.ensures.items c.requires
