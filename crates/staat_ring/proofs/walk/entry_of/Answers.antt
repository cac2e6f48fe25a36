use Rattle.std.proofs.Common.{arith}
use Rattle.staat_ring.specs.Places.{IsAtEntry, plane_count}
use Rattle.staat_ring.proofs.walk.entry_of.Goals as goal

pub entry-requires : goal.entry-requires
entry-requires c =
    let h = c.requires.at in
    record { stop = h; entry = 0; here = record { within = omega arith; is = c.first_entry-at.ensures c.args.circle h.place h.stop h.at h.is } }

pub unreachable-requires : goal.unreachable-requires
unreachable-requires c =
    let h = c.requires.at in
    let s = c.requires.some h.place h.stop h.at h.is in
    let here : IsAtEntry (plane_count c.args.rings.now) c.args.circle h.stop 0 c.first_entry-at.result = record { within = omega arith; is = c.first_entry-at.ensures c.args.circle h.place h.stop h.at h.is } in
    let e = c.in-None.ensures h.place h.stop h.at h.is 0 here in
    absurd (omega (arith, s, e))

pub returns : goal.returns
returns c m s at is = c.in-Some.ensures m s at is 0 (record { within = omega arith; is = c.first_entry-at.ensures c.args.circle m s at is })
