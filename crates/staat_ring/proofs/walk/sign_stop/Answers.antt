use Rattle.std.proofs.Common.{◌<◌, arith, ap, sym, subst, ◌∙◌, refl, length, length-set}
use Rattle.std.proofs.lemmas.Option.{slice_get_within}
use Rattle.std.proofs.lemmas.List.Elements.{All-contains}
use Rattle.staat_ring.specs.declared.entry.Entry.{Entry}
use Rattle.staat_ring.specs.CountedSigns.{state_at}
use Rattle.staat_ring.specs.SignChanges.{with_sign, with_stop_signs}
use Rattle.staat_ring.proofs.SignAll.{stop_sign_end, stop_sign_next}
use Rattle.staat_ring.proofs.walk.sign_stop.Goals as goal
use Rattle.staat_vec.proofs.Unique.{from_place}

pub loop-passed-init : goal.loop-passed-init
loop-passed-init c = record {
  size = refl;
  left = λ m s at is. record { within = omega arith; is = c.first_entry-at.ensures c.args.circle m s at is };
  rest = λ m s at is. refl;
}

pub entry-requires : goal.entry-requires
entry-requires c =
    let h = c.requires.at in
    record { stop = h; entry = c.loop-passed._passed; here = c.loop-passed.invariant.left h.place h.stop h.at h.is }

pub next_entry-at-requires : goal.next_entry-at-requires
next_entry-at-requires c =
    let h = c.requires.at in
    (c.args.circle, c.args.node, record { stop = h; entry = c.loop-passed._passed; here = c.loop-passed.invariant.left h.place h.stop h.at h.is })

pub returns-in-None : goal.returns-in-None
returns-in-None c m s at is =
    let e = c.in-None.ensures m s at is c.loop-passed._passed (c.loop-passed.invariant.left m s at is) in
    stop_sign_end c.args.leaves s.entries c.loop-passed._passed c.loop-passed.signs (with_stop_signs c.args.leaves s.entries c.args.signs.now) (omega (arith, e)) (c.loop-passed.invariant.rest m s at is)

pub set-requires : goal.set-requires
set-requires c =
    let h = c.requires.at in
    let e = c.in-Some.ensures h.place h.stop h.at h.is c.loop-passed._passed (c.loop-passed.invariant.left h.place h.stop h.at h.is) in
    let w = All-contains (λ (e : Entry). e.plane < length c.args.signs.now.states) h.stop.entries c.in-Some.entry (c.requires.few h.place h.stop h.at h.is).1 (from_place h.stop.entries c.loop-passed._passed c.in-Some.entry e) in
    subst (λ n. c.in-Some.entry.plane < n) (sym c.loop-passed.invariant.size) w

pub loop-passed-preserved : goal.loop-passed-preserved
loop-passed-preserved c = record {
  size = ap (λ s. length s.states) c.set.ensures.signs ∙ (length-set c.loop-passed.signs.states c.in-Some.entry.plane (with_sign c.stop_sign.result (state_at c.loop-passed.signs.states c.in-Some.entry.plane)) ∙ c.loop-passed.invariant.size);
  left = λ m s at is.
      let l = c.loop-passed.invariant.left m s at is in
      let lt = slice_get_within s.entries c.loop-passed._passed c.in-Some.entry (c.in-Some.ensures m s at is c.loop-passed._passed l) in
      record { within = omega (arith, lt); is = c.next_entry-at.ensures c.args.circle m s c.loop-passed._passed at lt l };
  rest = λ m s at is.
      let e = c.in-Some.ensures m s at is c.loop-passed._passed (c.loop-passed.invariant.left m s at is) in
      stop_sign_next c.args.leaves s.entries c.loop-passed._passed c.in-Some.entry c.stop_sign.result c.loop-passed.signs c.set.new.self (with_stop_signs c.args.leaves s.entries c.args.signs.now) e c.stop_sign.ensures c.set.ensures.signs (c.loop-passed.invariant.rest m s at is);
}

pub returns : goal.returns
returns c m s at is =
    let f = (c.requires.few m s at is).0 in
    let past = c.loop-passed-test.false in
    stop_sign_end c.args.leaves s.entries c.loop-passed._passed c.loop-passed.signs (with_stop_signs c.args.leaves s.entries c.args.signs.now) (omega (arith, f, past)) (c.loop-passed.invariant.rest m s at is)
