use Rattle.std.proofs.Common.{◌<◌, ◌≤◌, arith, sym, subst, take}
use Rattle.std.proofs.lemmas.Option.{slice_get_within, get_or_from_slice_get}
use Rattle.std.proofs.lemmas.List.Elements.{All-contains, All-more, All-nil}
use Rattle.staat_vec.proofs.ListLaws.{All-taken}
use Rattle.staat_ring.specs.declared.entry.Entry.{Entry}
use Rattle.staat_ring.proofs.SignAll.{first_after}
use Rattle.staat_ring.proofs.walk.entry_after.Goals as goal

pub loop-passed-init : goal.loop-passed-init
loop-passed-init c = record {
  left = λ m s at is. record { within = omega arith; is = c.first_entry-at.ensures c.args.circle m s at is };
  passed = λ m s at is. All-nil (λ e. e.plane ≤ c.args.i);
}

pub entry-requires : goal.entry-requires
entry-requires c =
    let h = c.requires.at in
    record { stop = h; entry = c.loop-passed._passed; here = c.loop-passed.invariant.left h.place h.stop h.at h.is }

pub next_entry-at-requires : goal.next_entry-at-requires
next_entry-at-requires c =
    let h = c.requires.at in
    (c.args.circle, c.args.node, record { stop = h; entry = c.loop-passed._passed; here = c.loop-passed.invariant.left h.place h.stop h.at h.is })

pub returns-in-None : goal.returns-in-None
returns-in-None c m s at is =
    let e = c.in-None.ensures m s at is c.loop-passed._passed (c.loop-passed.invariant.left m s at is) in
    All-taken (λ e. e.plane ≤ c.args.i) s.entries c.loop-passed._passed (omega (arith, e)) (c.loop-passed.invariant.passed m s at is)

pub returns : goal.returns
returns c m s at is =
    let f = c.requires.few m s at is in
    let t = c.loop-passed-test.false in
    All-taken (λ e. e.plane ≤ c.args.i) s.entries c.loop-passed._passed (omega (arith, f, t)) (c.loop-passed.invariant.passed m s at is)

pub returns-then-i-entry : goal.returns-then-i-entry
returns-then-i-entry c m s at is =
    let e = c.in-Some.ensures m s at is c.loop-passed._passed (c.loop-passed.invariant.left m s at is) in
    first_after (λ x. c.args.i < x.plane) s.entries c.loop-passed._passed c.in-Some.entry e
    (λ x cx lt. let le = All-contains (λ e. e.plane ≤ c.args.i) (take c.loop-passed._passed s.entries) x (c.loop-passed.invariant.passed m s at is) cx in absurd (omega (arith, lt, le)))
    c.if-i-entry.true

pub loop-passed-preserved : goal.loop-passed-preserved
loop-passed-preserved c = record {
  left = λ m s at is.
      let l = c.loop-passed.invariant.left m s at is in
      let e = c.in-Some.ensures m s at is c.loop-passed._passed l in
      let lt = slice_get_within s.entries c.loop-passed._passed c.in-Some.entry e in
      record { within = omega (arith, lt); is = c.next_entry-at.ensures c.args.circle m s c.loop-passed._passed at lt l };
  passed = λ m s at is.
      let l = c.loop-passed.invariant.left m s at is in
      let e = c.in-Some.ensures m s at is c.loop-passed._passed l in
      let lt = slice_get_within s.entries c.loop-passed._passed c.in-Some.entry e in
      All-more (λ e. e.plane ≤ c.args.i) s.entries c.loop-passed._passed c.in-Some.entry lt (c.loop-passed.invariant.passed m s at is)
      (subst (λ (x : Entry). x.plane ≤ c.args.i) (sym (get_or_from_slice_get s.entries c.loop-passed._passed c.in-Some.entry c.in-Some.entry e)) c.if-i-entry.false);
}
