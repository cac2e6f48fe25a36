use Rattle.std.proofs.Common.{◌≡◌, ◌+◌, ◌<◌, arith, sym, subst, ◌∙◌, length, rules}
use Rattle.std.proofs.lemmas.List.{length-map}
use Rattle.std.proofs.lemmas.Option.{slice_get_within}
use Rattle.staat_ring.specs.Rings.{linked_of}
use Rattle.staat_ring.specs.CountedSigns.{Signed}
use Rattle.staat_ring.specs.SignChanges.{with_plane_sign}
use Rattle.staat_ring.specs.Belonging.{BelongTo}
use Rattle.staat_ring.proofs.SignAll.{belong_same, signed_same, Done, count_all, count_more, count_same, more_done, same_done}
use Rattle.staat_ring.proofs.walk.sign_all.Goals as goal
use Rattle.staat_ring.proofs.walk.sign_all.Goals.{then-is_linked, else-is_linked}
use Rattle.staat_vec.proofs.Truth.{false_test_clash}

pub loop-k-preserved : goal.loop-k-preserved
loop-k-preserved g c = elim c.if-is_linked.branch [
  | then-is_linked w ↦
      let lt : c.loop-k.k < length c.loop-k.signs.states = (let s = c.loop-k.invariant.made.states in let a = c.loop-k.invariant.all in let t = c.loop-k-test.true in omega (arith, s, a, t)) in
      let set : c.if-is_linked.signs ≡ with_plane_sign c.loop-k.k w.sign_at.result c.loop-k.signs = w.signs-is ∙ w.set.ensures.signs in
      record {
        all = c.loop-k.invariant.all;
        made = subst (BelongTo c.args.table.now) (sym set) (belong_same c.args.table.now c.loop-k.signs (with_plane_sign c.loop-k.k w.sign_at.result c.loop-k.signs) (signed_same c.loop-k.k w.sign_at.result c.loop-k.signs) c.loop-k.invariant.made);
        done = more_done c.args.table.now.planes (linked_of c.args.rings.now.rings) c.args.d c.loop-k.signs c.if-is_linked.signs c.loop-k.k w.sign_at.result lt w.sign_at.ensures.sign set c.loop-k.invariant.done;
        few = (let m = count_more c.loop-k.k (linked_of c.args.rings.now.rings) (c.is_linked.ensures.0 w.if-is_linked.true) in let s = w.steps-is in let e = w.sign_at.ensures.step in let f = c.loop-k.invariant.few in omega (arith, m, s, e, f));
      }
  | else-is_linked w ↦
      record {
        all = c.loop-k.invariant.all;
        made = subst (BelongTo c.args.table.now) (sym w.signs-is) c.loop-k.invariant.made;
        done = subst (λ (s : Signed). Done c.args.table.now.planes (linked_of c.args.rings.now.rings) c.args.d s (c.loop-k.k + 1)) (sym w.signs-is) (same_done c.args.table.now.planes (linked_of c.args.rings.now.rings) c.args.d c.loop-k.signs c.loop-k.k (λ h. false_test_clash c.is_linked.result w.if-is_linked.false (c.is_linked.ensures.1 h)) c.loop-k.invariant.done);
        few = (let m = count_same c.loop-k.k (linked_of c.args.rings.now.rings) in let s = w.steps-is in let f = c.loop-k.invariant.few in omega (arith, m, s, f));
      }
]

pub returns-clause-signs : goal.returns-clause-signs
returns-clause-signs g c j n h = c.loop-k.invariant.done j n (let lt = slice_get_within c.args.table.now.planes j n h.is in let a = c.loop-k.invariant.all in let t = c.loop-k-test.false in omega (arith, lt, a, t)) h

pub returns-clause-steps : goal.returns-clause-steps
returns-clause-steps g c = search (rules, length-map, count_all)
