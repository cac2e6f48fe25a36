use Rattle.std.proofs.Common.{◌∙◌, ap, ◌≡◌, arith, length, subst, sym}
use Rattle.std.proofs.lemmas.Option.{same_Some, slice_get_within}
use Rattle.staat_vec.specs.declared.vector.V3.{V3}
use Rattle.staat_vec.specs.Vectors.{dot, sign}
use Rattle.staat_ring.specs.SignChanges.{with_plane_sign}
use Rattle.staat_ring.specs.Belonging.{BelongTo}
use Rattle.staat_ring.proofs.Built.{below_all}
use Rattle.staat_ring.proofs.SignAll.{more_done, belong_same, signed_same}
use Rattle.staat_ring.proofs.WholeCircles.{all}
use Rattle.staat_ring.proofs.counted_signs.CountedSigns.enter.Goals as goal

pub loop-j-preserved : goal.loop-j-preserved
loop-j-preserved c =
    let t = c.args.table.now in
    let k = c.loop-j.j in
    let g = c.sign.result in
    record {
      end = c.loop-j.invariant.end;
      made = subst (BelongTo t) (sym c.set.ensures.signs) (belong_same t c.loop-j.self (with_plane_sign k g c.loop-j.self) (signed_same k g c.loop-j.self) c.loop-j.invariant.made);
      done = more_done t.planes (all t.planes) c.of-course.result c.loop-j.self c.set.new.self k g (omega (arith, c.loop-j-test.true, c.loop-j.invariant.end, c.loop-j.invariant.made.states))
          (λ n at. subst (λ (m : V3). g ≡ sign (dot m c.of-course.result)) (same_Some c.plane.result n (sym c.plane.ensures.is ∙ at)) c.sign.ensures) c.set.ensures.signs c.loop-j.invariant.done;
    }

pub returns-clause-signs : goal.returns-clause-signs
returns-clause-signs c j n at =
    let lt = slice_get_within c.args.table.now.planes j n at in
    c.loop-j.invariant.done j n (omega (arith, lt, c.loop-j.invariant.end, c.loop-j-test.false)) (record { listed = below_all (length c.args.table.now.planes) j lt; is = at })
    ∙ ap (λ v. sign (dot n v)) (c.of-course.ensures ∙ (c.direction-d.ensures.is ∙ c.vertex.ensures))
