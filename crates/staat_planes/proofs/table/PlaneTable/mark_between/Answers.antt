use Rattle.std.proofs.Common.{◌≡◌, ◌<◌, ℕ, arith, subst}
use Rattle.staat_vec.specs.declared.vector.V3.{V3}
use Rattle.staat_pairs.specs.Searches.{HasPlaneBetween, IsCanonOf, arc_of}
use Rattle.staat_pairs.specs.Tables.{facets_of, pieces_of}
use Rattle.staat_planes.specs.MarkedPlanes.{AddsMarks}
use Rattle.staat_planes.proofs.Marking.{IsBelow, adds_as, adds_more}
use Rattle.staat_planes.proofs.table.PlaneTable.mark_between.Goals as goal

pub loop-j-preserved : goal.loop-j-preserved
loop-j-preserved c =
    adds_more c.args.self.now.planes (λ j n. IsCanonOf (facets_of c.args.self.now (arc_of c.args.a c.loop-i.i c.args.b j)) n) c.loop-j.j c.loop-i.marks c.loop-j.marks c.mark_facets.new.marks c.loop-j.invariant
    c.mark_facets.ensures

pub loop-i-preserved : goal.loop-i-preserved
loop-i-preserved c =
    let t = c.args.self.now in
    let At : ℕ → ℕ → V3 → Type 0 = λ i j n. IsCanonOf (facets_of t (arc_of c.args.a i c.args.b j)) n in
    let all : c.loop-j.j ≡ pieces_of t c.args.b = (let end = c.pieces-j-end.ensures.is in let past = c.loop-j-test.false in let most = c.loop-j.auto.j-end in omega (arith, end, past, most)) in
    adds_more t.planes (λ i. IsBelow (At i) (pieces_of t c.args.b)) c.loop-i.i c.args.marks.now c.loop-i.marks c.loop-j.marks c.loop-i.invariant
    (subst (λ m. AddsMarks t.planes (IsBelow (At c.loop-i.i) m) c.loop-i.marks c.loop-j.marks) all c.loop-j.invariant)

pub returns : goal.returns
returns c =
    let t = c.args.self.now in
    adds_as t.planes (IsBelow (λ i. IsBelow (λ j n. IsCanonOf (facets_of t (arc_of c.args.a i c.args.b j)) n) (pieces_of t c.args.b)) c.loop-i.i) (λ n. HasPlaneBetween t n c.args.a c.args.b) c.args.marks.now c.loop-i.marks c.loop-i.invariant
    (λ n h. record {
      i = h.j;
      j = h.holds.j;
      across = record { a_in = c.requires.a_in; b_in = c.requires.b_in; different = (omega arith); i_is = (let lt = h.lt in omega (arith, c.pieces-i-end.ensures.is, lt)); j_is = h.holds.lt };
      plane = h.holds.holds;
    })
    (λ n h. record { j = h.i; lt = (let lt : h.i < pieces_of t c.args.a = h.across.i_is in omega (arith, c.pieces-i-end.ensures.is, lt)); holds = record { j = h.j; lt = h.across.j_is; holds = h.plane } })
