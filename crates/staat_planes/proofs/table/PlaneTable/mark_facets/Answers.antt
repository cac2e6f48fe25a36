use Rattle.std.proofs.Common.{◌≡◌, ◌<◌, ◌≤◌, ℕ, arith, rules, subst, get_or, length}
use Rattle.std.proofs.lemmas.Option.{slice_get-get_or}
use Rattle.staat_vec.specs.Primitives.{canon}
use Rattle.staat_vec.specs.Vectors.{origin}
use Rattle.staat_pairs.specs.Searches.{IsCanonOf}
use Rattle.staat_pairs.specs.Tables.{facets_of}
use Rattle.staat_planes.specs.MarkedPlanes.{AddsMarks}
use Rattle.staat_planes.proofs.Marking.{IsBelow, adds_as, adds_more, facet_marked, facet_marks, one_mark}
use Rattle.staat_planes.proofs.table.PlaneTable.mark_facets.Goals as goal

room : {a b : ℕ} → a ≤ 1024 → b ≡ 1024 → a ≤ b
room le e = omega (arith, le, e)

pub loop-m-preserved : goal.loop-m-preserved
loop-m-preserved c =
    let t = c.args.self.now in
    let facets = facets_of t c.args.arc in
    let n = get_or facets c.loop-m.m origin in
    let lt : c.loop-m.m < length facets = subst (λ k. c.loop-m.m < k) c.kept_count-m-end.ensures.is c.loop-m-test.true in
    adds_more t.planes (λ m n. n ≡ canon (get_or facets m origin)) c.loop-m.m c.args.marks.now c.loop-m.marks _ c.loop-m.invariant
    (one_mark t.planes (canon n) c.kept_number.result c.loop-m.marks c.kept_number.ensures.table.planes (c.kept_number.ensures.is n (slice_get-get_or facets c.loop-m.m origin lt)) (room c.kept_number.ensures.most (search rules)))

pub returns : goal.returns
returns c =
    let facets = facets_of c.args.self.now c.args.arc in
    let end : c.loop-m.m ≡ length facets = (let e = c.kept_count-m-end.ensures.is in let le = c.loop-m-test.false in let most = c.loop-m.auto.m-end in omega (arith, e, le, most)) in
    adds_as c.args.self.now.planes (IsBelow (λ m n. n ≡ canon (get_or facets m origin)) (length facets)) (IsCanonOf facets) c.args.marks.now c.loop-m.marks
    (subst (λ k. AddsMarks c.args.self.now.planes (IsBelow (λ m n. n ≡ canon (get_or facets m origin)) k) c.args.marks.now c.loop-m.marks) end c.loop-m.invariant)
    (facet_marks facets) (facet_marked facets)
