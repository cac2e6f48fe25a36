use Rattle.std.proofs.Common.{◌≡◌, ◌<◌, ◌+◌, ◌∙◌, ap, arith, refl, subst, sym, true≢false, length, take}
use Rattle.std.proofs.lemmas.List.{length-set, length-take-le, take_more_set}
use Rattle.staat_planes.proofs.PairSteps.{first_vertices}
use Rattle.std.specs.Ordering.{nat_cmp}
use Rattle.staat_vec.specs.Lists.{Lists}
use Rattle.staat_graph.proofs.RowLemmas.{listed_next, listed_same, none_listed}
use Rattle.staat_planes.specs.MarkedPlanes.{IsPlaneMarked}
use Rattle.staat_planes.proofs.UsedPlanes.{marked_planes, marked_rise}
use Rattle.staat_planes.proofs.pairs.PlanePairs.of.Goals.{then-marks-k, else-marks-k}
use Rattle.staat_planes.proofs.pairs.PlanePairs.of.Goals as goal

pub loop-k-init : goal.loop-k-init
loop-k-init c = record { room = refl; few = omega arith; marked = none_listed (IsPlaneMarked c.used_marks-marks.result) }

pub loop-k-preserved : goal.loop-k-preserved
loop-k-preserved c =
    let k = c.loop-k.k in
    let marks = c.used_marks-marks.result in
    let ks = take c.loop-k.count c.loop-k.numbers in
    let few = c.loop-k.invariant.few in
    elim c.if-marks-k.branch [
      | then-marks-k w ↦ (record {
        room = ap length w.numbers-is ∙ length-set c.loop-k.numbers c.loop-k.count k ∙ c.loop-k.invariant.room;
        few = let e = w.count-is in omega (arith, few, e);
        marked = subst (Lists nat_cmp (λ m. (m < k + 1) × IsPlaneMarked marks m))
            (sym ((λ i. take (w.count-is i) (w.numbers-is i)) ∙ take_more_set c.loop-k.numbers c.loop-k.count k (let room = c.loop-k.invariant.room in let lt = c.loop-k-test.true in let most = c.len-k-end.ensures.most in omega (arith, few, room, lt, most))))
            (listed_next (IsPlaneMarked marks) k ks c.loop-k.invariant.marked w.if-marks-k.true);
      })
      | else-marks-k w ↦ (record {
        room = ap length w.numbers-is ∙ c.loop-k.invariant.room;
        few = let e = w.count-is in omega (arith, few, e);
        marked = subst (Lists nat_cmp (λ m. (m < k + 1) × IsPlaneMarked marks m)) (sym (λ i. take (w.count-is i) (w.numbers-is i)))
            (listed_same (IsPlaneMarked marks) k ks c.loop-k.invariant.marked (λ told. true≢false (sym told ∙ w.if-marks-k.false)));
      })
    ]

pub returns : goal.returns
returns c =
    let t = c.args.table.now in
    let marks = c.used_marks-marks.result in
    let ks = take c.loop-k.count c.loop-k.numbers in
    let few = c.loop-k.invariant.few in
    let long = c.len-k-end.ensures.is in
    let most = c.len-k-end.ensures.most in
    let last = c.loop-k.auto.k-end in
    let all : c.loop-k.k ≡ length t.planes = (let test = c.loop-k-test.false in omega (arith, test, last, long)) in
    let below = subst (λ n. Lists nat_cmp (λ m. (m < n) × IsPlaneMarked marks m) ks) all c.loop-k.invariant.marked in
    let room = c.loop-k.invariant.room in
    let used = length-take-le c.loop-k.count c.loop-k.numbers (omega (arith, few, room, last, most)) in
    let planes = marked_planes t c.args.w marks ks c.used_marks-marks.ensures.is below c.len-k-end.ensures.rules.planes c.requires (omega (arith, used, few, all)) in
    record {
      place = record { room = room; most = omega (arith, few, last, most); numbers = marked_rise t c.args.w marks ks c.used_marks-marks.ensures.is below; first = omega arith; order = omega arith };
      planes = planes;
      vertices = first_vertices t c.args.w (record { numbers = c.loop-k.numbers; count = c.loop-k.count; first = 0; second = 1 }) refl refl planes;
    }
