use Rattle.std.proofs.Common.{◌≡◌, ◌∙◌, ◌<◌, ℕ, Bool, List, arith, ap, false, get_or, length, map, subst, sym, true}
use Rattle.staat_decide.specs.Labels.{AreClasses}
use Rattle.staat_decide.specs.Peelings.{IsPeeling}
use Rattle.staat_decide.specs.Reaching.{IsMarkedPlace, label_of}
use Rattle.staat_decide.proofs.Held.{none_if, split_is}
use Rattle.staat_decide.proofs.peeling.split.Goals as goal

pub returns-in_default-clause-none : goal.returns-in_default-clause-none
returns-in_default-clause-none c j j_lt =
    let r = c.in_ok-marks.ensures.reached in
    let all = subst (λ (ms : List Bool). (k : ℕ) → k < length ms → IsMarkedPlace ms k) c.as_slice.ensures.value (none_if c.first_unmarked.result c.first_unmarked.ensures.none c.in_default.not-Some) in
    let lt : j < length c.in_ok-marks.marks.items = omega (arith, r.count, j_lt) in
    r.each j lt (all j lt)

pub returns-clause-some : goal.returns-clause-some
returns-clause-some c parts d moves is =
    let w = c.args.w.now in
    let marks = c.in_ok-marks.marks.items in
    let labels : c.as_slice-3.result.now ≡ map (label_of c.args.way) marks =
    c.as_slice-3.ensures.value ∙ c.in_ok-labels.ensures ∙ ap (map (label_of c.args.way)) c.as_slice-2.ensures.value in
    let classes = subst (λ (ls : List ℕ). AreClasses w ls 2 c.in_ok-sets.sets.items) labels c.in_ok-sets.ensures in
    let lt = subst (λ (ms : List Bool). c.in-Some._place < length ms) c.as_slice.ensures.value c.in-Some.ensures.before in
    let fresh = subst (λ (ms : List Bool). get_or ms c.in-Some._place true ≡ false) c.as_slice.ensures.value c.in-Some.ensures.fresh in
    subst (λ (sets : List (List ℕ)). IsPeeling parts d w sets) (sym c.from_vec.ensures)
    (split_is parts d w c.args.rows.now c.args.way marks c.in_ok-sets.sets.items c.in-Some._place moves is c.requires.ascending c.requires.some c.in_ok-marks.ensures.reached c.in_ok-marks.ensures.closed lt fresh classes)
