use Rattle.std.proofs.Common.{◌∙◌, ◌≡◌, ◌+◌, ◌++◌, List, ap, arith, length, map, sym, subst}
use Rattle.staat_ring.specs.declared.entry.Entry.{Entry}
use Rattle.staat_ring.specs.Builds.{AreStopsFrom, opposite, stops_from}
use Rattle.staat_ring.proofs.Divided.{around_are, around_is}
use Rattle.staat_ring.proofs.stop_list.Stops.around.Goals as goal

pub invariant_of-result : goal.invariant_of-result
invariant_of-result c =
    let es = c.args.entries.items in
    let ends = c.args.ends.items in
    let count : c.len-count.result ≡ length es = omega (arith, c.len-count.ensures, c.args.entries.ok.0) in
    let ends_are = c.in_ok-ends.ensures ∙ ap (λ n. ends ++ map (λ end. n + end) ends) count in
    subst (λ (l : List Entry). AreStopsFrom 0 (length l) c.in_ok-ends.ends.items) (sym (c.in_ok-entries.ensures))
    (subst (AreStopsFrom 0 (length (es ++ map opposite es))) (sym ends_are) (around_are es c.requires.last.0 ends c.requires.last.1 c.requires.stops))

pub returns : goal.returns
returns c =
    let es = c.args.entries.items in
    let ends = c.args.ends.items in
    let count : c.len-count.result ≡ length es = omega (arith, c.len-count.ensures, c.args.entries.ok.0) in
    let ends_are = c.in_ok-ends.ensures ∙ ap (λ n. ends ++ map (λ end. n + end) ends) count in
    (λ i. stops_from 0 (ends_are i) (c.in_ok-entries.ensures i)) ∙ around_is es c.requires.last.0 ends c.requires.last.1 c.requires.stops
