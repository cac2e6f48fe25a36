use Rattle.std.proofs.Common.{◌≡◌, Bool, List, true, false, length, ap, sym, ◌∙◌, set}
use Rattle.std.specs.Prelude.{replicate}
use Rattle.staat_holds.proofs.ReachLemmas.{marks_begun}
use Rattle.staat_holds.proofs.reach.reaches_all.Goals as goal
use Rattle.staat_vec.proofs.ListLaws.{written_back}

pub returns : goal.returns
returns c =
    let fresh = c.in_ok-marks.marks in
    let begun : c.as_mut_slice.result.now ≡ set (replicate c.args.count false) 0 true = c.as_mut_slice.ensures.value ∙ ap (λ (ms : List Bool). set ms 0 true) (c.in_ok-marks.ensures.items_if_clones_equal (λ y d. d)) in
    let same : length c.mark_all.new.marks ≡ length c.as_mut_slice.result.now = c.mark_all.auto.marks in
    let now : c.as_slice.result.now ≡ c.mark_all.new.marks = c.as_slice.ensures.value ∙ written_back (set fresh.items 0 true) c.mark_all.new.marks fresh.len (same ∙ ap length c.as_mut_slice.ensures.value) (sym c.as_mut_slice.ensures.len ∙ ap length c.as_mut_slice.ensures.value) in
    marks_begun c.args.ways.now c.args.count c.as_mut_slice.result.now c.mark_all.new.marks c.as_slice.result.now c.are_marked.result c.requires.some begun same now c.mark_all.ensures.kept (c.mark_all.ensures.reached 0) c.mark_all.ensures.shut c.are_marked.ensures
