use Rattle.std.proofs.Common.{◌≡◌, ◌∙◌, ◌<◌, List, ap, arith, length, subst}
use Rattle.std.specs.Prelude.{slice_index_or}
use Rattle.staat_cells.specs.declared.batches.PlaneTest.{PlaneTest}
use Rattle.staat_cells.proofs.BatchCones.{half_space_pushed, half_space_set}
use Rattle.staat_cells.proofs.batches.add_half_space.Goals as goal

pub returns-then-at-len : goal.returns-then-at-len
returns-then-at-len c =
    let tests = c.args.tests.now.items in
    let at = c.place_of_plane-at.result in
    let d = c.index.result.now in
    let lt : c.place_of_plane-at.result < length c.args.tests.now.items = omega arith in
    let place = subst (λ (l : List PlaneTest). c.place_of_plane-at.result < length l
    → (x : PlaneTest) → (slice_index_or l c.place_of_plane-at.result x).plane ≡ c.args.half_space.plane)
    c.deref.ensures.value c.place_of_plane-at.ensures in
    half_space_set tests c.args.half_space c.args.j at d c.with_cone.result lt c.index.ensures
    (ap (λ (t : PlaneTest). t.plane) c.index.ensures ∙ place lt d) c.with_cone.ensures.plane
    c.with_cone.ensures.left

pub returns : goal.returns
returns c =
    half_space_pushed c.args.tests.now.items c.push.new.self.items c.args.half_space c.args.j c.with_cone-2.result
    c.with_cone-2.ensures.plane c.with_cone-2.ensures.left c.in_ok-push.ensures.items
