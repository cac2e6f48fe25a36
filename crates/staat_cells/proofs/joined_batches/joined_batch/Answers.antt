use Rattle.std.proofs.Common.{◌∙◌, ◌↔◌, ℕ, List, All, subst, sym}
use Rattle.staat_vec.specs.declared.vector.Sign.{Sign}
use Rattle.staat_cells.specs.declared.batches.PlaneTest.{PlaneTest}
use Rattle.staat_cells.specs.declared.joined_batches.JoinedTest.{JoinedTest}
use Rattle.staat_cells.specs.Batches.{HasParts, HasPlanesUpTo, IsLeftByAll, joined_outside, outside_by}
use Rattle.staat_cells.proofs.GraphRows.{joined_arc}
use Rattle.staat_cells.proofs.joined_batches.joined_batch.Goals as goal

pub returns : goal.returns
returns c =
    let same = c.in_ok-arcs.ensures.items_if_clones_equal (λ x y e. e) ∙ c.deref-3.ensures.value in record {
      rules = record {
        planes = subst (λ (l : List JoinedTest). All (HasPlanesUpTo c.last_plane-last.result) l) c.deref-2.ensures.value
            c.last_plane-last.ensures;
        parts = subst (All HasParts) (sym same) c.requires;
      };
      arcs = joined_arc c.args.batch.now
          (record { tests = c.in_ok-tests.tests; last = c.last_plane-last.result; arcs = c.in_ok-arcs.arcs }) same
          (subst (λ (l : List PlaneTest). (signs : List Sign) (j : ℕ) → IsLeftByAll (joined_outside signs) c.in_ok-tests.tests.items j
          ↔ IsLeftByAll (outside_by signs) l j) c.deref.ensures.value c.in_ok-tests.ensures);
    }
