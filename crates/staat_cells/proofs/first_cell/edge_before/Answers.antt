use Rattle.std.proofs.Common.{◌≡◌, ◌∙◌, ℕ, ◌+◌, ◌-◌, ◌<◌, ◌≤◌, List, ap, arith, get_or, sym, subst, ⊎_elim}
use Rattle.std.specs.Prelude.{Some, slice_get}
use Rattle.std.proofs.lemmas.Option.{get_or_from_slice_get}
use Rattle.staat_vec.specs.declared.vector.V3.{V3}
use Rattle.staat_vec.proofs.ListLaws.{place_is}
use Rattle.staat_vec.proofs.Naturals.{lt_one_more_cases}
use Rattle.staat_cells.specs.FirstCell.{HasNoLow}
use Rattle.staat_cells.proofs.first_cell.edge_before.Goals as goal

-- with one plane more that was looked at
looked_more : (P : V3 → Type 0) (planes : List V3) (end j : ℕ) (e : V3)
    → ((k : ℕ) (g : V3) → end ≤ k + j → k < end → slice_get planes k ≡ Some g → P g) → P (get_or planes (end - 1 - j) e)
    → (k : ℕ) (g : V3) → end ≤ k + (j + 1) → k < end → slice_get planes k ≡ Some g → P g
looked_more P planes end j e below here k g le lt is = ⊎_elim
    (λ less. below k g (omega (arith, less)) lt is)
    (λ same. subst P (get_or_from_slice_get planes k g e is) (subst (λ m. P (get_or planes m e)) (sym (at k j end same)) here))
    (lt_one_more_cases end (k + j + 1) (omega (arith, le)))
  where
    at : (k j end : ℕ) → end ≡ k + j + 1 → k ≡ end - 1 - j
    at k j end same = omega (arith, same)

pub loop-j-preserved : goal.loop-j-preserved
loop-j-preserved c =
    looked_more (HasNoLow c.args.planes.now) c.args.planes.now c.args.end c.loop-j.j c.index-planes-place.result c.loop-j.invariant
    (subst (HasNoLow c.args.planes.now) (c.vector.ensures.is ∙ c.index-planes-place.is) c.in-None.ensures)

pub returns-in-Some : goal.returns-in-Some
returns-in-Some c =
    let planes = c.args.planes.now in
    let end = c.args.end in
    let place = end - 1 - c.loop-j.j in
    let before : place < end = omega (arith, c.loop-j-test.true) in
    record {
      g = c.vector.result;
      before = before;
      at = place_is planes place c.index-planes-place.result (omega (arith, before, c.requires.end)) c.index-planes-place.is
          ∙ ap Some (sym c.vector.ensures.is);
      edge = c.in-Some.ensures;
      later = λ k h more lt is. c.loop-j.invariant k h (omega (arith, more, c.loop-j-test.true)) lt is;
    }

pub returns : goal.returns
returns c = λ k g lt is. c.loop-j.invariant k g (omega (arith, c.loop-j-test.false)) lt is

pub edge_on-requires-clause-planes : goal.edge_on-requires-clause-planes
edge_on-requires-clause-planes c = c.requires.planes
