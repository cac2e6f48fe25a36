-- A set that is locked rules out every order of a set that holds it.
use Rattle.std.proofs.Common.{◌≡◌, ◌≤◌, ℕ, List, [], ◌∷◌, arith, subst, inl, inr}
use Rattle.std.specs.FinSet as set
use Rattle.staat_model.specs.declared.assembly.Part.{Part}
use Rattle.staat_model.specs.declared.set.PartSet.{PartSet}
use Rattle.staat_model.specs.Sets.{Has, IsSubset, single}
use Rattle.staat_model.proofs.SetMembers.{has-difference, has-single}
use Rattle.staat_model.proofs.SetSizes.{len-single}
use Rattle.staat_graph.proofs.Finite.{len_subset}
use Rattle.staat_linear.specs.declared.order.Leave.{Leave}
use Rattle.staat_linear.specs.Orders.{AreFreeInTurn, IsLocked, IsOrder, all_but}
use Rattle.staat_model.proofs.FreeSides.{member_or}

-- a member other than p
pub has-without : (w : PartSet) (p q : ℕ) → Has w q → (q ≡ p → ⊥) → Has (all_but w p) q
has-without w p q h other = (has-difference w (single p) q).1 (h, λ is. other ((has-single p q).0 is))

-- a set without p lies in a set without p that held it
pub within_without : (a w : PartSet) (p : ℕ) → IsSubset a w → (Has a p → ⊥) → IsSubset a (all_but w p)
within_without a w p within out q h = has-without w p q (within q h) (λ e. out (subst (Has a) e h))

pub without_within : (a w : PartSet) (p : ℕ) → IsSubset a w → IsSubset (all_but a p) (all_but w p)
without_within a w p within q h =
    let t = (has-difference a (single p) q).0 h in
    (has-difference w (single p) q).1 (within q t.0, t.1)

pub locked_lemma : (parts : List Part) (a w : PartSet) (leaves : List Leave) (last : ℕ) → IsLocked parts a → IsSubset a w → IsOrder w leaves last → AreFreeInTurn parts w leaves → ⊥
locked_lemma parts a w [] last locked within order free =
    let le : set.len a ≤ set.len (single last) = len_subset a (single last) (subst (IsSubset a) order within) in
    let one = len-single last in
    let two : 2 ≤ set.len a = locked.two in
    omega (arith, le, one, two)
locked_lemma parts a w (leave ∷ leaves) last locked within order free = elim (member_or a leave.part) [
  | inl in_a ↦ locked.held leave.part leave.d in_a (record {
    moves = free.0.moves;
    clear = λ arc from to. free.0.clear arc from (without_within a w leave.part within arc.b to);
  })
  | inr out ↦ locked_lemma parts a (all_but w leave.part) leaves last locked (within_without a w leave.part within out) order.1 free.1
]
