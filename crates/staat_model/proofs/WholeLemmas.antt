-- A set of parts that is stuck stays whole on one side of each free side of a larger set.
use Rattle.std.proofs.Common.{ℕ, List, sym, subst, inl, inr}
use Rattle.std.specs.FinSet as set
use Rattle.staat_vec.specs.declared.vector.V3.{V3}
use Rattle.staat_model.specs.declared.assembly.Part.{Part}
use Rattle.staat_model.specs.declared.set.PartSet.{PartSet}
use Rattle.staat_model.specs.Plans.{IsStuckBy}
use Rattle.staat_model.specs.Removal.{IsFreeBy}
use Rattle.staat_model.specs.Sets.{Has, IsSubset}
use Rattle.staat_model.proofs.FreeSides.{member_or}
use Rattle.staat_model.proofs.SetMembers.{has-difference, has-intersection, has-union}

-- what a set has of a free side of a set that holds it is free of what it has of the rest
part_free : {R : List V3 → List V3 → V3 → Type 0} (parts : List Part) (a w s : PartSet) (d : V3) → IsSubset a w → IsFreeBy R parts s (set.difference w s) d
    → IsFreeBy R parts (set.intersection a s) (set.difference a (set.intersection a s)) d
part_free parts a w s d within free = record {
  moves = free.moves;
  clear = λ arc from to m.
      let f = (has-intersection a s arc.a).0 from in
      let t = (has-difference a (set.intersection a s) arc.b).0 to in
      free.clear arc f.1 ((has-difference w s arc.b).1 (within arc.b t.0, λ in_s. t.1 ((has-intersection a s arc.b).1 (t.0, in_s)))) m;
}

pub moves_whole_lemma : {R : List V3 → List V3 → V3 → Type 0} (parts : List Part) (a w s : PartSet) (d : V3) (p q : ℕ) → IsStuckBy R parts a → IsSubset a w
    → IsFreeBy R parts s (set.difference w s) d → Has a p → Has a q → Has s p → Has s q
moves_whole_lemma parts a w s d p q stuck within free p_in q_in moved = elim (member_or s q) [
  | inl has ↦ has
  | inr out ↦ absurd (stuck.held (set.intersection a s) d (record {
    nonempty = (p, (has-intersection a s p).1 (p_in, moved));
    within = λ r h. ((has-intersection a s r).0 h).0;
    proper = λ same. out ((has-intersection a s q).0 (subst (λ (u : PartSet). Has u q) (sym same) q_in)).1;
  }) (part_free parts a w s d within free))
]

pub left_within : (a b : PartSet) → IsSubset a (set.union a b)
left_within a b q h = (has-union a b q).1 (inl h)

pub right_within : (a b : PartSet) → IsSubset b (set.union a b)
right_within a b q h = (has-union a b q).1 (inr h)
