use Rattle.std.proofs.Common.{◌≡◌, ℕ, [], Contains, get_or, length, take}
use Rattle.staat_rest.specs.Nodes.{holds_of}
use Rattle.staat_rest.proofs.groups.take_holds.Given as goal

abbrev pub invariant-loop-node : goal.invariant-loop-node
invariant-loop-node l = record {
  joined : l.joined.items ≡ holds_of l.initial.lists.items (take l.node-index l.nodes);
  many : length l.lists.items ≡ length l.initial.lists.items;
  others : (n : ℕ) → (Contains (take l.node-index l.nodes) n → ⊥) → get_or l.lists.items n [] ≡ get_or l.initial.lists.items n [];
}
