use Rattle.std.proofs.Common.{◌≡◌, ◌<◌, ◌≤◌, ℕ, get_or}
use Rattle.std.specs.Prelude.{◌||◌, false}
use Rattle.staat_graph.proofs.rows.join.Given as goal

abbrev pub invariant-loop-j : goal.invariant-loop-j
invariant-loop-j l = record {
  done : (i : ℕ) → i < l.j → get_or l.marks i false ≡ (get_or l.initial.marks i false || get_or l.others i false);
  rest : (i : ℕ) → l.j ≤ i → get_or l.marks i false ≡ get_or l.initial.marks i false;
}
