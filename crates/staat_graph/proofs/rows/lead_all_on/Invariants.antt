use Rattle.std.proofs.Common.{◌≡◌, ◌<◌, ◌≤◌, ℕ, [], get_or, length}
use Rattle.staat_graph.specs.Rows.{LeadsOn}
use Rattle.staat_graph.proofs.rows.lead_all_on.Given as goal

abbrev pub invariant-loop-i : goal.invariant-loop-i
invariant-loop-i l = record {
  count : length l.table.items ≡ length l.initial.table.items;
  done : (m : ℕ) → m < l.i → LeadsOn l.k l.through (get_or l.initial.table.items m []) (get_or l.table.items m []);
  rest : (m : ℕ) → l.i ≤ m → get_or l.table.items m [] ≡ get_or l.initial.table.items m [];
}
