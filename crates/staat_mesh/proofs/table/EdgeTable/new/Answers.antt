use Rattle.std.proofs.Common.{ℕ, List, [], sym, subst}
use Rattle.staat_mesh.specs.Counts.{Counts}
use Rattle.staat_mesh.specs.declared.table.TheConstants.{CELLS}
use Rattle.staat_mesh.proofs.CountLemmas.{counts_none}
use Rattle.staat_mesh.proofs.table.EdgeTable.new.Goals as goal

pub returns : goal.returns
returns c = subst (λ (table : List ℕ). Counts table []) (sym (c.in_ok-counts.ensures.items_if_clones_equal (λ y d. d))) (counts_none CELLS)
