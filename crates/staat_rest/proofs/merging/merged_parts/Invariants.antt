use Rattle.std.proofs.Common.{take}
use Rattle.std.specs.List.{AllZip}
use Rattle.staat_rest.specs.Merging.{IsMergedPart}
use Rattle.staat_rest.proofs.merging.merged_parts.Given as goal

abbrev pub invariant-loop-list : goal.invariant-loop-list
invariant-loop-list l = AllZip (IsMergedPart l.parts) (take l.list-index l.origins) l.merged.items
