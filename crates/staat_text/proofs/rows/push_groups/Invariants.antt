use Rattle.std.proofs.Common.{◌≡◌, ◌++◌, take}
use Rattle.std.specs.Prelude.{flat_map}
use Rattle.staat_model.specs.SetLists.{set_of}
use Rattle.staat_text.specs.GraphTexts.{group_line}
use Rattle.staat_text.proofs.rows.push_groups.Given as goal

abbrev pub invariant-loop-group : goal.invariant-loop-group
invariant-loop-group l = l.text.items ≡ l.initial.text.items ++ flat_map (λ group. group_line (set_of group)) (take l.group-index l.groups)
