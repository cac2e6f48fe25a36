-- The text of a beginning, or of a set that has none.
use Rattle.std.specs.Prelude.{◌++◌, ℕ, List, Option, None, Some, codes, nat_lt, if◌then◌else◌}
use Rattle.std.specs.FinSet as set
use Rattle.staat_model.specs.declared.set.PartSet.{PartSet}
use Rattle.staat_text.specs.PlanTexts.{direction_text, parts_listed}
use Rattle.staat_local.specs.declared.side.Loose.{Loose}

-- the word for a set no side of which begins to move: a part alone has no side
abbrev pub held_word : PartSet → List ℕ
held_word of = if nat_lt (set.len of) 2 then codes "single" else codes "tight"

-- `loose P .. along X Y Z away from Q ..`, or `tight P ..`, or `single P`
abbrev pub local_text : PartSet → Option Loose → List ℕ
local_text of (Some loose) =
    codes "loose" ++ parts_listed loose.side ++ direction_text loose.d
    ++ parts_listed (set.difference of loose.side) ++ codes "\n"
local_text of None = held_word of ++ parts_listed of ++ codes "\n"
