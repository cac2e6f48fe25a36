use Rattle.std.proofs.Common.{flat_map, take}
use Rattle.staat_short.specs.ShortTexts.{lines_of_hold}
use Rattle.staat_short.specs.ShortWriting.{AddsShortLines}
use Rattle.staat_short.proofs.writing.add_holds.Given as goal

abbrev pub invariant-holds : goal.invariant-holds
invariant-holds l = AddsShortLines l.initial.w l.w (flat_map lines_of_hold (take l.hold-index l.holds))
