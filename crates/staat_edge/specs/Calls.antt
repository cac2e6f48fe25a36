-- The calls of a shelf or a sink in memory: they are numbered from 0, and those of a list fail.
use Rattle.std.specs.Prelude.{Bool, ◌==◌}
use Rattle.std.specs.List.{list_any}
use Rattle.staat_edge.specs.declared.schedule.Schedule.{Schedule}
use Rattle.staat_edge.specs.Causes.{raised, raised_if}

-- the next call is one of those that fail
abbrev pub is_due : Schedule → Bool
is_due schedule = list_any (λ call. call == schedule.next) schedule.failing

-- the calls after one more, which raised the count of faults or did not
abbrev pub after_call : Bool → Schedule → Schedule
after_call raises before = record {
  failing = before.failing;
  next = raised before.next;
  faults = raised_if raises before.faults;
}
