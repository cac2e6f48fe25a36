-- What a note makes of the steps so far.
use Rattle.std.specs.Prelude.{List, ◌∷◌}
use Rattle.staat_edge.specs.Steps.{FileStep, opens_file, gives_bytes, meets_end}
use Rattle.staat_edge.specs.declared.trace.Note.{Note}
use Rattle.staat_edge.specs.declared.trace.Note.TheVariants as note

abbrev pub noted_step : Note → FileStep
noted_step (note.Opened name) = opens_file name.now
noted_step (note.Gave bytes) = gives_bytes bytes.now
noted_step note.Ended = meets_end

abbrev pub noted : List FileStep → Note → List FileStep
noted steps n = noted_step n ∷ steps
