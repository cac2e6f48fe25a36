-- What a shelf and a sink tell of themselves.
use Rattle.std.specs.Prelude.{ℕ, List, Option}
use Rattle.staat_edge.specs.Readings.{FileReading}

-- Where the shelf tells what it holds: each file's name and bytes, the name of the open file, and the held file at
-- which a call failed last. In any case: how often it has failed, the place in the open file, which is how many of its
-- bytes were read, and the readings of all files that were opened, the last one first.
pub record ShelfTold : Type 0 where
  pub holds : Option (List (List ℕ × List ℕ))
  pub faults : ℕ
  pub failed : Option (List ℕ)
  pub opened : Option (List ℕ)
  pub place : Option ℕ
  pub given : List FileReading

-- Where the sink tells it, the bytes taken so far; and how often it has failed.
pub record SinkTold : Type 0 where
  pub wrote : Option (List ℕ)
  pub faults : ℕ
