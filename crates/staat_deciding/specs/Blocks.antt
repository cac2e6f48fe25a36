-- The blocking graph of a product along a direction.
use Rattle.staat_words.specs.declared.request.GraphRequest.{GraphRequest}
use Rattle.staat_directions.specs.Graphing.{IsGraphed}
use Rattle.staat_input.specs.declared.answer.Answer.{Answer}
use Rattle.staat_input.specs.Work.{Files, Found, Then}
use Rattle.staat_input.specs.Assembling.{IsSoundProductOf}

-- what the work on `blocks` finds: the graph that `graph` finds of an assembly, of a product of any size
abbrev pub BlocksWork : GraphRequest → Files → Found Answer → Type 0
BlocksWork request files found =
    Then (IsSoundProductOf files request.asked) (λ parts. IsGraphed parts request.along) found
