-- The blocking graph along a direction.
use Rattle.std.specs.Prelude.{◌≡◌, ℕ, List, length, Ok}
use Rattle.staat_vec.specs.declared.vector.V3.{V3}
use Rattle.staat_model.specs.declared.assembly.Part.{Part}
use Rattle.staat_graph.specs.Blocking.{ShowsBlocking}
use Rattle.staat_text.specs.GraphTexts.{IsGraphText}
use Rattle.staat_input.specs.declared.answer.Answer.{Answer}
use Rattle.staat_input.specs.Work.{Found, Files, Then}
use Rattle.staat_limits.specs.declared.limits.TheConstants.{MOST_PLANES}
use Rattle.staat_input.specs.Assembling.{IsSoundOf}
use Rattle.staat_input.specs.Counting.{AreCounted, all_parts}
use Rattle.staat_words.specs.declared.request.GraphRequest.{GraphRequest}

-- The last step for a graph: the text of the blocking graph of all parts along d, whose arcs stand in rows of bits.
pub record IsGraphed (parts : List Part) (d : V3) (found : Found Answer) : Type 0 where
  pub rows : List ℕ
  pub text : List ℕ
  pub shows : ShowsBlocking parts d (all_parts parts) rows
  pub text_is : IsGraphText (length parts) d rows text
  pub is : found ≡ Ok (record { status = 0; text = text })

-- what it finds for sound parts: their planes are counted, and then the graph is told
abbrev pub IsCountedGraph : V3 → List Part → Found Answer → Type 0
IsCountedGraph d parts found = Then (AreCounted parts MOST_PLANES) (λ planes. IsGraphed parts d) found

-- what the work on `graph` finds
abbrev pub GraphWork : GraphRequest → Files → Found Answer → Type 0
GraphWork request files found =
    Then (IsSoundOf files request.asked) (λ parts. Then (AreCounted parts MOST_PLANES)
    (λ planes. IsGraphed parts request.along)) found
