-- Whether a wall shows that one piece never meets another.
use Rattle.std.specs.Prelude.{◌≡◌, List, Ok, codes}
use Rattle.staat_vec.specs.declared.vector.V3.{V3}
use Rattle.staat_model.specs.Walls.{IsShown}
use Rattle.staat_model.specs.Meeting.{Meets}
use Rattle.staat_input.specs.declared.answer.Answer.{Answer}
use Rattle.staat_input.specs.Work.{Files, Found, Then, answer}
use Rattle.staat_input.specs.Pieces.{IsPieceOf}
use Rattle.staat_words.specs.declared.request.PairRequest.{PairRequest}

-- the last step for two pieces: whether the wall n shows that p never meets q along d
pub data IsJudged (p q : List V3) (d n : V3) : Found Answer → Type 0 where
  free : {found : Found Answer} → IsShown p q d n → found ≡ Ok (answer 0 (codes "free\n")) →
      IsJudged p q d n found
  not_shown : {found : Found Answer} → (IsShown p q d n → ⊥) →
      found ≡ Ok (answer 1 (codes "not shown\n")) → IsJudged p q d n found

-- what the work on `pair` finds: the first file is read and judged before the second
abbrev pub PairWork : PairRequest → Files → Found Answer → Type 0
PairWork request files found =
    Then (IsPieceOf files request.digits request.first) (λ p. Then (IsPieceOf files request.digits request.second)
    (λ q. IsJudged p q request.along request.wall)) found

-- the first file's piece never meets the second's along the direction
abbrev pub NeverMeet : Files → PairRequest → Type 0
NeverMeet files request = (p : List V3) × (q : List V3) ×
    IsPieceOf files request.digits request.first (Ok p) × IsPieceOf files request.digits request.second (Ok q) ×
    (Meets p q request.along → ⊥)

-- the wall does not show that the pieces never meet
abbrev pub IsNotShown : Files → PairRequest → Type 0
IsNotShown files request = (p : List V3) × (q : List V3) ×
    IsPieceOf files request.digits request.first (Ok p) × IsPieceOf files request.digits request.second (Ok q) ×
    (IsShown p q request.along request.wall → ⊥)
