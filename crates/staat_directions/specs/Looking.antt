-- What the parts are.
use Rattle.std.specs.Prelude.{◌≡◌, Ok}
use Rattle.staat_words.specs.declared.request.Asked.{Asked}
use Rattle.staat_text.specs.Parts.{look_text}
use Rattle.staat_input.specs.declared.answer.Answer.{Answer}
use Rattle.staat_input.specs.Work.{Files, Found, Then, answer}
use Rattle.staat_input.specs.Assembling.{IsSoundOf}

-- what the work on `look` finds
abbrev pub LookWork : Asked → Files → Found Answer → Type 0
LookWork asked files found =
    Then (IsSoundOf files asked) (λ parts found. found ≡ Ok (answer 0 (look_text parts))) found
