pub mod CellsLemmas
pub mod OneAnswer
pub mod PairLemmas
pub mod RightAnswers
