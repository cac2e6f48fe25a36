pub mod OneAnswer
pub mod RightAnswers
