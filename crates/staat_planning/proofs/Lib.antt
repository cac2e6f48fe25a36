pub mod DrillLemmas
pub mod ExplodeLemmas
pub mod OneAnswer
pub mod PlanLemmas
pub mod PrintedLemmas
pub mod RightAnswers
pub mod SomeOutcome
pub mod TableLemmas
