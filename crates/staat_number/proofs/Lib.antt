pub mod SpellingLemmas
pub mod NumberLemmas
