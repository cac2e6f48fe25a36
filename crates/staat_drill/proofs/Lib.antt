pub mod BoxLemmas
pub mod ProductLemmas
