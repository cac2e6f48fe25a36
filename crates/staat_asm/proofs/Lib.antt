pub mod SearchLemmas
pub mod SoundLemmas
pub mod PlacingLemmas
pub mod BoxLemmas
