pub mod HullLemmas
