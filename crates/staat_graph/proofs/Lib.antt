pub mod Arcs
pub mod Finite
pub mod Walking
pub mod Reaching
pub mod Classes
pub mod TreeLemmas
pub mod Sides
pub mod RowLemmas
