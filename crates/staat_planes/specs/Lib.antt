pub mod Tables
pub mod Refusals
pub mod PairOrder
pub mod MarkedPlanes
pub mod SetPlanes
