-- Ids, names, and worlds that are written out.
pub mod Ids
pub mod Names
pub mod Written
