-- The rules of the tables.
pub mod TableRules
