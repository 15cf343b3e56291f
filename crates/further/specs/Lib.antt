-- Demand 3: the relation between an old plan and a new one, and the statement.
pub mod Later
pub mod Demand3
