pub mod NumberTable
pub mod HouseArithmetic
pub mod HeldRows
