pub mod Lookups
pub mod HeldLists
pub mod HeldAddresses
pub mod ChangedRows
pub mod RowLists
pub mod UnlockedRows
