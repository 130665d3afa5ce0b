pub mod StreetGuide
pub mod HeldNumbers
pub mod GuideChanges
pub mod GuideIndex
