pub mod Generate
pub mod Numbers
pub mod Words
