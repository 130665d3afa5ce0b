pub mod Bodies
mod Reading
mod Appending
mod Cutting
mod Windows
mod Openings
mod Comparing
mod Covering
