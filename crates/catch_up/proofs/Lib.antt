pub mod Numbers
pub mod PassedNumbers
pub mod Courses
pub mod OnWay
pub mod Completing
