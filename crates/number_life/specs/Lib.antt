pub mod NumberLife
