pub mod ToldLaws
pub mod Claims
