pub mod Ranking
pub mod Winner
