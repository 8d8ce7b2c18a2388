pub mod GoodLines
pub mod OneJudgement
mod PieceReasons
mod Checkers
mod TwoVersions
mod PieceBehind
mod Told
mod Faults
pub mod Judges
