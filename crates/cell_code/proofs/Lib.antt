pub mod CellCounts
pub mod FewCells
