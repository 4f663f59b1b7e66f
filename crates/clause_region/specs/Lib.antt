pub mod ClauseRegion
pub mod Run
