pub mod Answer
pub mod Asked
pub mod Carried
pub mod Command
pub mod ModelText
pub mod Statuses
pub mod Task
pub mod Told
