pub mod Instance
pub mod Rules
