pub mod BindersRead
pub mod Named
