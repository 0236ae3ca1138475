mod Acting
pub mod Members
pub mod Others
