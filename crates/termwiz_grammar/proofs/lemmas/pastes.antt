pub mod FirstEnd
pub mod HeldBytes
pub mod PartsJoin
