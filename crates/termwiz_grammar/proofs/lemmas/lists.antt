pub mod Decidable
pub mod ListMembers
