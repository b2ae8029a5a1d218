pub mod FormBytes
pub mod FormKinds
pub mod PortLayouts
pub mod FormEnds
pub mod FormOrNot
pub mod Unfinished
pub mod ExtraFacts
pub mod TitleEvents
