pub mod FlushesLeave
pub mod FlushesMatter
pub mod KindsOfRests
