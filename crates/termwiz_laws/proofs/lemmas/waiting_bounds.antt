pub mod BoundedRests
