pub mod FlushedByStart
pub mod NoBorder
pub mod OnePaste
