pub mod CommonPrefixes
pub mod FindFromOffset
pub mod BlockLists
pub mod PrefixTest
