pub mod TwinKeys
