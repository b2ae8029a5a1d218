pub mod JoinedReads
