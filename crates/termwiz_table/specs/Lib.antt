pub mod CodeLists
