pub mod EndSearch
pub mod SearchResumes
pub mod HeldBack
