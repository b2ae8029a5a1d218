pub mod ControlFronts
pub mod FixedFronts
pub mod FrontAnswers
pub mod LetteredTitles
pub mod Scanned
pub mod TitleFronts
