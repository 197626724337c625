pub mod Saving
pub mod SavedRun
pub mod Marks
pub mod GivenBack
