pub mod Jobs
pub mod JobLaws
pub mod Linked
pub mod Reading
pub mod Sound
