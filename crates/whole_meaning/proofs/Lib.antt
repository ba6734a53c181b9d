pub mod Answering
mod CauseExamples
mod DataExamples
mod FormExamples
mod LateExamples
pub mod Numbers
mod Opened
mod ShownExamples
mod StartupExamples
mod UseExamples
