pub mod DraftLemmas
pub mod Entries
pub mod JobLemmas
pub mod MentionLemmas
pub mod NumberLemmas
pub mod WordLemmas
