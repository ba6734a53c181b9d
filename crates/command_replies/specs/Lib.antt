pub mod Delivery
pub mod Faults
pub mod FetchFaults
pub mod Replies
pub mod Says
pub mod Statuses
pub mod Steps
