pub mod Beside
pub mod Given
pub mod LinkLaws
pub mod Linked
pub mod Mentions
pub mod NoFault
pub mod Reads
pub mod Walks
