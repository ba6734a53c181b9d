pub mod Ran
pub mod Opened
pub mod Joined
pub mod Images
mod LocalCode
mod Closed
mod Ranges
mod Sites
mod LocalLoads
mod LocalKept
mod LocalRewritten
mod LocalFields
mod LocalSites
mod LocalPlaces
mod LocalMarks
mod LocalNames
mod LocalTied
mod ReopenedImages
mod Reopened
mod Tables
