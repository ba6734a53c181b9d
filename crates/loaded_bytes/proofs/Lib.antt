pub mod Apart
pub mod Biases
pub mod Blocks
pub mod ClassFile
mod ClassParts
pub mod Classes
pub mod Data
pub mod Elsewhere
pub mod FieldBytes
pub mod Finds
pub mod LeftBytes
pub mod Meant
pub mod Origins
pub mod Places
pub mod Ranges
mod RoomParts
pub mod RunsOn
pub mod Sections
pub mod Small
pub mod Spots
pub mod Still
pub mod Values
mod Zeros
