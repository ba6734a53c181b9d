pub mod ListedFields
pub mod RelativesTables
pub mod RelocationListLemmas
