pub mod ActionBits
pub mod ActionLaws
pub mod CutTexts
pub mod Entries
pub mod MarkBits
pub mod MarkedFields
pub mod RisingNumbers
pub mod RoleTable
