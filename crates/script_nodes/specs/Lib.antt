pub mod FieldKinds
pub mod FieldNumbers
pub mod NodeText
pub mod NodeReading
pub mod ActionLists
pub mod Given
pub mod FieldMeaning
