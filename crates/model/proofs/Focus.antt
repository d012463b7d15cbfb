-- The focus, and the dialog around it.
pub mod FocusIsOne
pub mod FocusIsThere
pub mod FocusAnswers
pub mod FocusIsFound
pub mod FocusTrails
pub mod DialogIsOne
pub mod DialogIsThere
