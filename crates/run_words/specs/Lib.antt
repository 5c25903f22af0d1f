pub mod Words
pub mod TraceForms
pub mod ToolForms
pub mod Requests
pub mod FormParts
pub mod ReadRequests
