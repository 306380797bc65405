pub mod Columns
pub mod Listing
pub mod Laws
pub mod Cells
pub mod Mailboxes
