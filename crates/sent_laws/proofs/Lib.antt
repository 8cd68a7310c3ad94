-- For one image the second message is its backup, and so are both messages in turn; what is had, found by number.
pub mod Segments
pub mod Gather
pub mod Never
pub mod Records
pub mod Numbers
pub mod Search
pub mod Theorems
pub mod Both
pub mod Assembling
pub mod Marks
pub mod Content
pub mod Alike
