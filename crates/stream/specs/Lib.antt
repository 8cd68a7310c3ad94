-- An image as a stream, for moving a version to another box. Read in this order.
pub mod Stream
pub mod Version
pub mod Claims
pub mod Pieces
