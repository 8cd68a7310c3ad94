-- The answer to a user, lists that fit, the loop over the images, and the whole call.
pub mod Fits
pub mod Going
pub mod Whole
