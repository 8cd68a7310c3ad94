pub mod Fits
pub mod After
pub mod Offers
