mod Listing
mod NextGreens
mod Striking
mod Struck
