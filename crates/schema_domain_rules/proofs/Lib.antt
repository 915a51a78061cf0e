mod Listing
mod Holding
