mod Accepting
mod Proving
