mod Grouping
mod Moved
mod Rows
mod Runs
mod Telling
mod Trying
mod Undone
