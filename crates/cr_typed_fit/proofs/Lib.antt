mod Taken
mod Rows
mod Passed
