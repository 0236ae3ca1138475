mod Refreshing
mod Running
mod Showing
