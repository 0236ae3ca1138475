mod Counting
mod Meeting
