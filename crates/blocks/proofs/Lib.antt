mod Blank
mod Calls
mod Drawn
mod Group
mod Single
