mod Found
mod Objects
mod Positions
mod Orders
mod Holdings
mod Looks
