mod Moves
mod Asks
mod Rows
mod Sent
mod Listed
mod Lasting
