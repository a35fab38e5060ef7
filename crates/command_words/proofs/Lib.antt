mod Commands
mod Different
mod Pieces
mod PlainWords
mod Plans
