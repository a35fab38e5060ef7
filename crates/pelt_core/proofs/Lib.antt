mod Search
mod Blocks
mod Marks
mod Open
mod Growth
mod Growing
mod Tables
