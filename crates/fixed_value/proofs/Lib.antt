mod Powers
mod Places
mod Reading
mod Grammar
mod OneNumeral
mod Back
