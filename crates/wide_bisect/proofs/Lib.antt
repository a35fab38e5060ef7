mod Lists
mod Rounds
mod Gaps
mod Ranges
mod Histories
mod Asking
