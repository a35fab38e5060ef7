mod Growing
mod GoingOn
mod Losing
