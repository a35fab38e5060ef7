mod Telling
mod Declared
mod Reporting
