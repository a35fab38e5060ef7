mod Segments
mod Numbers
mod Sorted
mod Counts
