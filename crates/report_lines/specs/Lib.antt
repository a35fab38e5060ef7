pub mod SeriesLines
pub mod NumberedLines
