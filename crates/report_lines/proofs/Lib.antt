mod Numbered
mod SameSeries
