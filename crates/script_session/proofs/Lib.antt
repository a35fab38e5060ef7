mod Once
mod Parted
mod Computed
mod Rising
mod Seen
mod Examples
