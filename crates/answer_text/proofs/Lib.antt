mod Causes
mod Feeds
mod Pushes
mod SameCause
