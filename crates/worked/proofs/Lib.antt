mod Computed
mod Kept
