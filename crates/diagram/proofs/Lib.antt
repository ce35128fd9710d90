mod Arcs_laid
mod Musts_each
mod Opened
mod Runs
