mod Blank
mod Layers
mod Spaced
