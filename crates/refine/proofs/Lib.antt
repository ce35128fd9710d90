mod Parts
mod RefineWords
mod Turns
