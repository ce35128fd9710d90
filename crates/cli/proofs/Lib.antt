mod Beginnings
mod WordNumbers
