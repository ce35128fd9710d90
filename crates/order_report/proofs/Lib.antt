mod DoorTexts
mod Lines
mod Meaning
mod WordOrders
