mod DoorTexts
