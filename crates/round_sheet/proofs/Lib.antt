pub mod SheetClaims
pub mod SheetLater
pub mod SheetOpened
pub mod SheetTexts
