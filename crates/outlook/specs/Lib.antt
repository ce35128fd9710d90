-- In the order to be read in.
pub mod Earliest
pub mod Chains
pub mod LoadOrders
pub mod LoadMeanings
pub mod Reasons
pub mod Outlooks
pub mod Relations
pub mod Texts
