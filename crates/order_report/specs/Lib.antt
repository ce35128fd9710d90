pub mod FaultTexts
pub mod Faults
pub mod Named
pub mod Reports
pub mod Texts
pub mod VerdictTexts
