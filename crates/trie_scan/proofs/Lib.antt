-- Laws of a text's occurrences and of a scan, and the loops that count and scan.
pub mod Occurs
pub mod Reports
pub mod Scans
pub mod CountLoop
pub mod Keeping
