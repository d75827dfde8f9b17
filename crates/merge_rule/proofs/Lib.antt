-- Two trays merged, each with its sides: computed specimens, laws of merged lists and of labelled slips, the legend of the long tray, refusals.
pub mod AllSpecimens
pub mod Labelled
pub mod Merged
pub mod SameLegend
pub mod MergedTrays
pub mod Specimens
