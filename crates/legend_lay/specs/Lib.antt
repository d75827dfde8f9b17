-- What laying pieces into a legend asks and gives.
pub mod Laying
pub mod Steps
