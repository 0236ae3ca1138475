pub mod Defect
