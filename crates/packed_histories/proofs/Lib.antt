pub mod Absent
mod Wide
