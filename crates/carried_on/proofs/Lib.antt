pub mod CarryingOn
