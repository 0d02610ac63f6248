pub mod Machine
pub mod MachineBody
