pub mod MachineSpells
