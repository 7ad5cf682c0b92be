-- The want of memory.
use Rattle.lj_clause.specs.declared.memory.NoMemory.{NoMemory}

-- that a growth was refused, of which there is one value
abbrev pub no_memory : NoMemory
no_memory = record { refused = tt }
