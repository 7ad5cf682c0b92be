-- The answer of a test.
use Rattle.std.specs.Prelude.{length}
use Rattle.lj_clause.specs.Propagation as propagate
use Rattle.lj_hint.specs.Case.{CaseValue}
use Rattle.lj_hint.specs.Receipt.{receipt_of}
use Rattle.lj_hint.specs.declared.tested.Tested.{Tested}
use Rattle.lj_hint.specs.declared.tested.Tested.TheVariants.{Closed, Open, Stuck, NoMemory}

-- what the end of its propagation tells of a case: a receipt of the hints that were read, the case itself, or the place
abbrev pub tested_of : CaseValue → propagate.Propagation → Tested
tested_of c (propagate.Closed used) = Closed (receipt_of c (length used))
tested_of c (propagate.Open a) = Open c
tested_of c (propagate.Stuck position) = Stuck position

-- a fact of an answer other than the want of memory
abbrev pub IfAnswered : Tested → (Tested → Type 0) → Type 0
IfAnswered (Closed receipt) P = P (Closed receipt)
IfAnswered (Open c) P = P (Open c)
IfAnswered (Stuck position) P = P (Stuck position)
IfAnswered (NoMemory c e) P = Unit {0}

-- a fact of the case that comes back for want of memory
abbrev pub IfNoMemory : Tested → (CaseValue → Type 0) → Type 0
IfNoMemory (Closed receipt) P = Unit {0}
IfNoMemory (Open c) P = Unit {0}
IfNoMemory (Stuck position) P = Unit {0}
IfNoMemory (NoMemory c e) P = P c
