-- How an import is refused, whatever it finds.
use Rattle.std.specs.Prelude.{Bool, true, false, nat_lt, if◌then◌else◌, length, Ok, Err, IfErr}
use Rattle.lj_clause.specs.LiteralSet.{LiteralSet}
use Rattle.lj_book.specs.declared.entry.Imported.{Imported}
use Rattle.lj_book.specs.declared.found.Found.{Found}
use Rattle.lj_book.specs.declared.found.Found.TheVariants.{Equal, Part, Neither}
use Rattle.lj_book.specs.declared.refusal.Refusal.{Refusal}
use Rattle.lj_book.specs.declared.refusal.Refusal.TheVariants.{NoSuchClause, Full}
use Rattle.lj_book.specs.State.{State, addition_count, next}
use Rattle.lj_book.specs.Imports.{found}
use Rattle.lj_book.specs.Calls.{imported}

pub import_refused : (s : State) (c : LiteralSet) (P : Refusal → Type 0) → P NoSuchClause → P Full → IfErr (imported s (found s c)) P
import_refused s c P none full = by (found s c)
  where
    limited : (b : Bool) (x : Imported) → IfErr (if b then Ok x else Err Full) P
    limited true x = tt
    limited false x = full

    by : (f : Found) → IfErr (imported s f) P
    by (Equal joint) = tt
    by (Part part) = limited (nat_lt (addition_count s.history) s.max_steps) (record { place = length s.history; joint = next s })
    by Neither = none
