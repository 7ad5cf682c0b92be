use Rattle.std.proofs.Common.{arith, ◌≡◌, ℕ, List, [], ◌∷◌, Option, None, Some, Ok, Err, slice_get}
use Rattle.lj_book.specs.Tables.{Tables, table_of, joint_of}
use Rattle.lj_book.specs.declared.refusal.Refusal.TheVariants.{UnknownNumber}
use Rattle.lj_book.specs.inner.JointLines.{joints_in}
use Rattle.lj_book.proofs.joint_line.put_joints.Goals as goal

first-unknown : (tables : Tables) (seat : ℕ) (owns : List ℕ) (own : ℕ) → table_of tables seat ≡ None → slice_get owns 0 ≡ Some own → joints_in (joint_of tables seat) owns ≡ Err (UnknownNumber own)
first-unknown tables seat [] own none first = grind arith
first-unknown tables seat (o ∷ os) own none first = grind arith

none-known : (joint : ℕ → Option ℕ) (owns : List ℕ) → slice_get owns 0 ≡ None → joints_in joint owns ≡ Ok []
none-known joint [] none = grind arith
none-known joint (o ∷ os) none = grind arith

-- src/joint_line.rt:53:1
pub returns-in-Some-get : goal.returns-in-Some-get
returns-in-Some-get c = grind (arith, first-unknown)

-- src/joint_line.rt:53:1
pub returns-in-None-get : goal.returns-in-None-get
returns-in-None-get c = grind (arith, none-known)
