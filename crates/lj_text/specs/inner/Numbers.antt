-- Numbers, whatever their width.
use Rattle.std.specs.Prelude.{ℕ, List}
use Rattle.lj_text.specs.declared.numbers.Form.{Form}
use Rattle.lj_text.specs.declared.numbers.Form.TheVariants as forms
use Rattle.lj_text.specs.declared.numbers.Rest.{Rest}
use Rattle.lj_text.specs.declared.numbers.Rest.TheVariants as rests

abbrev pub numbers_in : Form → List ℕ
numbers_in (forms.U32 numbers) = numbers.items
numbers_in (forms.Long numbers) = numbers.items

abbrev pub numbers_left : Rest → List ℕ
numbers_left (rests.U32 numbers) = numbers.now
numbers_left (rests.Long numbers) = numbers.now
