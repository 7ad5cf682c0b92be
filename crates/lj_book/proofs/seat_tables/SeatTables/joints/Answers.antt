use Rattle.std.proofs.Common.{◌≡◌, ap, sym, ◌∙◌, refl, ℕ}
use Rattle.std.specs.Prelude.{List, [], ◌∷◌, Option, None, filter_map, option_and_then, option_copied}
use Rattle.std.specs.FinMap as fin
use Rattle.lj_book.specs.Tables.{Table, Tables, table_of, joint_of, is_among}
use Rattle.lj_book.proofs.seat_tables.SeatTables.joints.Goals as goal

abbrev unbound : ℕ → Option ℕ
unbound own = None

none_found : (ns : List ℕ) → filter_map unbound ns ≡ []
none_found [] = refl
none_found (n ∷ ns) = none_found ns

-- without a table no number is bound
no_joints : (ts : Tables) (seat : ℕ) (ns : List ℕ) → table_of ts seat ≡ None → filter_map (joint_of ts seat) ns ≡ []
no_joints ts seat ns at = ap (λ (o : Option Table). filter_map (λ own. option_and_then (λ (t : Table). fin.get t own) o) ns) at ∙ none_found ns

pub returns-in_default : goal.returns-in_default
returns-in_default c =
    let at : table_of c.args.self.now c.args.seat ≡ None =
    ap (λ (us : Tables). table_of us c.args.seat) (sym c.self.view_is ∙ sym c.deref.ensures.value)
    ∙ sym c.table_in.ensures ∙ ap option_copied c.in_default.is in
    λ q. ap (λ (ms : List ℕ). is_among ms q) (c.new.ensures.items ∙ sym (no_joints c.args.self.now c.args.seat c.args.numbers.now at))
