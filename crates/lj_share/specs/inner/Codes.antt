-- How a proof stores seats and what openings are made of.
use Rattle.std.specs.Prelude.{ℕ, List, Option, refl}
use Rattle.std.specs.Coded.{Coded, code_by, coded×, coded_list, coded_option, coded_ℕ}
use Rattle.std.specs.FinMap as fin
use Rattle.boxcar.specs.Table.{Shelves, shelves_coded}
use Rattle.lj_hint.specs.inner.Codes.{pair_code}
use Rattle.lj_book.specs.declared.entry.Call.{Call}
use Rattle.lj_book.specs.inner.Codes.{call_code}
use Rattle.lj_book.specs.Solo.{View}
use Rattle.lj_share.specs.Seats.{SeatValue, OpeningPartsValue, NoteValue}

-- how a proof stores what a seat sees
abbrev pub view_code : Coded View
view_code = coded_option (fin.code coded_ℕ pair_code)

-- how a proof stores a seat
abbrev pub seat_code : Coded SeatValue
seat_code = code_by (ℕ × (List Call × View)) (coded× coded_ℕ (coded× (coded_list call_code) view_code))
    (λ s. (s.number, (s.calls, s.view)))
    (λ p. record { number = p.0; calls = p.1.0; view = p.1.1 }) (λ _. refl)

-- how a proof stores what an opening is made of
abbrev pub opening_parts_code : Coded OpeningPartsValue
opening_parts_code = code_by (ℕ × (ℕ × (List ℕ × Shelves)))
    (coded× coded_ℕ (coded× coded_ℕ (coded× (coded_list coded_ℕ) shelves_coded)))
    (λ b. (b.name, (b.parts, (b.lists, b.log))))
    (λ p. record { name = p.0; parts = p.1.0; lists = p.1.1.0; log = p.1.1.1 }) (λ _. refl)

-- how a proof stores a note
abbrev pub note_code : Coded NoteValue
note_code = code_by (ℕ × Option ℕ) (coded× coded_ℕ (coded_option coded_ℕ))
    (λ n. (n.cell, n.position))
    (λ p. record { cell = p.0; position = p.1 }) (λ _. refl)
