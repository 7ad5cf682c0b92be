-- Lists of events: whose each is, and when a list is tidy for a seat.
use Rattle.std.specs.Prelude.{ℕ, ◌==◌, Bool, true, false, ◌&&◌, List, [], ◌∷◌, if◌then◌else◌}
use Rattle.lj_book.specs.declared.event.Event.{Event}
use Rattle.lj_book.specs.declared.event.Event.TheVariants.{Take, Test, Commit, Inside, Drop, Adopt, Import, Leave}
use Rattle.lj_book.specs.declared.event.Reply.{Reply}

-- the seat that does it
abbrev pub seat_of : Event → ℕ
seat_of (Take seat a) = seat
seat_of (Test seat) = seat
seat_of (Commit seat) = seat
seat_of (Inside seat a) = seat
seat_of (Drop seat numbers) = seat
seat_of (Adopt seat own joint) = seat
seat_of (Import seat own clause) = seat
seat_of (Leave seat) = seat

-- whether the seat does it
abbrev pub is_of : ℕ → Event → Bool
is_of seat e = seat_of e == seat

-- the events of a seat, each with its reply
abbrev pub events_of : ℕ → List Event → List Reply → List (Event × Reply)
events_of seat [] replies = []
events_of seat (e ∷ es) [] = []
events_of seat (e ∷ es) (r ∷ rs) = if is_of seat e then (e, r) ∷ events_of seat es rs
    else events_of seat es rs

-- Whether the last event of a seat that isn't a test is a take, after this event of the seat, where `taken` says so of
-- the events before.
abbrev pub taken_after : Bool → Event → Bool
taken_after taken (Take seat a) = true
taken_after taken (Test seat) = taken
taken_after taken (Commit seat) = false
taken_after taken (Inside seat a) = false
taken_after taken (Drop seat numbers) = false
taken_after taken (Adopt seat own joint) = false
taken_after taken (Import seat own clause) = false
taken_after taken (Leave seat) = false

-- the same, after a list of events of all seats
abbrev pub taken_after_all : Bool → ℕ → List Event → Bool
taken_after_all taken seat [] = taken
taken_after_all taken seat (e ∷ es) = taken_after_all
    (if is_of seat e then taken_after taken e else taken) seat es

-- whether, going back among the events of the seat from the end of the list, a take is met with only tests between
abbrev pub ends_in_take : ℕ → List Event → Bool
ends_in_take seat es = taken_after_all false seat es

-- a commit only after a take
abbrev pub is_in_turn : Bool → Event → Bool
is_in_turn taken (Take seat a) = true
is_in_turn taken (Test seat) = true
is_in_turn taken (Commit seat) = taken
is_in_turn taken (Inside seat a) = true
is_in_turn taken (Drop seat numbers) = true
is_in_turn taken (Adopt seat own joint) = true
is_in_turn taken (Import seat own clause) = true
is_in_turn taken (Leave seat) = true

-- whether the events are tidy for the seat, where what it did last is a take or isn't
abbrev pub is_tidy_after : Bool → ℕ → List Event → Bool
is_tidy_after taken seat [] = true
is_tidy_after taken seat (e ∷ es) =
    if is_of seat e then is_in_turn taken e && is_tidy_after (taken_after taken e) seat es
    else is_tidy_after taken seat es

-- Whether a list of events is tidy for a seat: going back among the events of the seat from each of its commits, a take
-- is met with only tests between.
abbrev pub is_tidy : ℕ → List Event → Bool
is_tidy seat es = is_tidy_after false seat es
