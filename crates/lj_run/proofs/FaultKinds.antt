-- Wrong words are told by one kind at most, where a command has no subcommands.
use Rattle.std.proofs.Common.{zero, suc, ◌≡◌, ◌+◌, ◌||◌, ◌&&◌, ◌==◌, ℕ, Bool, true, false, cond, not, nat_lt, List, [], ◌∷◌, Option, Some, None, is_some, length, drop, min}
use Rattle.std.specs.Prelude.{encode_utf8, slice_get}
use Rattle.std.specs.Option.{option_map_or}
use Rattle.std.specs.Str.{bytes_eq, chars}
use Rattle.clap.specs.Lexer.{long_of, short_of}
use Rattle.clap.specs.Facts.{parser_of_value, unwrap_or_range}
use Rattle.clap.specs.Kinds.{Kinds, or_else, value_kinds, values_kinds, range_kinds, request_kinds, check_kinds}
use Rattle.clap.specs.Faults.{values_fault, count_fault, repeat_fault, set_fault, action_fault, use_fault, settle_fault, react_fault, option_fault, long_fault, short_fault, bundle_step_fault, flags_fault, bundle_fault, flag_word_fault, other_fault, word_fault, positional_fault, step_fault, turn_fault, walk_fault, default_fault, defaults_fault, level_fault}
use Rattle.clap.specs.Walk.{Held, Row, Rule, Step, Text, Waiting, Walk, idle, option, positional, next, trailing, subcommand, value, action_of, arg_by_id, arg_by_index, arg_by_long, arg_by_short, attached_value, count_of, is_pending, most_values, reacted, settled, has_row, is_empty, takes_several, takes_values, values_or_missing, walk, walk_from, walked, with_default, word_met}
use Rattle.clap.specs.Matches.{count_text}
use Rattle.clap.specs.Simple.{Shape}
use Rattle.clap.specs.ValueTests.{accepts}
use Rattle.clap.specs.Values.{refused_kind}
use Rattle.clap.specs.declared.builder.action.ArgAction.{ArgAction}
use Rattle.clap.specs.declared.builder.action.ArgAction.TheVariants.{Set, Append, SetTrue, SetFalse, Count, Help, HelpShort, HelpLong, Version}
use Rattle.clap.specs.declared.builder.value_parser.ValueParser.{ValueParser}
use Rattle.clap.specs.declared.error.kind.ErrorKind.TheVariants as kind

-- there is one kind at most
abbrev pub IsSingle : Kinds → Type 0
IsSingle [] = Unit {0}
IsSingle (k ∷ []) = Unit {0}
IsSingle (k ∷ l ∷ more) = ⊥

first_single : (a b : Kinds) → IsSingle a → IsSingle b → IsSingle (or_else a b)
first_single [] b p q = q
first_single (k ∷ ks) b p q = p

cond_single : (c : Bool) (a b : Kinds) → IsSingle a → IsSingle b → IsSingle (cond c a b)
cond_single true a b p q = p
cond_single false a b p q = q

value_single : (ignore_case : Bool) (parser : ValueParser) (text : List ℕ) → IsSingle (value_kinds ignore_case parser text)
value_single ignore_case parser text = cond_single (accepts ignore_case parser text) [] (refused_kind parser ∷ []) tt tt

values_single : (ignore_case : Bool) (parser : ValueParser) (values : List (List ℕ)) → IsSingle (values_kinds ignore_case parser values)
values_single ignore_case parser [] = tt
values_single ignore_case parser (v ∷ vs) =
    first_single (value_kinds ignore_case parser v) (values_kinds ignore_case parser vs) (value_single ignore_case parser v) (values_single ignore_case parser vs)

range_single : (least most n : ℕ) → IsSingle (range_kinds least most n)
range_single least most n =
    cond_single (nat_lt 0 least && n == 0) _ _ tt
    (cond_single (least == most) _ _ (cond_single (least == n) _ _ tt tt)
    (cond_single (nat_lt n least) _ _ tt (cond_single (nat_lt most n) _ _ tt tt)))

request_single : (action : ArgAction) → IsSingle (request_kinds action)
request_single Set = tt
request_single Append = tt
request_single SetTrue = tt
request_single SetFalse = tt
request_single Count = tt
request_single Help = tt
request_single HelpShort = tt
request_single HelpLong = tt
request_single Version = tt

check_single : (a b c : Bool) → IsSingle (check_kinds a b c)
check_single a b c = cond_single a _ _ tt (cond_single b _ _ tt (cond_single c _ _ tt tt))

-- ---- one use of an argument

use_values_single : (a : Rule) (values : List Text) → IsSingle (values_fault a values)
use_values_single a values = values_single a.ignore_case (parser_of_value a.parser) values

use_count_single : (a : Rule) (values : List Text) (rows : List Row) → IsSingle (count_fault a values rows)
use_count_single a [] rows = value_single a.ignore_case (parser_of_value a.parser) (count_text (min (count_of a.id rows + 1) 255))
use_count_single a (v ∷ vs) rows = use_values_single a (v ∷ vs)

set_single : (again : Bool) (a : Rule) (values : List Text) (rows : List Row) → IsSingle (set_fault again a values rows)
set_single again a values rows =
    first_single (repeat_fault again a.id rows) (values_fault a values)
    (cond_single (has_row a.id rows && not again) (kind.ArgumentConflict ∷ []) [] tt tt) (use_values_single a values)

action_single : (action : ArgAction) (again : Bool) (a : Rule) (values : List Text) (rows : List Row) → IsSingle (action_fault action again a values rows)
action_single Set again a values rows = set_single again a values rows
action_single SetTrue again a values rows = set_single again a values rows
action_single SetFalse again a values rows = set_single again a values rows
action_single Append again a values rows = use_values_single a values
action_single Count again a values rows = use_count_single a values rows
action_single Help again a values rows = tt
action_single HelpShort again a values rows = tt
action_single HelpLong again a values rows = tt
action_single Version again a values rows = tt

use_single : (again : Bool) (a : Rule) (values : List Text) (rows : List Row) → IsSingle (use_fault again a values rows)
use_single again a values rows =
    first_single (range_kinds (unwrap_or_range a.range).start_inclusive (most_values a) (length values))
    (action_fault (action_of a) again a (values_or_missing a values) rows)
    (range_single (unwrap_or_range a.range).start_inclusive (most_values a) (length values))
    (action_single (action_of a) again a (values_or_missing a values) rows)

-- ---- the propagation

by_rule : (r : Option Rule) (again : Bool) (values : List Text) (rows : List Row) → IsSingle (option_map_or (λ a. use_fault again a values rows) r [])
by_rule None again values rows = tt
by_rule (Some a) again values rows = use_single again a values rows

by_pending : (c : List Rule) (again : Bool) (pending : Option (Text × List Text)) (rows : List Row)
    → IsSingle (option_map_or (λ p. option_map_or (λ a. use_fault again a p.1 rows) (arg_by_id c p.0) []) pending [])
by_pending c again None rows = tt
by_pending c again (Some p) rows = by_rule (arg_by_id c p.0) again p.1 rows

settle_single : (c : List Rule) (again : Bool) (h : Held) → IsSingle (settle_fault c again h)
settle_single c again h = by_pending c again h.pending h.rows

react_single : (c : List Rule) (again : Bool) (a : Rule) (values : List Text) (h : Held) → IsSingle (react_fault c again a values h)
react_single c again a values h =
    first_single (settle_fault c again h) (use_fault again a values (settled c h).rows) (settle_single c again h) (use_single again a values (settled c h).rows)

option_single : (c : List Rule) (again : Bool) (a : Rule) (v : Option Text) (h : Held) → IsSingle (option_fault c again a v h)
option_single c again a (Some v) h = react_single c again a (v ∷ []) h
option_single c again a None h = settle_single c again h

long_single : (c : List Rule) (again : Bool) (r : Option Rule) (v : Option Text) (h : Held) → IsSingle (long_fault c again r v h)
long_single c again None v h = tt
long_single c again (Some a) v h =
    cond_single (takes_values a) _ _ (option_single c again a v h) (cond_single (is_some v) _ _ tt (react_single c again a [] h))

short_single : (c : List Rule) (again : Bool) (r : Option Rule) (rest : Text) (h : Held) (go : Held → Kinds) → ((g : Held) → IsSingle (go g)) → IsSingle (short_fault c again r rest h go)
short_single c again None rest h go all = tt
short_single c again (Some a) rest h go all =
    cond_single (takes_values a) _ _ (option_single c again a (attached_value rest) h)
    (first_single (react_fault c again a [] h) (go (reacted c a [] h)) (react_single c again a [] h) (all (reacted c a [] h)))

bundle_single : (c : List Rule) (again : Bool) (x : Option ℕ) (flags : Text) (skip : ℕ) (h : Held) (go : Text → ℕ → Held → Kinds)
    → ((t : Text) (n : ℕ) (g : Held) → IsSingle (go t n g)) → IsSingle (bundle_step_fault c again x flags skip h go)
bundle_single c again None flags skip h go all = tt
bundle_single c again (Some x) flags zero h go all =
    short_single c again (arg_by_short c x) (drop (length (encode_utf8 x)) flags) h (go (drop (length (encode_utf8 x)) flags) 0)
    (all (drop (length (encode_utf8 x)) flags) 0)
bundle_single c again (Some x) flags (suc skip) h go all = all (drop (length (encode_utf8 x)) flags) skip h

flags_single : (c : List Rule) (again : Bool) (k : ℕ) (flags : Text) (skip : ℕ) (h : Held) → IsSingle (flags_fault c again k flags skip h)
unfolding flags_fault
flags_single c again zero flags skip h = tt
flags_single c again (suc k) flags skip h =
    bundle_single c again (slice_get (chars flags) 0) flags skip h (flags_fault c again k) (λ t n g. flags_single c again k t n g)

short_word_single : (c : List Rule) (again : Bool) (flags : Option Text) (h : Held) → IsSingle (option_map_or (λ f. bundle_fault c again f h) flags [])
short_word_single c again None h = tt
short_word_single c again (Some flags) h = flags_single c again (length flags) flags h.skip (record h { skip = 0 })

flag_word_single : (c : List Rule) (again : Bool) (p : Option (Text × Option Text)) (word : Text) (h : Held) → IsSingle (flag_word_fault c again p word h)
flag_word_single c again (Some p) word h = long_single c again (arg_by_long c p.0) p.1 h
flag_word_single c again None word h = short_word_single c again (short_of word) h

no_subcommand_single : (s : Shape) (word : Text) (h : Held) → IsSingle (other_fault s None word h)
no_subcommand_single s word h =
    cond_single (bytes_eq word (45 ∷ 45 ∷ [])) _ _ tt (flag_word_single s.rules s.args_override_self (long_of word) word h)

untrailed_single : (s : Shape) (waiting : Waiting) (word : Text) (h : Held) → IsSingle (word_fault s [] false waiting word h)
untrailed_single s idle word h = no_subcommand_single s word h
untrailed_single s (option id) word h = no_subcommand_single s word h
untrailed_single s positional word h = no_subcommand_single s word h

word_single : (s : Shape) (is_trailing : Bool) (waiting : Waiting) (word : Text) (h : Held) → IsSingle (word_fault s [] is_trailing waiting word h)
word_single s true waiting word h = tt
word_single s false waiting word h = untrailed_single s waiting word h

positional_single : (c : List Rule) (again : Bool) (a : Rule) (h : Held) → IsSingle (positional_fault c again a h)
positional_single c again a h = cond_single (is_pending a h.pending && takes_several a) _ _ tt (settle_single c again h)

stray_single : (leaf : Bool) → leaf ≡ true → IsSingle (cond leaf (kind.UnknownArgument ∷ []) (kind.UnknownArgument ∷ kind.InvalidSubcommand ∷ []))
stray_single true e = tt
stray_single false e = cc

placed_single : (s : Shape) (r : Option Rule) (h : Held) → s.is_leaf ≡ true
    → IsSingle (option_map_or (λ a. positional_fault s.rules s.args_override_self a h) r (cond s.is_leaf (kind.UnknownArgument ∷ []) (kind.UnknownArgument ∷ kind.InvalidSubcommand ∷ [])))
placed_single s None h leaf = stray_single s.is_leaf leaf
placed_single s (Some a) h leaf = positional_single s.rules s.args_override_self a h

step_single : (s : Shape) (position : ℕ) (h : Held) (step : Step) → s.is_leaf ≡ true → IsSingle (step_fault s position h step)
step_single s position h (next waiting) leaf = tt
step_single s position h (trailing p) leaf = tt
step_single s position h (subcommand name) leaf = tt
step_single s position h value leaf = placed_single s (arg_by_index s.rules position) h leaf

turn_single : (s : Shape) (w : Walk) (word : Text) → s.is_leaf ≡ true → IsSingle (turn_fault s [] w word)
turn_single s w word leaf =
    let met = word_met s.rules [] w.is_trailing w.waiting w.position word w.held in
    cond_single (is_some w.stopped) _ _ tt
    (first_single (word_fault s [] w.is_trailing w.waiting word w.held) (step_fault s w.position met.0 met.1)
    (word_single s w.is_trailing w.waiting word w.held) (step_single s w.position met.0 met.1 leaf))

walk_single : (s : Shape) (w : Walk) (words : List Text) → s.is_leaf ≡ true → IsSingle (walk_fault s [] w words)
unfolding walk_fault
walk_single s w [] leaf = tt
walk_single s w (word ∷ rest) leaf =
    first_single (turn_fault s [] w word) (walk_fault s [] (walked s.rules [] w word) rest) (turn_single s w word leaf)
    (walk_single s (walked s.rules [] w word) rest leaf)

-- ---- after the propagation

default_single : (rows : List Row) (a : Rule) → IsSingle (default_fault rows a)
default_single rows a =
    cond_single (has_row a.id rows || is_empty a.defaults) [] _ tt (first_single (request_kinds (action_of a)) (values_fault a a.defaults) (request_single (action_of a)) (use_values_single a a.defaults))

defaults_single : (rows : List Row) (rules : List Rule) → IsSingle (defaults_fault rows rules)
unfolding defaults_fault
defaults_single rows [] = tt
defaults_single rows (a ∷ rest) =
    first_single (default_fault rows a) (defaults_fault (with_default rows a) rest) (default_single rows a) (defaults_single (with_default rows a) rest)

-- a command without subcommands has one fault at most
pub level_single : (s : Shape) (h : Held) (words : List Text) (entered : Bool) → s.is_leaf ≡ true → IsSingle (level_fault s [] h words entered [])
level_single s h words entered leaf =
    let end = (walk s.rules [] h words).held in
    first_single (walk_fault s [] (walk_from h) words) _ (walk_single s (walk_from h) words leaf)
    (first_single (settle_fault s.rules s.args_override_self end) _ (settle_single s.rules s.args_override_self end)
    (first_single (defaults_fault (settled s.rules end).rows s.rules) _ (defaults_single (settled s.rules end).rows s.rules)
    (check_single _ _ _)))
