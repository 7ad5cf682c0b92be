-- Lists of numbers that are kept as chains of links, each of which names the one before it.
use Rattle.std.specs.Prelude.{◌≡◌, ◌==◌, if◌then◌else◌, ℕ, zero, suc, ◌<◌, ◌≤◌, List, [], ◌∷◌, ◌++◌, map, length, get_or, Option, Some, None}
use Rattle.std.specs.Ordering.{nat_cmp}
use Rattle.std.specs.FinMap as fin
use Rattle.lj_book.specs.declared.occurrence_lists.Link.{Link}
use Rattle.lj_book.specs.inner.Occurrences.{Lists, list_at}

-- the numbers of a link, the links being counted from 1, and of so many before it, the oldest first
abbrev pub chain_within : ℕ → List Link → ℕ → List ℕ
chain_within zero links at = []
chain_within (suc count) links zero = []
chain_within (suc count) links (suc at) =
    let link = get_or links at (record { number = 0; before = 0 }) in
    chain_within count links link.before ++ link.number ∷ []

-- the numbers of a link and of all before it
abbrev pub chain : List Link → ℕ → List ℕ
chain links at = chain_within at links at

-- the last link under each place that has one
abbrev pub Lasts : Type 0
Lasts = fin.FinMap nat_cmp ℕ

abbrev pub link_or_none : Option ℕ → ℕ
link_or_none None = 0
link_or_none (Some at) = at

-- the last link under a place, and 0 where there is none
abbrev pub last_at : Lasts → ℕ → ℕ
last_at lasts k = link_or_none (fin.get lasts k)

-- the lists that the chains make
abbrev pub chained : List Link → Lasts → Lists
chained links lasts = fin.from_entries (map (λ e. (e.0, chain links e.1)) (fin.entries lasts))

-- each link names an earlier one, or none
abbrev pub AreLinked : List Link → Type 0
AreLinked links = (i : ℕ) (d : Link) → i < length links → (get_or links i d).before ≤ i

-- the numbers that the chains under a place have there, and elsewhere as before
abbrev pub with_list : Lists → ℕ → List ℕ → ℕ → List ℕ
with_list m place numbers k = if k == place then numbers else list_at m k

-- Each link names an earlier one, or none, and the last ones are there.
pub record AreChains (links : List Link) (lasts : Lasts) : Type 0 where
  pub linked : AreLinked links
  pub there : (k at : ℕ) → fin.get lasts k ≡ Some at → at ≤ length links
