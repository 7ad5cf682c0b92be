-- What was tried of files.
use Rattle.std.specs.Prelude.{◌≡◌, ◌⊎◌, ℕ, List, ◌∷◌, Option, Some, None}

-- What was tried of files: the paths at which none could be opened, those at which none could be created, and those at which one was
-- created, the last first.
pub record Tried : Type 0 where
  pub unopened : List (List ℕ)
  pub uncreated : List (List ℕ)
  pub created : List (List ℕ)

-- the same, and then an opening at this path that was refused
abbrev pub with_unopened : List ℕ → Tried → Tried
with_unopened path tried = record tried { unopened = path ∷ tried.unopened }

-- the same, and then a creation at this path that was refused
abbrev pub with_uncreated : List ℕ → Tried → Tried
with_uncreated path tried = record tried { uncreated = path ∷ tried.uncreated }

-- the same, and then a creation at this path, where there is one
abbrev pub with_created : Option (List ℕ) → Tried → Tried
with_created None tried = tried
with_created (Some path) tried = record tried { created = path ∷ tried.created }

-- no file was created between two times
abbrev pub NoneCreated : Tried → Tried → Type 0
NoneCreated before after = after.created ≡ before.created

-- no file was created between two times but one, at this path, where there is one
abbrev pub MayCreate : Option (List ℕ) → Tried → Tried → Type 0
MayCreate path before after = NoneCreated before after
    ⊎ (after.created ≡ (with_created path before).created)
