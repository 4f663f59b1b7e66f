-- What a stack of names keeps. The entries stand here with the last first (this project's own).
use Rattle.std.specs.Prelude.{◌≡◌, ◌<◌, ◌≤◌, ℕ, List, [], ◌∷◌, length, nat_eq, Option, Some, None, if◌then◌else◌}
use Rattle.std.specs.List.{slice_index_or}
use Rattle.name_tables.specs.declared.name_stack.Entry.{Entry}

-- The name and the value of an entry, whose slot is the place of its name.
abbrev pub named : {T : Type 0} → List (List ℕ) → Entry T → List ℕ × T
named names e = (slice_index_or names e.slot [], e.value)

-- The place of the slot's last entry.
abbrev pub top_of : {T : Type 0} → ℕ → List (Entry T) → Option ℕ
top_of slot [] = None
top_of slot (e ∷ older) = if nat_eq slot e.slot then Some (length older) else top_of slot older

-- Each entry's slot is one of so many, and it shadows the last one of the older entries of its slot.
abbrev pub AreLinked : {T : Type 0} → ℕ → List (Entry T) → Type 0
AreLinked slots [] = Unit {0}
AreLinked slots (e ∷ older) = (e.slot < slots) × (e.shadowed ≡ top_of e.slot older) × AreLinked slots older

-- The tops are those of the entries, and there is one for each name.
pub record IsStack {T : Type 0} (names : List (List ℕ)) (tops : List (Option ℕ)) (entries : List (Entry T)) : Type 0 where
  pub room : length names ≤ length tops
  pub tops_of : (slot : ℕ) → slice_index_or tops slot None ≡ top_of slot entries
  pub linked : AreLinked (length names) entries
