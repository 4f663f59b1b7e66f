use Rattle.std.specs.Prelude.{ℕ, ◌-◌, ◌≤◌, List, [], ◌∷◌, length, slice_index}

-- The open frames of a theory: the lengths that its content had where each was opened, from first to last.

-- The length at which the last frame was opened.
abbrev pub last_frame : List ℕ → ℕ
last_frame frames = slice_index frames (length frames - 1)

-- The lengths rise from the first number to the second.
abbrev pub RiseFrom : ℕ → List ℕ → ℕ → Type 0
RiseFrom low [] high = low ≤ high
RiseFrom low (frame ∷ frames) high = (low ≤ frame) × RiseFrom frame frames high
