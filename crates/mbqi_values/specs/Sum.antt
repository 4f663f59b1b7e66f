use Rattle.std.specs.Prelude.{ℕ, ℤ, pos, negsuc, ◌-◌, ◌^◌, ◌≤ℤ◌}

-- The number is absolutely below 2 ^ n.
abbrev pub IsBelow : ℤ → ℕ → Type 0
IsBelow x n = (negsuc (2 ^ n - 2) ≤ℤ x) × (x ≤ℤ pos (2 ^ n - 1))
