-- The limits of the profile (this project's own): of a numeral, of the number beside another term, and of the depth of a tree.
use Rattle.std.specs.Prelude.{ℕ, ◌-◌, ◌^◌, ℤ, pos, negsuc, Bool, nat_le, nat_lt}

-- The number is absolutely at most the limit.
abbrev pub is_within : ℕ → ℤ → Bool
is_within limit (pos n) = nat_le n limit
is_within limit (negsuc n) = nat_lt n limit

-- A numeral of a script; the number that is added to a term of a script.
abbrev pub is_numeral : ℤ → Bool
is_numeral n = is_within (2 ^ 63 - 1) n

abbrev pub is_offset : ℤ → Bool
is_offset n = is_within (2 ^ 59) n

-- How deep a formula or a term of a script may be.
abbrev pub depth_limit : ℕ
depth_limit = 1000
