-- How formulas are found by their digests (this project's own): the map has the last formula of each digest, and each formula names the
-- one of its digest that came before it.
use Rattle.std.specs.Prelude.{◌≡◌, ℕ, zero, suc, ◌==◌, Bool, false, List, length, map, Option, None, Some, slice_get, if◌then◌else◌, All}
use Rattle.mbqi_terms.specs.declared.formula.Formula.{Formula}
use Rattle.mbqi_terms.specs.Distinct.{AreDistinct}
use Rattle.ground_form.specs.declared.table.Entry.{Entry}
use Rattle.ground_form.specs.Definitions.{is_not}
use Rattle.ground_form.specs.Digests.{digest_of}

abbrev pub has_digest : ℕ → Option Formula → Bool
has_digest digest None = false
has_digest digest (Some f) = digest_of f == digest

-- The place of the last formula of the digest before a place.
abbrev pub last_before : List Formula → ℕ → ℕ → Option ℕ
last_before formulas digest zero = None
last_before formulas digest (suc place) =
    if has_digest digest (slice_get formulas place) then Some place else last_before formulas digest place

abbrev pub formulas_of : List Entry → List Formula
formulas_of entries = map (λ (entry : Entry). entry.formula) entries

-- What a table keeps.
pub record IsTable (entries : List Entry) (lasts : ℕ → Option ℕ) : Type 0 where
  pub distinct : AreDistinct (formulas_of entries)
  pub no_negation : All (λ (entry : Entry). is_not entry.formula ≡ false) entries
  pub earlier : (place : ℕ) (entry : Entry) → slice_get entries place ≡ Some entry
      → entry.earlier ≡ last_before (formulas_of entries) (digest_of entry.formula) place
  pub last : (digest : ℕ) → lasts digest ≡ last_before (formulas_of entries) digest (length entries)
