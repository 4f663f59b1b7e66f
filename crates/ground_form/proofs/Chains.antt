-- Formulas by their digests: what the chain of a digest leaves out, and how it grows.
use Rattle.std.proofs.Common.{◌≡◌, ◌≢◌, ℕ, zero, suc, ◌<◌, ◌≤◌, ◌==◌, Bool, true, false, List, [], ◌∷◌, ◌++◌, length, Option, None, Some, if◌then◌else◌, slice_get, inl, inr, refl, sym, ap, subst, ◌∙◌, arith, true≢false}
use Rattle.std.proofs.Common.{length-append, ◌⊎◌}
use Rattle.std.proofs.lemmas.List.{length-map, map-append}
use Rattle.std.proofs.lemmas.List.Elements.{All-push}
use Rattle.std.proofs.lemmas.Bool.{cases_lt, eqb-true}
use Rattle.std.proofs.lemmas.Option.{slice_get-map, slice_get_within}
use Rattle.std.specs.Option.{option_map}
use Rattle.mbqi_terms.specs.declared.formula.Formula.{Formula}
use Rattle.mbqi_terms.proofs.Trees.{get_front, get_seam}
use Rattle.mbqi_terms.specs.Distinct.{AreDistinct}
use Rattle.ground_form.specs.declared.table.Entry.{Entry}
use Rattle.ground_form.specs.Chains.{IsTable, formulas_of, has_digest, last_before}
use Rattle.ground_form.specs.Definitions.{is_not}
use Rattle.ground_form.specs.Digests.{digest_of}

module _ (formulas : List Formula) (digest : ℕ) where
  -- the last one before a place is before it
  pub last_is_before : (place last : ℕ) → last_before formulas digest place ≡ Some last → last < place
  last_is_before zero last e = cc
  last_is_before (suc place) last e = by (has_digest digest (slice_get formulas place)) e (last_is_before place last)
    where
      by : (b : Bool) → (if b then Some place else last_before formulas digest place) ≡ Some last
          → (last_before formulas digest place ≡ Some last → last < place) → last < suc place
      by true same rest = let here : place ≡ last = cc in omega (arith, here)
      by false same rest = let below = rest same in omega (arith, below)

  -- a formula of the digest has it at its place
  own_digest : (f : Formula) → digest_of f ≡ digest → (k : ℕ) → slice_get formulas k ≡ Some f → has_digest digest (slice_get formulas k) ≡ true
  own_digest f same k at = grind (arith, same, at)

  -- a formula of the digest before a place stands at the last one before it or before that one
  pub not_behind : (f : Formula) → digest_of f ≡ digest → (place k : ℕ) → slice_get formulas k ≡ Some f → k < place
      → (last : ℕ) × (last_before formulas digest place ≡ Some last) × (k ≤ last)
  not_behind f same zero k at below = absurd (omega arith)
  not_behind f same (suc place) k at below = by (has_digest digest (slice_get formulas place)) refl (not_behind f same place k at)
    where
      Later : Option ℕ → Type 0
      Later o = (last : ℕ) × (o ≡ Some last) × (k ≤ last)

      by : (b : Bool) → has_digest digest (slice_get formulas place) ≡ b → (k < place → Later (last_before formulas digest place))
          → Later (if b then Some place else last_before formulas digest place)
      by true e rest = (place, refl, omega (arith, below))
      by false e rest =
          let other : k ≢ place = λ here. absurd (true≢false (sym (own_digest f same place (ap (slice_get formulas) (sym here) ∙ at)) ∙ e)) in
          rest (omega (arith, below, other))

  -- the last one before a place has the digest
  pub last_has : (place last : ℕ) → last_before formulas digest place ≡ Some last → has_digest digest (slice_get formulas last) ≡ true
  last_has zero last e = cc
  last_has (suc place) last e = by (has_digest digest (slice_get formulas place)) refl e (last_has place last)
    where
      Has : Type 0
      Has = has_digest digest (slice_get formulas last) ≡ true

      by : (b : Bool) → has_digest digest (slice_get formulas place) ≡ b → (if b then Some place else last_before formulas digest place) ≡ Some last
          → (last_before formulas digest place ≡ Some last → Has) → Has
      by true has same rest = let here : place ≡ last = cc in ap (λ k. has_digest digest (slice_get formulas k)) (sym here) ∙ has
      by false has same rest = rest same

-- how many places are left of a chain
abbrev pub room : Option ℕ → ℕ
room None = 0
room (Some place) = suc place

-- a chain ends
pub room_shrinks : (formulas : List Formula) (digest place : ℕ) (next last : Option ℕ) → last ≡ Some place → next ≡ last_before formulas digest place
    → room next < room last
room_shrinks formulas digest place next last is e = subst (λ o. room next < room o) (sym is) (by next e)
  where
    by : (o : Option ℕ) → o ≡ last_before formulas digest place → room o < suc place
    by None same = omega arith
    by (Some k) same = let below = last_is_before formulas digest place k (sym same) in omega (arith, below)

module _ (entries : List Entry) (f : Formula) where
  -- the formula isn't among those from a place on
  abbrev pub IsBehind : ℕ → Type 0
  IsBehind bound = (k : ℕ) → bound ≤ k → slice_get (formulas_of entries) k ≢ Some f

  formula_at : (place : ℕ) (entry : Entry) → slice_get entries place ≡ Some entry → slice_get (formulas_of entries) place ≡ Some entry.formula
  formula_at place entry at =
      slice_get-map (λ (e : Entry). e.formula) entries place ∙ ap (option_map (λ (e : Entry). e.formula)) at

  pub found_at : (place : ℕ) (entry : Entry) → slice_get entries place ≡ Some entry → entry.formula ≡ f → slice_get (formulas_of entries) place ≡ Some f
  found_at place entry at same = formula_at place entry at ∙ ap Some same

  pub last_within : (bound place : ℕ) → bound ≤ length entries → last_before (formulas_of entries) (digest_of f) bound ≡ Some place → place < length entries
  last_within bound place within e = let below = last_is_before (formulas_of entries) (digest_of f) bound place e in omega (arith, within, below)

  -- where a chain ends, the formula isn't there
  pub never_there : (bound : ℕ) → last_before (formulas_of entries) (digest_of f) bound ≡ None → IsBehind bound → (k : ℕ) → slice_get (formulas_of entries) k ≢ Some f
  never_there bound e behind k at = elim (cases_lt k bound) [
    | inl below ↦ let there = not_behind (formulas_of entries) (digest_of f) f refl bound k at below in absurd (cc (e, there.1))
    | inr above ↦ behind k above at
  ]

  -- an entry of a chain names the next one
  pub earlier_is : (lasts : ℕ → Option ℕ) (bound place : ℕ) (entry : Entry) → IsTable entries lasts
      → last_before (formulas_of entries) (digest_of f) bound ≡ Some place → slice_get entries place ≡ Some entry
      → entry.earlier ≡ last_before (formulas_of entries) (digest_of f) place
  earlier_is lasts bound place entry is e at =
      let has = ap (has_digest (digest_of f)) (sym (formula_at place entry at)) ∙ last_has (formulas_of entries) (digest_of f) bound place e in
      is.earlier place entry at ∙ ap (λ digest. last_before (formulas_of entries) digest place) (eqb-true (digest_of entry.formula) (digest_of f) has)

  -- one step of a chain, past an entry of another formula
  pub chain_step : (lasts : ℕ → Option ℕ) (bound place : ℕ) (entry : Entry) → IsTable entries lasts → bound ≤ length entries
      → last_before (formulas_of entries) (digest_of f) bound ≡ Some place → IsBehind bound → slice_get entries place ≡ Some entry → entry.formula ≢ f
      → (next : ℕ) × (next ≤ length entries) × (entry.earlier ≡ last_before (formulas_of entries) (digest_of f) next) × IsBehind next
  chain_step lasts bound place entry is within e behind at other =
      let below = last_within bound place within e in
      (place, omega (arith, below), earlier_is lasts bound place entry is e at, left)
    where
      at_place : (k : ℕ) → k ≡ place → slice_get (formulas_of entries) k ≡ Some f → ⊥
      at_place k here there =
          let two : Some entry.formula ≡ Some f = sym (formula_at place entry at) ∙ (ap (slice_get (formulas_of entries)) (sym here) ∙ there) in other cc

      left : IsBehind place
      left k from there = elim (cases_lt k bound) [
        | inl before ↦
            let last = not_behind (formulas_of entries) (digest_of f) f refl bound k there before in
            let one : last.0 ≡ place = cc (e, last.1) in
            at_place k (omega (arith, from, one, last.2)) there
        | inr above ↦ behind k above there
      ]

-- the chain of a digest doesn't change where formulas come behind
pub chain_grows : (formulas more : List Formula) (digest place : ℕ) → place ≤ length formulas
    → last_before (formulas ++ more) digest place ≡ last_before formulas digest place
chain_grows formulas more digest zero h = refl
chain_grows formulas more digest (suc place) h =
    let here = get_front formulas more place (omega (arith, h)) in
    let rest = chain_grows formulas more digest place (omega (arith, h)) in
    ap (λ o. if has_digest digest o then Some place else last_before (formulas ++ more) digest place) here
    ∙ ap (λ o. if has_digest digest (slice_get formulas place) then Some place else o) rest

-- with one more formula the last of each digest is that formula, or what it was
pub chain_push : (formulas : List Formula) (f : Formula) (digest : ℕ)
    → last_before (formulas ++ f ∷ []) digest (suc (length formulas))
    ≡ (if digest_of f == digest then Some (length formulas) else last_before formulas digest (length formulas))
chain_push formulas f digest =
    ap (λ o. if has_digest digest o then Some (length formulas) else last_before (formulas ++ f ∷ []) digest (length formulas)) (get_seam formulas f [])
    ∙ ap (λ o. if digest_of f == digest then Some (length formulas) else o) (chain_grows formulas (f ∷ []) digest (length formulas) (omega arith))

-- a formula that isn't there comes last
distinct_push : (formulas : List Formula) (f : Formula) → AreDistinct formulas → ((k : ℕ) → slice_get formulas k ≢ Some f) → AreDistinct (formulas ++ f ∷ [])
distinct_push formulas f distinct new i j g here there =
    elim (place_in formulas f i g here) [
      | inl first ↦ elim (place_in formulas f j g there) [
        | inl second ↦ distinct i j g first second
        | inr second ↦ absurd (new i (first ∙ ap Some (sym second.1)))
      ]
      | inr first ↦ elim (place_in formulas f j g there) [
        | inl second ↦ absurd (new j (second ∙ ap Some (sym first.1)))
        | inr second ↦ first.0 ∙ sym second.0
      ]
    ]
  where
    place_in : (xs : List Formula) (f : Formula) (i : ℕ) (g : Formula) → slice_get (xs ++ f ∷ []) i ≡ Some g
        → (slice_get xs i ≡ Some g) ⊎ ((i ≡ length xs) × (f ≡ g))
    place_in [] f zero g e = inr (refl, cc)
    place_in [] f (suc i) g e = cc
    place_in (x ∷ xs) f zero g e = inl e
    place_in (x ∷ xs) f (suc i) g e = elim (place_in xs f i g e) [ inl first ↦ inl first | inr last ↦ inr (ap suc last.0, last.1) ]

-- what a table keeps stays where an entry comes behind
pub table_push : (entries : List Entry) (lasts after : ℕ → Option ℕ) (entry : Entry) → IsTable entries lasts
    → ((k : ℕ) → slice_get (formulas_of entries) k ≢ Some entry.formula) → is_not entry.formula ≡ false
    → entry.earlier ≡ last_before (formulas_of entries) (digest_of entry.formula) (length (formulas_of entries))
    → ((digest : ℕ) → after digest ≡ (if digest_of entry.formula == digest then Some (length entries) else lasts digest))
    → IsTable (entries ++ entry ∷ []) after
table_push entries lasts after entry is new positive earlier updates =
    record {
      distinct = subst AreDistinct (sym formulas) (distinct_push (formulas_of entries) entry.formula is.distinct new);
      no_negation = All-push (λ (e : Entry). is_not e.formula ≡ false) entries entry is.no_negation positive;
      earlier = chained;
      last = λ digest. updates digest ∙ (ap (λ o. if digest_of entry.formula == digest then Some (length entries) else o) (is.last digest) ∙ sym (last_of digest));
    }
  where
    formulas : formulas_of (entries ++ entry ∷ []) ≡ formulas_of entries ++ entry.formula ∷ []
    formulas = map-append (λ (e : Entry). e.formula) entries (entry ∷ [])

    same_length : length (formulas_of entries) ≡ length entries
    same_length = length-map entries (λ (e : Entry). e.formula)

    stays : (digest place : ℕ) → place ≤ length entries → last_before (formulas_of (entries ++ entry ∷ [])) digest place ≡ last_before (formulas_of entries) digest place
    stays digest place h =
        ap (λ fs. last_before fs digest place) formulas
        ∙ chain_grows (formulas_of entries) (entry.formula ∷ []) digest place (omega (arith, h, same_length))

    last_of : (digest : ℕ) → last_before (formulas_of (entries ++ entry ∷ [])) digest (length (entries ++ entry ∷ []))
        ≡ (if digest_of entry.formula == digest then Some (length entries) else last_before (formulas_of entries) digest (length entries))
    last_of digest =
        let longer : length (entries ++ entry ∷ []) ≡ suc (length (formulas_of entries)) = omega (arith, length-append entries (entry ∷ []), same_length) in
        ap (last_before (formulas_of (entries ++ entry ∷ [])) digest) longer
        ∙ (ap (λ fs. last_before fs digest (suc (length (formulas_of entries)))) formulas
        ∙ (chain_push (formulas_of entries) entry.formula digest
        ∙ ap (λ n. if digest_of entry.formula == digest then Some n else last_before (formulas_of entries) digest n) same_length))

    chained : (place : ℕ) (e : Entry) → slice_get (entries ++ entry ∷ []) place ≡ Some e
        → e.earlier ≡ last_before (formulas_of (entries ++ entry ∷ [])) (digest_of e.formula) place
    chained place e at = elim (at_end entries place at) [
      | inl first ↦
          is.earlier place e first
          ∙ sym (stays (digest_of e.formula) place (let within = slice_get_within entries place e first in omega (arith, within)))
      | inr last ↦
          ap (λ (e : Entry). e.earlier) (sym last.1)
          ∙ (earlier ∙ (ap (last_before (formulas_of entries) (digest_of entry.formula)) (same_length ∙ sym last.0)
          ∙ (sym (stays (digest_of entry.formula) place (omega (arith, last.0)))
          ∙ ap (λ (e : Entry). last_before (formulas_of (entries ++ entry ∷ [])) (digest_of e.formula) place) last.1)))
    ]
      where
        at_end : (xs : List Entry) (i : ℕ) → slice_get (xs ++ entry ∷ []) i ≡ Some e → (slice_get xs i ≡ Some e) ⊎ ((i ≡ length xs) × (entry ≡ e))
        at_end [] zero found = inr (refl, cc)
        at_end [] (suc i) found = cc
        at_end (x ∷ xs) zero found = inl found
        at_end (x ∷ xs) (suc i) found = elim (at_end xs i found) [ inl first ↦ inl first | inr last ↦ inr (ap suc last.0, last.1) ]
