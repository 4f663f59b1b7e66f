-- What a stack of names keeps, entry by entry. The entries stand with the last first.
use Rattle.std.proofs.Common.{◌≡◌, ◌≢◌, ◌-◌, ◌<◌, ◌≤◌, ℕ, suc, drop, Bool, true, false, true≢false, List, [], ◌∷◌, ◌++◌, length, map, reverse, Option, Some, None, get_or, slice_get, slice_set, nat_eq, if◌then◌else◌, refl, sym, ap, subst, ◌∙◌, inl, inr, arith}
use Rattle.std.specs.Cmp.Lexicographic.{pointwise, same_text, nat_list_eq_equiv}
use Rattle.std.specs.List.{list_any}
use Rattle.std.proofs.Math.Seq.{get_or-append_seam}
use Rattle.std.proofs.lemmas.Bool.Decides.{eqb_tells}
use Rattle.std.proofs.lemmas.List.{get_or_append_left, get_or_read, get_or-set_same, get_or-set_other, length-append, length-reverse, length-set, reverse-append, reverse-reverse}
use Rattle.std.proofs.lemmas.List.Folds.{list_any_at}
use Rattle.std.proofs.lemmas.Option.{slice_get-get_or, slice_get_within, get_or_from_slice_get}
use Rattle.name_tables.specs.declared.name_stack.Entry.{Entry}
use Rattle.name_tables.specs.Growth.{Grows}
use Rattle.name_tables.specs.Names.{value_of}
use Rattle.name_tables.specs.Stack.{named, top_of, AreLinked, IsStack}
use Rattle.name_tables.proofs.Texts.{own_text}

-- the test of a name against the one at a slot says whether the slot is the name's
same_slot : (names : List (List ℕ)) (name : List ℕ) (slot k : ℕ) → slice_get names slot ≡ Some name → ((k : ℕ) → slice_get names k ≡ Some name → k ≡ slot)
    → k < length names → pointwise nat_eq name (get_or names k []) ≡ nat_eq slot k
same_slot names name slot k at only within = elim (eqb_tells slot k) [
  | inl same ↦
      let here : get_or names k [] ≡ name = get_or_from_slice_get names k name [] (ap (slice_get names) (sym same.1) ∙ at) in
      ap (pointwise nat_eq name) here ∙ (own_text name ∙ sym same.0)
  | inr other ↦ by (pointwise nat_eq name (get_or names k [])) refl other.0 other.1
]
  where
    by : (b : Bool) → pointwise nat_eq name (get_or names k []) ≡ b → nat_eq slot k ≡ false → slot ≢ k → pointwise nat_eq name (get_or names k []) ≡ nat_eq slot k
    by true p e differ =
        let there : slice_get names k ≡ Some name = slice_get-get_or names k [] within ∙ ap Some (sym (same_text name (get_or names k []) (sym p))) in
        absurd (differ (sym (only k there)))
    by false p e differ = p ∙ sym e

-- a name that isn't among the names is not at a slot
other_name : (names : List (List ℕ)) (name : List ℕ) (k : ℕ) → list_any (λ other. pointwise nat_eq other name) names ≡ false → k < length names
    → pointwise nat_eq name (get_or names k []) ≡ false
other_name names name k none within = by (pointwise nat_eq name (get_or names k [])) refl
  where
    by : (b : Bool) → pointwise nat_eq name (get_or names k []) ≡ b → b ≡ false
    by true p =
        let there = list_any_at (λ other. pointwise nat_eq other name) names k [] within (nat_list_eq_equiv.symm (get_or names k []) name ∙ p) in
        absurd (true≢false (sym there ∙ none))
    by false p = refl

module _ {T : Type 0} where
  -- a top is the place of an entry
  pub top_within : (slot : ℕ) (es : List (Entry T)) (p : ℕ) → top_of slot es ≡ Some p → p < length es
  top_within slot [] p e = cc
  top_within slot (x ∷ older) p e = elim (eqb_tells slot x.slot) [
    | inl same ↦
        let here : Some (length older) ≡ Some p = sym (ap (λ b. if b then Some (length older) else top_of slot older) same.0) ∙ e in
        let place : length older ≡ p = cc in
        omega (arith, place)
    | inr other ↦
        let below = top_within slot older p (sym (ap (λ b. if b then Some (length older) else top_of slot older) other.0) ∙ e) in
        omega (arith, below)
  ]

  last_of_reverse : (x : Entry T) (older : List (Entry T)) → reverse (x ∷ older) ≡ reverse older ++ x ∷ []
  last_of_reverse x older = reverse-append (x ∷ []) older

  -- the value of a name is that of the entry at its slot's top
  pub at_top : (names : List (List ℕ)) (name : List ℕ) (slot : ℕ) → slice_get names slot ≡ Some name → ((k : ℕ) → slice_get names k ≡ Some name → k ≡ slot)
      → (es : List (Entry T)) → AreLinked (length names) es → (p : ℕ) (d : Entry T) → top_of slot es ≡ Some p
      → value_of name (map (named names) es) ≡ Some ((get_or (reverse es) p d).value)
  at_top names name slot at only [] linked p d e = cc
  at_top names name slot at only (x ∷ older) linked p d e = elim (eqb_tells slot x.slot) [
    | inl same ↦
        let here : Some (length older) ≡ Some p = sym (ap (λ b. if b then Some (length older) else top_of slot older) same.0) ∙ e in
        let place : p ≡ length (reverse older) = (let q : length older ≡ p = cc in sym q ∙ sym (length-reverse older)) in
        let found : get_or (reverse (x ∷ older)) p d ≡ x =
        ap (λ l. get_or l p d) (last_of_reverse x older) ∙ (ap (λ k. get_or (reverse older ++ x ∷ []) k d) place ∙ get_or-append_seam (reverse older) x [] d) in
        ap (λ b. if b then Some x.value else value_of name (map (named names) older)) (test ∙ same.0) ∙ ap (λ y. Some y.value) (sym found)
    | inr other ↦
        let top = sym (ap (λ b. if b then Some (length older) else top_of slot older) other.0) ∙ e in
        let rest = at_top names name slot at only older linked.2 p d top in
        let below : p < length (reverse older) = omega (arith, top_within slot older p top, length-reverse older) in
        let found : get_or (reverse (x ∷ older)) p d ≡ get_or (reverse older) p d =
        ap (λ l. get_or l p d) (last_of_reverse x older) ∙ get_or_append_left (reverse older) (x ∷ []) d p below in
        ap (λ b. if b then Some x.value else value_of name (map (named names) older)) (test ∙ other.0) ∙ (rest ∙ ap (λ y. Some y.value) (sym found))
  ]
    where
      test : pointwise nat_eq name (get_or names x.slot []) ≡ nat_eq slot x.slot
      test = same_slot names name slot x.slot at only linked.0

  -- a name whose slot has no top has no value
  pub no_top : (names : List (List ℕ)) (name : List ℕ) (slot : ℕ) → slice_get names slot ≡ Some name → ((k : ℕ) → slice_get names k ≡ Some name → k ≡ slot)
      → (es : List (Entry T)) → AreLinked (length names) es → top_of slot es ≡ None → value_of name (map (named names) es) ≡ None
  no_top names name slot at only [] linked e = refl
  no_top names name slot at only (x ∷ older) linked e = elim (eqb_tells slot x.slot) [
    | inl same ↦
        let here : Some (length older) ≡ None = sym (ap (λ b. if b then Some (length older) else top_of slot older) same.0) ∙ e in
        absurd (cc)
    | inr other ↦
        let top = sym (ap (λ b. if b then Some (length older) else top_of slot older) other.0) ∙ e in
        ap (λ b. if b then Some x.value else value_of name (map (named names) older)) (test ∙ other.0) ∙ no_top names name slot at only older linked.2 top
  ]
    where
      test : pointwise nat_eq name (get_or names x.slot []) ≡ nat_eq slot x.slot
      test = same_slot names name slot x.slot at only linked.0

  -- a name that never came has no value
  pub no_name : (names : List (List ℕ)) (name : List ℕ) → list_any (λ other. pointwise nat_eq other name) names ≡ false
      → (es : List (Entry T)) → AreLinked (length names) es → value_of name (map (named names) es) ≡ None
  no_name names name none [] linked = refl
  no_name names name none (x ∷ older) linked =
      ap (λ b. if b then Some x.value else value_of name (map (named names) older)) (other_name names name x.slot none linked.0) ∙ no_name names name none older linked.2

  -- more names leave the entries as they are
  pub more_slots : (n m : ℕ) (es : List (Entry T)) → n ≤ m → AreLinked n es → AreLinked m es
  more_slots n m [] l linked = tt
  more_slots n m (x ∷ older) l linked = (omega (arith, l, linked.0), linked.1, more_slots n m older l linked.2)

  pub more_names : (names more : List (List ℕ)) (es : List (Entry T)) → AreLinked (length names) es → map (named (names ++ more)) es ≡ map (named names) es
  more_names names more [] linked = refl
  more_names names more (x ∷ older) linked =
      λ i. (get_or_append_left names more [] x.slot linked.0 i, x.value) ∷ more_names names more older linked.2 i

  -- a stack stays one while its names grow, and its entries are seen as before
  pub grown : (names new : List (List ℕ)) (tops more_tops : List (Option ℕ)) (es : List (Entry T)) → Grows names new → length new ≤ length more_tops
      → ((slot : ℕ) → get_or more_tops slot None ≡ get_or tops slot None) → IsStack names tops es → IsStack new more_tops es
  grown names new tops more_tops es grows room same stack = record {
    room = room;
    tops_of = λ slot. same slot ∙ stack.tops_of slot;
    linked = subst (λ l. AreLinked (length l) es) (sym grows.1) (more_slots (length names) (length (names ++ grows.0)) es (omega (arith, length-append names grows.0)) stack.linked);
  }

  pub grown_view : (names new : List (List ℕ)) (es : List (Entry T)) → Grows names new → AreLinked (length names) es → map (named new) es ≡ map (named names) es
  grown_view names new es grows linked = ap (λ l. map (named l) es) grows.1 ∙ more_names names grows.0 es linked

  -- an entry of the slot on top
  pub pushed : (names : List (List ℕ)) (tops : List (Option ℕ)) (es : List (Entry T)) (x : Entry T) → IsStack names tops es → x.slot < length names
      → x.shadowed ≡ get_or tops x.slot None → IsStack names (slice_set tops x.slot (Some (length es))) (x ∷ es)
  pushed names tops es x stack within shadows =
      let room : length (slice_set tops x.slot (Some (length es))) ≡ length tops = length-set tops x.slot (Some (length es)) in
      record {
        room = omega (arith, stack.room, room);
        tops_of = by;
        linked = (within, shadows ∙ stack.tops_of x.slot, stack.linked);
      }
    where
      by : (slot : ℕ) → get_or (slice_set tops x.slot (Some (length es))) slot None ≡ top_of slot (x ∷ es)
      by slot = elim (eqb_tells slot x.slot) [
        | inl same ↦
            let in_tops : x.slot < length tops = omega (arith, within, stack.room) in
            ap (λ k. get_or (slice_set tops x.slot (Some (length es))) k None) same.1
            ∙ (get_or-set_same tops x.slot (Some (length es)) None in_tops ∙ sym (ap (λ b. if b then Some (length es) else top_of slot es) same.0))
        | inr other ↦
            get_or-set_other tops x.slot slot (Some (length es)) None other.1 ∙ (stack.tops_of slot ∙ sym (ap (λ b. if b then Some (length es) else top_of slot es) other.0))
      ]

  -- the last entry of a list comes first in its reverse
  pub reversed_push : (es : List (Entry T)) (x : Entry T) → reverse (es ++ x ∷ []) ≡ x ∷ reverse es
  reversed_push es x = reverse-append es (x ∷ [])

  -- what stands at a slot is the slot's top
  pub top_read : (names : List (List ℕ)) (tops : List (Option ℕ)) (es : List (Entry T)) (slot : ℕ) (name : List ℕ) → IsStack names tops es → slice_get names slot ≡ Some name
      → (top : Option ℕ) → top ≡ get_or tops slot top → top_of slot es ≡ top
  top_read names tops es slot name stack found top read =
      let in_tops : slot < length tops = omega (arith, slice_get_within names slot name found, stack.room) in
      sym (stack.tops_of slot) ∙ sym (get_or_read tops slot top in_tops read None)

  -- the value at a slot's top is that of its name
  pub found_value : (names : List (List ℕ)) (name : List ℕ) (slot : ℕ) → slice_get names slot ≡ Some name → ((k : ℕ) → slice_get names k ≡ Some name → k ≡ slot)
      → (items : List (Entry T)) → AreLinked (length names) (reverse items) → (p : ℕ) → top_of slot (reverse items) ≡ Some p
      → (x : Entry T) → x ≡ get_or items p x → Some x.value ≡ value_of name (map (named names) (reverse items))
  found_value names name slot at only items linked p top x read =
      ap (λ y. Some y.value) (read ∙ sym (ap (λ l. get_or l p x) (reverse-reverse items))) ∙ sym (at_top names name slot at only (reverse items) linked p x top)

-- one entry less, and one less to take off
pub one_less : {X : Type 0} (xs : List X) (n : ℕ) → n < length xs → drop (length (drop 1 xs) - n) (drop 1 xs) ≡ drop (length xs - n) xs
one_less [] n l = absurd (omega arith)
one_less (x ∷ rest) n l =
    let step : suc (length rest - n) ≡ suc (length rest) - n = omega arith in
    ap (λ k. drop k (x ∷ rest)) step
