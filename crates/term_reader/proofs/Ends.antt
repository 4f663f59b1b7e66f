-- Lists from their ends, as scopes and arguments are made, and what is in scope by its entries.
use Rattle.std.proofs.Common.{◌≡◌, ℕ, zero, suc, Bool, true, false, Bor, List, [], ◌∷◌, ◌++◌, ◌-◌, length, take, drop, Option, None, Some, refl, sym, ap, ◌∙◌, append-nil, append_assoc}
use Rattle.std.specs.Prelude.{MatchOption, if◌then◌else◌}
use Rattle.std.specs.List.{fold}
use Rattle.std.specs.Option.{option_copied, option_map}
use Rattle.std.proofs.lemmas.List.{length-map, map-append}
use Rattle.name_tables.specs.Names.{value_of}
use Rattle.smtlib_terms.specs.declared.names.Binding as plain
use Rattle.smtlib_terms.specs.declared.names.Macro.{Macro}
use Rattle.smtlib_terms.specs.declared.names.Parameter.{Parameter}
use Rattle.smtlib_terms.specs.declared.meaning.Bound.TheVariants.{Value}
use Rattle.smtlib_terms.specs.declared.meaning.Meaning.{Meaning}
use Rattle.smtlib_terms.specs.Declaring.{Declarations, arguments, names_before, names_of, signature_of, with_macro}
use Rattle.smtlib_terms.specs.Names.{Signature, bound_to}
use Rattle.smtlib_terms.specs.Words.{is_text}
use Rattle.term_reader.specs.declared.scope.Binding.{Binding}
use Rattle.term_reader.specs.declared.scope.Bound as kept
use Rattle.term_reader.specs.Scopes.{binding_of, bindings_of, bound_of, entries_of}

-- bindings, with one more
pub bindings_end : (bs : List Binding) (b : Binding) → bindings_of (bs ++ b ∷ []) ≡ bindings_of bs ++ binding_of b ∷ []
bindings_end bs b = map-append binding_of bs (b ∷ [])

-- a binding that comes into scope before those that are left
pub entered : (bs : List Binding) (b : Binding) (rest : List plain.Binding) → bindings_of (bs ++ b ∷ []) ++ rest ≡ bindings_of bs ++ (binding_of b ∷ rest)
entered bs b rest = rw (bindings_end, append_assoc) refl

-- macros bring no sorts and no functions
same_sorts : (names : Signature) (macros : List Macro) → (fold with_macro names macros).sorts ≡ names.sorts
same_sorts names [] = refl
same_sorts names (m ∷ ms) = same_sorts (with_macro names m) ms

same_functions : (names : Signature) (macros : List Macro) → (fold with_macro names macros).functions ≡ names.functions
same_functions names [] = refl
same_functions names (m ∷ ms) = same_functions (with_macro names m) ms

pub before_sorts : (names : Declarations) (macros : ℕ) → (names_before names macros).sorts ≡ names.sorts
before_sorts names macros = same_sorts _ (take macros names.macros)

pub before_functions : (names : Declarations) (macros : ℕ) → (names_before names macros).functions ≡ names.functions
before_functions names macros = same_functions _ (take macros names.macros)

-- all macros
take_all : {A : Type 0} (xs : List A) → take (length xs) xs ≡ xs
take_all [] = refl
take_all (x ∷ xs) = ap (λ ys. x ∷ ys) (take_all xs)

pub all_macros : (names : Declarations) → names_before names (length names.macros) ≡ names_of names
all_macros names = ap (signature_of names) (take_all names.macros)

-- what is in scope, by its entries
pub entries_length : (es : List (List ℕ × kept.Bound)) → length (entries_of es) ≡ length es
entries_length es = length-map es _

pub entries_drop : (n : ℕ) (es : List (List ℕ × kept.Bound)) → entries_of (drop n es) ≡ drop n (entries_of es)
entries_drop zero es = refl
entries_drop (suc n) [] = refl
entries_drop (suc n) (e ∷ es) = entries_drop n es

bound_is : (name : List ℕ) (es : List (List ℕ × kept.Bound)) → bound_to name (entries_of es) ≡ option_map bound_of (value_of name es)
bound_is name [] = refl
bound_is name (e ∷ es) = go (is_text name e.0) (bound_is name es)
  where
    go : (t : Bool) → bound_to name (entries_of es) ≡ option_map bound_of (value_of name es) → (if t then Some (bound_of e.1) else bound_to name (entries_of es)) ≡ option_map bound_of (if t then Some e.1 else value_of name es)
    go true rest = refl
    go false rest = rest

pub bound_in : (name : List ℕ) (es : List (List ℕ × kept.Bound)) (r : Option (Bor kept.Bound)) → option_copied r ≡ value_of name es
    → MatchOption r (bound_to name (entries_of es) ≡ None) (λ b. bound_to name (entries_of es) ≡ Some (bound_of b.now))
bound_in name es None is = bound_is name es ∙ ap (option_map bound_of) (sym is)
bound_in name es (Some b) is = bound_is name es ∙ ap (option_map bound_of) (sym is)

-- the arguments of a macro, one in turn
pub argument_next : (p : Parameter) (ps : List Parameter) (m : Meaning) (ms : List Meaning) (next : ℕ) (before : List plain.Binding)
    → before ++ arguments (p ∷ ps) (m ∷ ms) next ≡ (before ++ record { name = p.name; bound = Value next m } ∷ []) ++ arguments ps ms next
argument_next p ps m ms next before = sym (append_assoc before _ (arguments ps ms next))

pub ruleset end_laws = (entered)

pub ruleset entry_laws = (entries_length, entries_drop)

pub ruleset macro_laws = (before_sorts, before_functions)

pub ruleset argument_laws = (argument_next, bindings_end, append-nil)
