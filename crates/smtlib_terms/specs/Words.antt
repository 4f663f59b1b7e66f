use Rattle.std.specs.Prelude.{ℕ, Bool, ◌||◌, ◌==◌, nat_eq, List, [], ◌∷◌, codes, slice_index, Option, None, Some, unwrap_or, if◌then◌else◌}
use Rattle.std.specs.List.{list_any}
use Rattle.std.specs.Option.{option_or}
use Rattle.std.specs.Cmp.Lexicographic.{pointwise}
use Rattle.smtlib_terms.specs.declared.word.Word.{Word}
use Rattle.smtlib_terms.specs.declared.word.Word.TheVariants as word

-- Whether two texts are the same.
abbrev pub is_text : List ℕ → List ℕ → Bool
is_text a b = pointwise nat_eq a b

-- Whether the text is one of these.
abbrev pub is_one_of : List (List ℕ) → List ℕ → Bool
is_one_of texts text = list_any (λ other. is_text other text) texts

-- The connectives of the theory Core.
abbrev pub connective_words : List (List ℕ × Word)
connective_words =
    (codes "not", word.Not)
    ∷ (codes "and", word.And)
    ∷ (codes "or", word.Or)
    ∷ (codes "=>", word.Implies)
    ∷ (codes "xor", word.Xor)
    ∷ (codes "ite", word.Choose)
    ∷ []

-- The relations of the theories Core and Ints.
abbrev pub relation_words : List (List ℕ × Word)
relation_words =
    (codes "=", word.Equal)
    ∷ (codes "distinct", word.Distinct)
    ∷ (codes "<=", word.AtMost)
    ∷ (codes "<", word.Below)
    ∷ (codes ">=", word.AtLeast)
    ∷ (codes ">", word.Above)
    ∷ []

-- The operations of the theories Ints and ArraysEx that the profile has, and `default`, which is this project's own.
abbrev pub operation_words : List (List ℕ × Word)
operation_words =
    (codes "+", word.Plus)
    ∷ (codes "-", word.Minus)
    ∷ (codes "select", word.Select)
    ∷ (codes "store", word.Store)
    ∷ (codes "default", word.Default)
    ∷ []

-- The words of terms with bindings, binders or attributes.
abbrev pub binder_words : List (List ℕ × Word)
binder_words =
    (codes "let", word.Let)
    ∷ (codes "forall", word.Forall)
    ∷ (codes "exists", word.Exists)
    ∷ (codes "!", word.Annotated)
    ∷ (codes "match", word.Unread)
    ∷ (codes "par", word.Unread)
    ∷ []

-- The operations that are left out.
abbrev pub arithmetic_words : List (List ℕ × Word)
arithmetic_words =
    (codes "*", word.Arithmetic)
    ∷ (codes "div", word.Arithmetic)
    ∷ (codes "mod", word.Arithmetic)
    ∷ (codes "abs", word.Arithmetic)
    ∷ []

-- The word of a text in such a list, unless it isn't there.
abbrev pub word_among : List (List ℕ × Word) → List ℕ → Option Word
word_among [] text = None
word_among (entry ∷ entries) text = if is_text text entry.0 then Some entry.1 else word_among entries text

-- What a symbol means at the head of a list by itself (SMT-LIB 2.6, section 3.6 and the theories). Any other may
-- be a name.
unfoldable pub word_of : List ℕ → Word
word_of text =
    unwrap_or (option_or (option_or (option_or (option_or
    (word_among connective_words text) (word_among relation_words text)) (word_among operation_words text))
    (word_among binder_words text)) (word_among arithmetic_words text)) word.Name

-- The reserved words of SMT-LIB 2.6, section 3.1.
abbrev pub general_words : List (List ℕ)
general_words =
    codes "_"
    ∷ codes "!"
    ∷ codes "as"
    ∷ codes "let"
    ∷ codes "exists"
    ∷ codes "forall"
    ∷ codes "match"
    ∷ codes "par"
    ∷ codes "BINARY"
    ∷ codes "DECIMAL"
    ∷ codes "HEXADECIMAL"
    ∷ codes "NUMERAL"
    ∷ codes "STRING"
    ∷ []

-- The words of commands that are passed over, whatever stands behind them (SMT-LIB 2.6, section 3.9).
abbrev pub passed_over_words : List (List ℕ)
passed_over_words =
    codes "set-logic"
    ∷ codes "set-info"
    ∷ codes "set-option"
    ∷ codes "get-model"
    ∷ codes "get-info"
    ∷ codes "get-unsat-core"
    ∷ codes "echo"
    ∷ []

-- The words of the other commands, also of those that this profile leaves out (SMT-LIB 2.6, section 3.9).
abbrev pub command_words : List (List ℕ)
command_words =
    codes "declare-sort"
    ∷ codes "declare-const"
    ∷ codes "declare-fun"
    ∷ codes "define-fun"
    ∷ codes "assert"
    ∷ codes "check-sat"
    ∷ codes "exit"
    ∷ codes "define-sort"
    ∷ codes "declare-datatypes"
    ∷ codes "get-value"
    ∷ codes "get-proof"
    ∷ codes "check-sat-assuming"
    ∷ codes "reset"
    ∷ codes "push"
    ∷ codes "pop"
    ∷ []

-- The names of the theories, and `default`, which is this project's own.
abbrev pub theory_words : List (List ℕ)
theory_words =
    codes "true"
    ∷ codes "false"
    ∷ codes "not"
    ∷ codes "and"
    ∷ codes "or"
    ∷ codes "xor"
    ∷ codes "ite"
    ∷ codes "distinct"
    ∷ codes "select"
    ∷ codes "store"
    ∷ codes "default"
    ∷ codes "Int"
    ∷ codes "Bool"
    ∷ codes "Array"
    ∷ codes "div"
    ∷ codes "mod"
    ∷ codes "abs"
    ∷ codes "=>"
    ∷ codes "="
    ∷ codes "+"
    ∷ codes "-"
    ∷ codes "*"
    ∷ codes "<="
    ∷ codes "<"
    ∷ codes ">="
    ∷ codes ">"
    ∷ []

unfoldable pub is_reserved_word : List ℕ → Bool
is_reserved_word name =
    is_one_of general_words name
    || (is_one_of passed_over_words name || (is_one_of command_words name || is_one_of theory_words name))

-- Whether nobody may declare, define or bind the name: a reserved word, or one that begins with `@` or `.`,
-- since such names belong to solvers.
unfoldable pub is_reserved : List ℕ → Bool
is_reserved name = slice_index name 0 == 64 || (slice_index name 0 == 46 || is_reserved_word name)
