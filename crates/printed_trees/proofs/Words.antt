-- The words of terms, and names that are none of them.
use Rattle.std.proofs.Common.{◌≡◌, ℕ, Bool, true, false, ◌||◌, List, [], ◌∷◌, None, refl, ap}
use Rattle.std.specs.Prelude.{codes}
use Rattle.std.specs.List.{list_all}
use Rattle.std.proofs.lemmas.Bool.{and_parts}
use Rattle.smtlib_terms.specs.Words.{arithmetic_words, binder_words, connective_words, is_reserved, is_reserved_word, is_text, operation_words, relation_words, word_among, word_of}
use Rattle.smtlib_terms.specs.declared.word.Word.{Word}
use Rattle.smtlib_terms.specs.declared.word.Word.TheVariants as word
use Rattle.smtlib_terms.proofs.Texts.{other_text}

pub not_word : word_of (codes "not") ≡ word.Not
unfolding word_of
not_word = refl

pub and_word : word_of (codes "and") ≡ word.And
unfolding word_of
and_word = refl

pub or_word : word_of (codes "or") ≡ word.Or
unfolding word_of
or_word = refl

pub ite_word : word_of (codes "ite") ≡ word.Choose
unfolding word_of
ite_word = refl

pub equal_word : word_of (codes "=") ≡ word.Equal
unfolding word_of
equal_word = refl

pub at_most_word : word_of (codes "<=") ≡ word.AtMost
unfolding word_of
at_most_word = refl

pub plus_word : word_of (codes "+") ≡ word.Plus
unfolding word_of
plus_word = refl

pub minus_word : word_of (codes "-") ≡ word.Minus
unfolding word_of
minus_word = refl

pub select_word : word_of (codes "select") ≡ word.Select
unfolding word_of
select_word = refl

pub store_word : word_of (codes "store") ≡ word.Store
unfolding word_of
store_word = refl

pub default_word : word_of (codes "default") ≡ word.Default
unfolding word_of
default_word = refl

pub forall_word : word_of (codes "forall") ≡ word.Forall
unfolding word_of
forall_word = refl

pub exists_word : word_of (codes "exists") ≡ word.Exists
unfolding word_of
exists_word = refl

-- a name that isn't reserved is none of the reserved words
pub no_word : (name w : List ℕ) → is_reserved_word name ≡ false → is_reserved_word w ≡ true → is_text name w ≡ false
no_word name w free reserved = other_text name w (λ same. let e : is_reserved_word name ≡ is_reserved_word w = ap is_reserved_word same in cc)

abbrev are_reserved : List (List ℕ × Word) → Bool
are_reserved entries = list_all (λ (entry : List ℕ × Word). is_reserved_word entry.0) entries

none_among : (entries : List (List ℕ × Word)) (name : List ℕ) → is_reserved_word name ≡ false → are_reserved entries ≡ true → word_among entries name ≡ None
none_among [] name free reserved = refl
none_among (entry ∷ entries) name free reserved =
    let parts = and_parts (is_reserved_word entry.0) (are_reserved entries) reserved in
    rw (no_word name entry.0 free parts.0) (none_among entries name free parts.1)

connectives_reserved : are_reserved connective_words ≡ true
unfolding is_reserved_word
connectives_reserved = refl

relations_reserved : are_reserved relation_words ≡ true
unfolding is_reserved_word
relations_reserved = refl

operations_reserved : are_reserved operation_words ≡ true
unfolding is_reserved_word
operations_reserved = refl

binders_reserved : are_reserved binder_words ≡ true
unfolding is_reserved_word
binders_reserved = refl

arithmetic_reserved : are_reserved arithmetic_words ≡ true
unfolding is_reserved_word
arithmetic_reserved = refl

-- so it is a name to the reader
pub name_word : (name : List ℕ) → is_reserved_word name ≡ false → word_of name ≡ word.Name
unfolding word_of
name_word name free =
    let one = none_among connective_words name free connectives_reserved in
    let two = none_among relation_words name free relations_reserved in
    let three = none_among operation_words name free operations_reserved in
    let four = none_among binder_words name free binders_reserved in
    let five = none_among arithmetic_words name free arithmetic_reserved in
    rw (one, two, three, four, five) refl

or_last : (a b c : Bool) → (a || (b || c)) ≡ false → c ≡ false
or_last false false c e = e
or_last false true c e = cc
or_last true b c e = cc

-- a reserved word is a reserved name
pub no_reserved_word : (name : List ℕ) → is_reserved name ≡ false → is_reserved_word name ≡ false
unfolding is_reserved
no_reserved_word name free = or_last _ _ _ free
