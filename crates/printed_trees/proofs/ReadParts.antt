-- How a list reads, by its head and by how its parts read.
use Rattle.std.proofs.Common.{◌≡◌, ◌≤◌, ℕ, ◌+◌, Bool, cond, List, [], ◌∷◌, map, Result, Ok, Err, refl, ap, ◌∙◌}
use Rattle.mbqi_values.specs.declared.fault.FaultKind.{FaultKind}
use Rattle.mbqi_values.specs.declared.fault.FaultKind.TheVariants.{TooDeep}
use Rattle.sexpr_text.specs.declared.tree.Sexpr.{Sexpr}
use Rattle.sexpr_text.specs.declared.tree.Sexpr.TheBlock.{hidden-the_row-Sexpr-0}
use Rattle.sexpr_text.specs.declared.tree.Sexpr.TheVariants as tree
use denote.Hole.Carrier.{hidden}
use Rattle.smtlib_terms.specs.declared.meaning.Meaning.{Meaning}
use Rattle.smtlib_terms.specs.declared.meaning.Side.{Side}
use Rattle.smtlib_terms.specs.declared.meaning.Side.TheVariants.{Meant}
use Rattle.smtlib_terms.specs.declared.names.Binding.{Binding}
use Rattle.smtlib_terms.specs.declared.word.Word.{Word}
use Rattle.smtlib_terms.specs.Meaning.{depth_of, variables_of}
use Rattle.smtlib_terms.specs.Names.{◌>>=◌, Signature}
use Rattle.smtlib_terms.specs.Operators.{applied}
use Rattle.smtlib_terms.specs.Reading.{Head, Named, Reading, body_read, head_of, headed_read, list_head, named_read, part_of, parts_read, relation_read, shallow_side, trees_in, values_read}
use Rattle.smtlib_terms.specs.Words.{word_of}
use Rattle.smtlib_terms.proofs.TermTrees.{side-List, trees_in-List}
use Rattle.printed_trees.specs.Means.{Means}
use Rattle.smtlib_terms.proofs.Tests.{le_true}

-- what isn't too deep
pub shallow_ok : (m : Meaning) → depth_of m ≤ 1000 → shallow_side (Meant m) ≡ Ok (Meant m)
shallow_ok m deep = ap (λ (t : Bool). (cond t (Ok m) (Err TooDeep)) >>= (λ (n : Meaning). Ok (Meant n))) (le_true (depth_of m) 1000 deep)

-- a list whose head is this
pub headed_means : (head : Sexpr) (ts : List Sexpr) (names : Signature) (scope : List Binding) (next : ℕ) (h : Head) (m : Meaning) →
    head_of head ≡ h → headed_read h (map part_of ts) names scope next ≡ Ok (Meant m) → depth_of m ≤ 1000 → Means (tree.List (head ∷ ts)) names scope next m
headed_means head ts names scope next h m is read deep =
    ap (λ (r : Reading). r names scope next) (side-List (head ∷ ts))
    ∙ (ap (λ (k : Head). headed_read k (map part_of ts) names scope next >>= shallow_side) is
    ∙ (ap (λ (r : Result Side FaultKind). r >>= shallow_side) read ∙ shallow_ok m deep))

-- one whose head is a word
pub word_means : (w : List ℕ) (k : Word) (ts : List Sexpr) (names : Signature) (scope : List Binding) (next : ℕ) (m : Meaning) →
    word_of w ≡ k → named_read k w (map part_of ts) names scope next ≡ Ok (Meant m) → depth_of m ≤ 1000 → Means (tree.List (tree.Symbol w ∷ ts)) names scope next m
word_means w k ts names scope next m is read deep =
    headed_means (tree.Symbol w) ts names scope next (Named k w) m (ap (λ (j : Word). Named j w) is) read deep

-- a head that is a list
head_of-List : (items : List Sexpr) → head_of (tree.List items) ≡ list_head (trees_in (tree.List items))
unfolding hidden-the_row-Sexpr-0 hidden
head_of-List items = refl

pub list_is_head : (items : List Sexpr) → head_of (tree.List items) ≡ list_head items
list_is_head items = head_of-List items ∙ ap list_head (trees_in-List items)

-- parts, each behind the one before it
pub parts_more : (t : Sexpr) (ts : List Sexpr) (names : Signature) (scope : List Binding) (next : ℕ) (m : Meaning) (ms : List Meaning) →
    Means t names scope next m → parts_read (map part_of ts) names scope (next + variables_of m) ≡ Ok ms → parts_read (map part_of (t ∷ ts)) names scope next ≡ Ok (m ∷ ms)
parts_more t ts names scope next m ms e f = rw (e, f) refl

pub one_read : (a : Sexpr) (names : Signature) (scope : List Binding) (next : ℕ) (m : Meaning) →
    Means a names scope next m → parts_read (map part_of (a ∷ [])) names scope next ≡ Ok (m ∷ [])
one_read a names scope next m e = rw e refl

pub two_read : (a b : Sexpr) (names : Signature) (scope : List Binding) (next : ℕ) (m n : Meaning) →
    Means a names scope next m → Means b names scope (next + variables_of m) n → parts_read (map part_of (a ∷ b ∷ [])) names scope next ≡ Ok (m ∷ n ∷ [])
two_read a b names scope next m n e f = rw (e, f) refl

pub three_read : (a b c : Sexpr) (names : Signature) (scope : List Binding) (next : ℕ) (m n o : Meaning) →
    Means a names scope next m → Means b names scope (next + variables_of m) n → Means c names scope (next + variables_of m + variables_of n) o →
    parts_read (map part_of (a ∷ b ∷ c ∷ [])) names scope next ≡ Ok (m ∷ n ∷ o ∷ [])
three_read a b c names scope next m n o e f g = rw (e, f, g) refl

-- values, each from the same place on
pub values_more : (t : Sexpr) (ts : List Sexpr) (names : Signature) (scope : List Binding) (next : ℕ) (m : Meaning) (ms : List Meaning) →
    Means t names scope next m → values_read (map part_of ts) names scope next ≡ Ok ms → values_read (map part_of (t ∷ ts)) names scope next ≡ Ok (m ∷ ms)
values_more t ts names scope next m ms e f = rw (e, f) refl

-- the two sides of a relation
pub sides_read : (w : Word) (a b : Sexpr) (names : Signature) (scope : List Binding) (next : ℕ) (m n : Meaning) →
    Means a names scope next m → Means b names scope (next + variables_of m) n → relation_read w (map part_of (a ∷ b ∷ [])) names scope next ≡ applied w (m ∷ n ∷ [])
sides_read w a b names scope next m n e f = rw (e, f) refl

-- a body
pub body_is_read : (a : Sexpr) (names : Signature) (scope : List Binding) (next : ℕ) (m : Meaning) →
    Means a names scope next m → body_read (map part_of (a ∷ [])) names scope next ≡ Ok m
body_is_read a names scope next m e = rw e refl
