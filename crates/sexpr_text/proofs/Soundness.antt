-- What the reader's plan gives is what the bytes have: their forms, or their first fault.
use Rattle.std.proofs.Common.{◌≡◌, ℕ, suc, ◌+◌, ◌-◌, true, false, cond, eqb, List, [], ◌∷◌, ◌++◌, map, length, Option, None, Some, Result, Ok, Err, refl, sym, ap, ◌∙◌, subst, arith, append_assoc, append-nil}
use Rattle.std.specs.List.{flat_map}
use Rattle.std.proofs.lemmas.Bool.Decides.{nat_tests}
use Rattle.mbqi_values.specs.declared.fault.FaultKind.TheVariants.{Unopened, Unclosed, TooDeep}
use Rattle.mbqi_values.specs.declared.fault.Refusal.{Refusal}
use Rattle.sexpr_text.specs.Lexis.{Placed, Lexed, Ended, Broken, Next, tokens_of, fault_from, fault_at, open_limit}
use Rattle.sexpr_text.specs.Forms.{spelled, BeginAt, EndAt, SpellForm, SpellForms}
use Rattle.sexpr_text.specs.Reading.{read_from, step_by, then_read, finished_in, put_in, opened, closed_in}
use Rattle.sexpr_text.specs.declared.reader.Reader.{Reader}
use Rattle.sexpr_text.specs.declared.token.Token.{Token}
use Rattle.sexpr_text.specs.declared.token.Token.TheVariants.{Open, Close, Atom}
use Rattle.sexpr_text.specs.declared.tree.Form.{Form}
use Rattle.sexpr_text.specs.declared.tree.Sexpr.{Sexpr}
use Rattle.sexpr_text.specs.declared.tree.Sexpr.TheVariants as sexpr
use Rattle.sexpr_text.proofs.Spelling.{IsAtom, spelled-List}

abbrev pub token_of : Placed → Token
token_of placed = placed.token

-- the tokens of the open brackets and of the trees behind each
abbrev pub open_tokens : List (List Sexpr) → List Token
open_tokens [] = []
open_tokens (row ∷ rows) = open_tokens rows ++ Open ∷ flat_map spelled row

-- the outermost open bracket stands at a place
abbrev pub OutermostAt : List (List Sexpr) → List Placed → ℕ → Type 0
OutermostAt [] open_ from = Unit {0}
OutermostAt (row ∷ rows) open_ from = BeginAt open_ from

-- the tokens are those of the forms, and then those of the open brackets
pub record Read (forms : List Form) (outermost : ℕ) (rows : List (List Sexpr)) (tokens : List Placed) : Type 0 where
  pub done : List Placed
  pub opens : List Placed
  pub whole : tokens ≡ done ++ opens
  pub spelled : SpellForms done forms
  pub behind : map token_of opens ≡ open_tokens rows
  pub begins : OutermostAt rows opens outermost

pub more_forms : (done own : List Placed) (forms : List Form) (form : Form) → SpellForms done forms → SpellForm own form → SpellForms (done ++ own) (forms ++ form ∷ [])
more_forms done own [] form none one = (own, [], ap (λ tokens. tokens ++ own) none ∙ sym (append-nil own), one, refl)
more_forms done own (first ∷ forms) form all one =
    (all.0, all.1 ++ own, ap (λ tokens. tokens ++ own) all.2 ∙ append_assoc all.0 all.1 own, all.3, more_forms all.1 own forms form all.4 one)

pub map-append : (xs ys : List Placed) → map token_of (xs ++ ys) ≡ map token_of xs ++ map token_of ys
map-append [] ys = refl
map-append (x ∷ xs) ys = ap (λ tokens. x.token ∷ tokens) (map-append xs ys)

flat_map-append : (xs ys : List Sexpr) → flat_map spelled (xs ++ ys) ≡ flat_map spelled xs ++ flat_map spelled ys
flat_map-append [] ys = refl
flat_map-append (x ∷ xs) ys = ap (λ tokens. spelled x ++ tokens) (flat_map-append xs ys) ∙ sym (append_assoc (spelled x) (flat_map spelled xs) (flat_map spelled ys))

begins_still : (xs ys : List Placed) (from : ℕ) → BeginAt xs from → BeginAt (xs ++ ys) from
begins_still [] ys from absent = absurd absent
begins_still (x ∷ xs) ys from begins = begins

pub ends_with : (xs : List Placed) (last : Placed) → EndAt (xs ++ last ∷ []) last.to
ends_with [] last = refl
ends_with (x ∷ []) last = refl
ends_with (x ∷ y ∷ xs) last = ends_with (y ∷ xs) last

no_tokens : (xs : List Placed) → map token_of xs ≡ [] → xs ≡ []
no_tokens [] none = refl
no_tokens (x ∷ xs) none = cc

abbrev pub ReadTo : Reader → List Placed → Type 0
ReadTo reader tokens = Read reader.forms reader.outermost reader.rows tokens

one_more : (done opens own : List Placed) (tokens : List Placed) → tokens ≡ done ++ opens → tokens ++ own ≡ done ++ (opens ++ own)
one_more done opens own tokens is = ap (λ ts. ts ++ own) is ∙ append_assoc done opens own

one_row : (row : List Sexpr) (tree : Sexpr) (before own : List Token) → own ≡ spelled tree → (before ++ Open ∷ flat_map spelled row) ++ own ≡ before ++ Open ∷ flat_map spelled (row ++ tree ∷ [])
one_row row tree before own is =
    append_assoc before (Open ∷ flat_map spelled row) own
    ∙ ap (λ ts. before ++ Open ∷ ts) (ap (λ ts. flat_map spelled row ++ ts) (is ∙ sym (append-nil (spelled tree))) ∙ sym (flat_map-append row (tree ∷ [])))

-- a tree whose tokens come behind the open brackets
put_row : (forms : List Form) (o : ℕ) (row : List Sexpr) (rows : List (List Sexpr)) (tokens : List Placed) (own : List Placed) (tree : Sexpr) →
    Read forms o (row ∷ rows) tokens → map token_of own ≡ spelled tree → Read forms o ((row ++ tree ∷ []) ∷ rows) (tokens ++ own)
put_row forms o row rows tokens own tree read is = record {
  done = read.done;
  opens = read.opens ++ own;
  whole = one_more read.done read.opens own tokens read.whole;
  spelled = read.spelled;
  behind = map-append read.opens own ∙ ap (λ ts. ts ++ map token_of own) read.behind ∙ one_row row tree (open_tokens rows) (map token_of own) is;
  begins = begins_still read.opens own o read.begins;
}

-- a tree that is a form
put_form : (forms : List Form) (o from to : ℕ) (done own : List Placed) (tokens : List Placed) (tree : Sexpr) →
    tokens ≡ done ++ own → SpellForms done forms → SpellForm own (record { tree = tree; from = from; to = to }) →
    Read (forms ++ record { tree = tree; from = from; to = to } ∷ []) o [] tokens
put_form forms o from to done own tokens tree is all one = record {
  done = done ++ own;
  opens = [];
  whole = is ∙ sym (append-nil (done ++ own));
  spelled = more_forms done own forms (record { tree = tree; from = from; to = to }) all one;
  behind = refl;
  begins = tt;
}

atom_read : (forms : List Form) (o : ℕ) (rows : List (List Sexpr)) (tokens : List Placed) (placed : Placed) (tree : Sexpr) →
    placed.token ≡ Atom tree → IsAtom tree → Read forms o rows tokens → ReadTo (put_in forms o rows tree placed.from placed.to) (tokens ++ placed ∷ [])
atom_read forms o [] tokens placed tree is atom read =
    put_form forms o placed.from placed.to read.done (placed ∷ []) _ tree
    (one_more read.done read.opens (placed ∷ []) tokens read.whole ∙ ap (λ ts. read.done ++ (ts ++ placed ∷ [])) (no_tokens read.opens read.behind))
    read.spelled (record { tree = ap (λ t. t ∷ []) is ∙ sym atom; from = refl; to = refl })
atom_read forms o (row ∷ rows) tokens placed tree is atom read =
    put_row forms o row rows tokens (placed ∷ []) tree read (ap (λ t. t ∷ []) is ∙ sym atom)

list_tokens : (row : List Sexpr) (opens : List Placed) (placed : Placed) (before : List Token) → placed.token ≡ Close → map token_of opens ≡ before ++ Open ∷ flat_map spelled row → map token_of (opens ++ placed ∷ []) ≡ before ++ spelled (sexpr.List row)
list_tokens row opens placed before is behind =
    map-append opens (placed ∷ []) ∙ ap (λ ts. ts ++ placed.token ∷ []) behind ∙ ap (λ t. (before ++ Open ∷ flat_map spelled row) ++ t ∷ []) is
    ∙ append_assoc before (Open ∷ flat_map spelled row) (Close ∷ []) ∙ ap (λ ts. before ++ ts) (sym (spelled-List row))

close_read : (forms : List Form) (o : ℕ) (row : List Sexpr) (rows : List (List Sexpr)) (tokens : List Placed) (placed : Placed) →
    placed.token ≡ Close → Read forms o (row ∷ rows) tokens → ReadTo (put_in forms o rows (sexpr.List row) o placed.to) (tokens ++ placed ∷ [])
close_read forms o row [] tokens placed is read =
    put_form forms o o placed.to read.done (read.opens ++ placed ∷ []) _ (sexpr.List row)
    (one_more read.done read.opens (placed ∷ []) tokens read.whole) read.spelled
    (record { tree = list_tokens row read.opens placed [] is read.behind; from = begins_still read.opens (placed ∷ []) o read.begins; to = ends_with read.opens placed })
close_read forms o row (outer ∷ rows) tokens placed is read = record {
  done = read.done;
  opens = read.opens ++ placed ∷ [];
  whole = one_more read.done read.opens (placed ∷ []) tokens read.whole;
  spelled = read.spelled;
  behind = list_tokens row read.opens placed (open_tokens (outer ∷ rows)) is read.behind
      ∙ one_row outer (sexpr.List row) (open_tokens rows) (spelled (sexpr.List row)) refl;
  begins = begins_still read.opens (placed ∷ []) o read.begins;
}

some_open : (n : ℕ) → eqb (suc n) 0 ≡ false
some_open n = grind (arith, nat_tests)

opens_at : (rows : List (List Sexpr)) (opens : List Placed) (o : ℕ) (placed : Placed) → map token_of opens ≡ open_tokens rows → OutermostAt rows opens o → BeginAt (opens ++ placed ∷ []) (cond (eqb (length rows) 0) placed.from o)
opens_at [] opens o placed behind begins = rw (no_tokens opens behind) refl
opens_at (row ∷ rows) opens o placed behind begins =
    subst (λ t. BeginAt (opens ++ placed ∷ []) (cond t placed.from o)) (sym (some_open (length rows))) (begins_still opens (placed ∷ []) o begins)

open_read : (forms : List Form) (o : ℕ) (rows : List (List Sexpr)) (tokens : List Placed) (placed : Placed) →
    placed.token ≡ Open → Read forms o rows tokens → Read forms (cond (eqb (length rows) 0) placed.from o) ([] ∷ rows) (tokens ++ placed ∷ [])
open_read forms o rows tokens placed is read = record {
  done = read.done;
  opens = read.opens ++ placed ∷ [];
  whole = one_more read.done read.opens (placed ∷ []) tokens read.whole;
  spelled = read.spelled;
  behind = map-append read.opens (placed ∷ []) ∙ ap (λ ts. ts ++ placed.token ∷ []) read.behind ∙ ap (λ t. open_tokens rows ++ t ∷ []) is;
  begins = opens_at rows read.opens o placed read.behind read.begins;
}

-- no token is a list
abbrev pub HaveAtoms : Lexed → Type 0
HaveAtoms Ended = Unit {0}
HaveAtoms (Broken refusal) = Unit {0}
HaveAtoms (Next placed rest) = ((tree : Sexpr) → placed.token ≡ Atom tree → IsAtom tree) × HaveAtoms rest

-- what was read is what the tokens are
abbrev pub Gives : Result (List Form) Refusal → Option Refusal → List Placed → Type 0
Gives (Ok forms) fault tokens = (fault ≡ None) × SpellForms tokens forms
Gives (Err refusal) fault tokens = fault ≡ Some refusal

gives_along : (read : Result (List Form) Refusal) (fault other : Option Refusal) (tokens others : List Placed) → fault ≡ other → tokens ≡ others → Gives read fault tokens → Gives read other others
gives_along read fault other tokens others e f gives = subst (λ x. Gives read x others) e (subst (λ x. Gives read fault x) f gives)

-- the end of the text
at_end : (forms : List Form) (o : ℕ) (rows : List (List Sexpr)) (tokens : List Placed) → Read forms o rows tokens →
    Gives (finished_in forms o rows) (cond (eqb (length rows) 0) None (Some (record { at = o; kind = Unclosed }))) (tokens ++ [])
at_end forms o [] tokens read = (refl, subst (λ ts. SpellForms ts forms) (sym (append-nil tokens ∙ read.whole ∙ ap (λ ts. read.done ++ ts) (no_tokens read.opens read.behind) ∙ append-nil read.done)) read.spelled)
at_end forms o (row ∷ rows) tokens read = ap (λ t. cond t None (Some (record { at = o; kind = Unclosed }))) (some_open (length rows))

next_tokens : (tokens rest : List Placed) (placed : Placed) → (tokens ++ placed ∷ []) ++ rest ≡ tokens ++ placed ∷ rest
next_tokens tokens rest placed = append_assoc tokens (placed ∷ []) rest

-- what the reader gives from a reader's state on
abbrev pub reading : List Form → ℕ → List (List Sexpr) → Lexed → Result (List Form) Refusal
reading forms o rows lx = read_from (record { forms = forms; outermost = o; rows = rows }) lx

-- soundness of the tokens behind a tree that was put
abbrev pub IsSound : Lexed → Type 0
IsSound lx = (forms : List Form) (o : ℕ) (rows : List (List Sexpr)) (tokens : List Placed) → Read forms o rows tokens →
    Gives (reading forms o rows lx) (fault_from (length rows) o lx) (tokens ++ tokens_of lx)

after_put : (rest : Lexed) → IsSound rest → (forms : List Form) (o : ℕ) (rows : List (List Sexpr)) (tree : Sexpr) (from to depth : ℕ) (tokens : List Placed) →
    ReadTo (put_in forms o rows tree from to) tokens → length rows ≡ depth → Gives (read_from (put_in forms o rows tree from to) rest) (fault_from depth o rest) (tokens ++ tokens_of rest)
after_put rest sound forms o [] tree from to depth tokens read is = gives_along _ _ _ _ _ (ap (λ d. fault_from d o rest) is) refl (sound _ o [] tokens read)
after_put rest sound forms o (row ∷ rows) tree from to depth tokens read is = gives_along _ _ _ _ _ (ap (λ d. fault_from d o rest) is) refl (sound forms o _ tokens read)

after_open : (rest : Lexed) → IsSound rest → (forms : List Form) (o : ℕ) (rows : List (List Sexpr)) (tokens : List Placed) (placed : Placed) →
    placed.token ≡ Open → Read forms o rows tokens →
    Gives (then_read (opened (record { forms = forms; outermost = o; rows = rows }) placed.from) (λ next. read_from next rest)) (fault_at (length rows) o placed.from Open (λ d p. fault_from d p rest)) ((tokens ++ placed ∷ []) ++ tokens_of rest)
after_open rest sound forms o rows tokens placed is read =
    elim (eqb (length rows) open_limit) as (λ t. Gives
    (then_read (cond t (Err (record { at = placed.from; kind = TooDeep })) (Ok (record { forms = forms; outermost = cond (eqb (length rows) 0) placed.from o; rows = [] ∷ rows }))) (λ next. read_from next rest))
    (cond t (Some (record { at = placed.from; kind = TooDeep })) (fault_from (length rows + 1) (cond (eqb (length rows) 0) placed.from o) rest))
    ((tokens ++ placed ∷ []) ++ tokens_of rest)) [
      | true ↦ refl
      | false ↦ gives_along _ _ _ _ _ (ap (λ d. fault_from d (cond (eqb (length rows) 0) placed.from o) rest) (omega arith)) refl
          (sound forms (cond (eqb (length rows) 0) placed.from o) ([] ∷ rows) (tokens ++ placed ∷ []) (open_read forms o rows tokens placed is read))
    ]

after_close : (rest : Lexed) → IsSound rest → (forms : List Form) (o : ℕ) (rows : List (List Sexpr)) (tokens : List Placed) (placed : Placed) →
    placed.token ≡ Close → Read forms o rows tokens →
    Gives (then_read (closed_in forms o rows placed.from placed.to) (λ next. read_from next rest)) (fault_at (length rows) o placed.from Close (λ d p. fault_from d p rest)) ((tokens ++ placed ∷ []) ++ tokens_of rest)
after_close rest sound forms o [] tokens placed is read = refl
after_close rest sound forms o (row ∷ rows) tokens placed is read =
    gives_along _ (fault_from (length rows) o rest) _ _ _
    (sym (ap (λ t. cond t (Some (record { at = placed.from; kind = Unopened })) (fault_from (length (row ∷ rows) - 1) o rest)) (some_open (length rows)) ∙ ap (λ d. fault_from d o rest) (omega arith)))
    refl
    (after_put rest sound forms o rows (sexpr.List row) o placed.to (length rows) (tokens ++ placed ∷ []) (close_read forms o row rows tokens placed is read) refl)

after_next : (rest : Lexed) → IsSound rest → (forms : List Form) (o : ℕ) (rows : List (List Sexpr)) (tokens : List Placed) (placed : Placed) (token : Token) →
    placed.token ≡ token → ((tree : Sexpr) → placed.token ≡ Atom tree → IsAtom tree) → Read forms o rows tokens →
    Gives (then_read (step_by (record { forms = forms; outermost = o; rows = rows }) token placed.from placed.to) (λ next. read_from next rest)) (fault_at (length rows) o placed.from token (λ d p. fault_from d p rest)) ((tokens ++ placed ∷ []) ++ tokens_of rest)
after_next rest sound forms o rows tokens placed Open is atoms read = after_open rest sound forms o rows tokens placed is read
after_next rest sound forms o rows tokens placed Close is atoms read = after_close rest sound forms o rows tokens placed is read
after_next rest sound forms o rows tokens placed (Atom tree) is atoms read =
    after_put rest sound forms o rows tree placed.from placed.to (length rows) (tokens ++ placed ∷ []) (atom_read forms o rows tokens placed tree is (atoms tree is) read) refl

pub sound : (lx : Lexed) → HaveAtoms lx → IsSound lx
unfolding read_from fault_from
sound Ended atoms forms o rows tokens read = at_end forms o rows tokens read
sound (Broken refusal) atoms forms o rows tokens read = refl
sound (Next placed rest) atoms forms o rows tokens read =
    gives_along _ _ _ _ _ refl (next_tokens tokens (tokens_of rest) placed) (after_next rest (sound rest atoms.1) forms o rows tokens placed placed.token refl atoms.0 read)

-- what the reader gives of a whole text's tokens
pub sound_from_start : (lx : Lexed) → HaveAtoms lx → Gives (reading [] 0 [] lx) (fault_from 0 0 lx) (tokens_of lx)
sound_from_start lx atoms = sound lx atoms [] 0 [] [] (record { done = []; opens = []; whole = refl; spelled = refl; behind = refl; begins = tt })
