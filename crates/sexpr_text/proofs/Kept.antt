-- The forms that are read have texts of their kinds, and brackets within the limit.
use Rattle.std.proofs.Common.{◌≡◌, ℕ, ◌+◌, ◌≤◌, true, false, cond, ◌&&◌, eqb, List, [], ◌∷◌, ◌++◌, map, length, Ok, Err, IfOk, refl, sym, ap, ◌∙◌, arith}
use Rattle.std.specs.List.{list_all, AllByRecursion}
use Rattle.std.proofs.lemmas.Bool.Decides.{nat_tests}
use Rattle.mbqi_values.specs.declared.fault.FaultKind.TheVariants.{TooDeep}
use Rattle.sexpr_text.specs.Depth.{depth_of, depth_layer, highest}
use Rattle.sexpr_text.specs.Lexis.{Lexed, Ended, Broken, Next, open_limit}
use Rattle.sexpr_text.specs.Legal.{is_legal}
use Rattle.sexpr_text.specs.Reading.{read_from, step_by, then_read, put_in, opened, closed_in}
use Rattle.sexpr_text.specs.declared.token.Token.{Token}
use Rattle.sexpr_text.specs.declared.token.Token.TheVariants.{Open, Close, Atom}
use Rattle.sexpr_text.specs.declared.tree.Form.{Form}
use Rattle.sexpr_text.specs.declared.tree.Sexpr.{Sexpr}
use Rattle.sexpr_text.specs.declared.tree.Sexpr.TheVariants as sexpr
use Rattle.sexpr_text.specs.declared.tree.Sexpr.TheVariants.{rolls-Numeral, rolls-Decimal, rolls-Hex, rolls-Binary, rolls-Str, rolls-Symbol, rolls-Keyword}
use Rattle.sexpr_text.specs.declared.tree.Sexpr.TheFolds.{fold-roll-Sexpr}
use Rattle.sexpr_text.specs.declared.tree.Sexpr.TheOpen.{Sexpr-F}
use Rattle.sexpr_text.proofs.Legality.{IsLegalAtom, HaveLegalAtoms}
use Rattle.sexpr_text.proofs.ReadBack.{legal-List, depth-List}
use Rattle.sexpr_text.proofs.Soundness.{reading}
use Rattle.sexpr_text.proofs.Spelling.{by_cases, IsAtom, spelled-List}

-- a tree has no brackets where it is one token
abbrev pub IsFlat : Sexpr → Type 0
IsFlat tree = IsAtom tree → depth_of tree ≡ 0

pub flat : (tree : Sexpr) → IsFlat tree
flat = by_cases IsFlat (record {
  numeral = λ text _. ap depth_of (sym (rolls-Numeral text)) ∙ fold-roll-Sexpr ℕ depth_layer (Sexpr-F.Numeral text);
  decimal = λ text _. ap depth_of (sym (rolls-Decimal text)) ∙ fold-roll-Sexpr ℕ depth_layer (Sexpr-F.Decimal text);
  hex = λ text _. ap depth_of (sym (rolls-Hex text)) ∙ fold-roll-Sexpr ℕ depth_layer (Sexpr-F.Hex text);
  binary = λ text _. ap depth_of (sym (rolls-Binary text)) ∙ fold-roll-Sexpr ℕ depth_layer (Sexpr-F.Binary text);
  str = λ text _. ap depth_of (sym (rolls-Str text)) ∙ fold-roll-Sexpr ℕ depth_layer (Sexpr-F.Str text);
  symbol = λ text _. ap depth_of (sym (rolls-Symbol text)) ∙ fold-roll-Sexpr ℕ depth_layer (Sexpr-F.Symbol text);
  keyword = λ text _. ap depth_of (sym (rolls-Keyword text)) ∙ fold-roll-Sexpr ℕ depth_layer (Sexpr-F.Keyword text);
  list = λ parts _ atom. let e = sym (spelled-List parts) ∙ atom in cc;
})

-- a tree that is legal, and shallow behind n open brackets
pub record Fits (n : ℕ) (tree : Sexpr) : Type 0 where
  pub legal : is_legal tree ≡ true
  pub shallow : depth_of tree + n ≤ open_limit

abbrev pub FormFits : Form → Type 0
FormFits form = Fits 0 form.tree

abbrev pub FormsFit : List Form → Type 0
FormsFit forms = AllByRecursion FormFits forms

abbrev pub RowsFit : List (List Sexpr) → Type 0
RowsFit [] = Unit {0}
RowsFit (row ∷ rows) = AllByRecursion (Fits (length (row ∷ rows))) row × (length (row ∷ rows) ≤ open_limit) × RowsFit rows

one_more : {X : Type 0} (P : X → Type 0) (xs : List X) (x : X) → AllByRecursion P xs → P x → AllByRecursion P (xs ++ x ∷ [])
one_more P [] x all here = (here, tt)
one_more P (y ∷ xs) x all here = (all.0, one_more P xs x all.1 here)

few_open : (rows : List (List Sexpr)) → RowsFit rows → length rows ≤ open_limit
few_open [] fit = omega arith
few_open (row ∷ rows) fit = fit.1

legal_row : (n : ℕ) (row : List Sexpr) → AllByRecursion (Fits n) row → list_all is_legal row ≡ true
legal_row n [] all = refl
legal_row n (tree ∷ row) all = ap (λ t. t && list_all is_legal row) all.0.legal ∙ legal_row n row all.1

shallow_row : (n : ℕ) (row : List Sexpr) → n ≤ open_limit → AllByRecursion (Fits n) row → highest (map depth_of row) + n ≤ open_limit
shallow_row n [] within all = omega arith
shallow_row n (tree ∷ row) within all = omega (arith, all.0.shallow, shallow_row n row within all.1)

list_fits : (row : List Sexpr) (rows : List (List Sexpr)) → RowsFit (row ∷ rows) → Fits (length rows) (sexpr.List row)
list_fits row rows fit = record {
  legal = legal-List row ∙ legal_row (length (row ∷ rows)) row fit.0;
  shallow = omega (arith, depth-List row, shallow_row (length (row ∷ rows)) row fit.1 fit.0);
}

atom_fits : (tree : Sexpr) (n : ℕ) → IsLegalAtom tree → n ≤ open_limit → Fits n tree
atom_fits tree n atom within = record { legal = atom.legal; shallow = omega (arith, flat tree atom.atom) }

-- the reader's state fits from one token to the next
abbrev pub IsKept : Lexed → Type 0
IsKept lx = (forms : List Form) (o : ℕ) (rows : List (List Sexpr)) → FormsFit forms → RowsFit rows → IfOk (reading forms o rows lx) FormsFit

after_put : (rest : Lexed) → IsKept rest → (forms : List Form) (o : ℕ) (rows : List (List Sexpr)) (tree : Sexpr) (from to : ℕ) → FormsFit forms → RowsFit rows → Fits (length rows) tree →
    IfOk (read_from (put_in forms o rows tree from to) rest) FormsFit
after_put rest kept forms o [] tree from to fit rows_fit tree_fits =
    kept (forms ++ record { tree = tree; from = from; to = to } ∷ []) o [] (one_more FormFits forms (record { tree = tree; from = from; to = to }) fit tree_fits) tt
after_put rest kept forms o (row ∷ rows) tree from to fit rows_fit tree_fits =
    kept forms o ((row ++ tree ∷ []) ∷ rows) fit (one_more (Fits (length (row ∷ rows))) row tree rows_fit.0 tree_fits, rows_fit.1, rows_fit.2)

after_open : (rest : Lexed) → IsKept rest → (forms : List Form) (o : ℕ) (rows : List (List Sexpr)) (from : ℕ) → FormsFit forms → RowsFit rows →
    IfOk (then_read (opened (record { forms = forms; outermost = o; rows = rows }) from) (λ next. read_from next rest)) FormsFit
after_open rest kept forms o rows from fit rows_fit =
    let outer = cond (eqb (length rows) 0) from o in
    elim (eqb (length rows) open_limit) as (λ t. eqb (length rows) open_limit ≡ t → IfOk (then_read (cond t (Err (record { at = from; kind = TooDeep })) (Ok (record { forms = forms; outermost = outer; rows = [] ∷ rows }))) (λ next. read_from next rest)) FormsFit) [
      | true ↦ λ _. tt
      | false ↦ λ other. kept forms outer ([] ∷ rows) fit (tt, deeper rows (few_open rows rows_fit) other, rows_fit)
    ] refl
  where
    deeper : (rows : List (List Sexpr)) → length rows ≤ open_limit → eqb (length rows) open_limit ≡ false → length ([] ∷ rows) ≤ open_limit
    deeper rows within other = grind (arith, nat_tests)

after_close : (rest : Lexed) → IsKept rest → (forms : List Form) (o : ℕ) (rows : List (List Sexpr)) (from to : ℕ) → FormsFit forms → RowsFit rows →
    IfOk (then_read (closed_in forms o rows from to) (λ next. read_from next rest)) FormsFit
after_close rest kept forms o [] from to fit rows_fit = tt
after_close rest kept forms o (row ∷ rows) from to fit rows_fit = after_put rest kept forms o rows (sexpr.List row) o to fit rows_fit.2 (list_fits row rows rows_fit)

after_next : (rest : Lexed) → IsKept rest → (forms : List Form) (o : ℕ) (rows : List (List Sexpr)) (from to : ℕ) (token : Token) → ((tree : Sexpr) → token ≡ Atom tree → IsLegalAtom tree) → FormsFit forms → RowsFit rows →
    IfOk (then_read (step_by (record { forms = forms; outermost = o; rows = rows }) token from to) (λ next. read_from next rest)) FormsFit
after_next rest kept forms o rows from to Open atoms fit rows_fit = after_open rest kept forms o rows from fit rows_fit
after_next rest kept forms o rows from to Close atoms fit rows_fit = after_close rest kept forms o rows from to fit rows_fit
after_next rest kept forms o rows from to (Atom tree) atoms fit rows_fit = after_put rest kept forms o rows tree from to fit rows_fit (atom_fits tree (length rows) (atoms tree refl) (few_open rows rows_fit))

pub kept : (lx : Lexed) → HaveLegalAtoms lx → IsKept lx
unfolding read_from
kept Ended atoms forms o [] fit rows_fit = fit
kept Ended atoms forms o (row ∷ rows) fit rows_fit = tt
kept (Broken refusal) atoms forms o rows fit rows_fit = tt
kept (Next placed rest) atoms forms o rows fit rows_fit = after_next rest (kept rest atoms.1) forms o rows placed.from placed.to placed.token atoms.0 fit rows_fit
