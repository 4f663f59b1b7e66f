-- A text of which each name may stand between bars is read as its S-expression, in any place.
use Rattle.std.proofs.Common.{◌≡◌, ℕ, ◌+◌, Bool, true, false, cond, ◌&&◌, not, List, [], ◌∷◌, ◌++◌, map, length, codes, refl, sym, ap, ◌∙◌, subst, arith, append_assoc, length-append, inl, inr}
use Rattle.std.specs.List.{flat_map, list_all, AllByRecursion}
use Rattle.std.proofs.Math.Seq.{drop-append_seam}
use Rattle.sexpr_text.specs.Bytes.{is_quoted_content}
use Rattle.sexpr_text.specs.Depth.{depth_of, depth_layer, IsShallow}
use Rattle.sexpr_text.specs.Forms.{spelled, BeginAt, EndAt, SpellForms, HaveForms}
use Rattle.sexpr_text.specs.Front.{front_of}
use Rattle.sexpr_text.specs.Legal.{is_legal}
use Rattle.sexpr_text.specs.Lexis.{Placed, Ended, Next, lexed_from, open_limit}
use Rattle.sexpr_text.specs.Text.{is_simple, text_of}
use Rattle.sexpr_text.specs.declared.token.Front.TheVariants as front
use Rattle.sexpr_text.specs.declared.token.Token.TheVariants.{Open, Close, Atom}
use Rattle.sexpr_text.specs.declared.tree.Form.{Form}
use Rattle.sexpr_text.specs.declared.tree.Sexpr.{Sexpr}
use Rattle.sexpr_text.specs.declared.tree.Sexpr.TheFolds.{fold-roll-Sexpr}
use Rattle.sexpr_text.specs.declared.tree.Sexpr.TheOpen.{Sexpr-F}
use Rattle.sexpr_text.specs.declared.tree.Sexpr.TheVariants as sexpr
use Rattle.sexpr_text.proofs.Fronts.{IsDelimited, bars_front}
use Rattle.sexpr_text.proofs.Legality.{legal-Symbol}
use Rattle.sexpr_text.proofs.ReadBack.{depth-List, depths, tree_back}
use Rattle.sexpr_text.proofs.Soundness.{token_of, map-append, ends_with}
use Rattle.sexpr_text.proofs.Spelling.{spelled-List, symbol_is_atom}
use Rattle.sexpr_text.proofs.Tokens.{AreFaultless, TextHas, at_line_end, atom_faultless, atom_tokens, before, before-append, blank_first, both_faultless, close_first, delimits, have_forms, lexed-end, line_first, list_faultless, open_first, within_limit}
use Rattle.smtlib_printer.specs.Names.{name_text}
use Rattle.smtlib_printer.specs.Text.{list_text, spaced, spaced_rest}
use Rattle.smtlib_terms.specs.Words.{is_reserved_word}
use Rattle.printed_trees.proofs.Spelled.{word_spelled}

-- the text at a place, before the rest, has the tokens of the tree, which begin and end with it
pub record TextBack (text : List ℕ) (t : Sexpr) (at : ℕ) (rest : List ℕ) : Type 0 where
  pub has : TextHas text (spelled t) (depth_of t) at rest
  pub begins : BeginAt has.own at
  pub ends : EndAt has.own (at + length text)

abbrev pub IsTextOf : List ℕ → Sexpr → Type 0
IsTextOf text t = (at : ℕ) (rest : List ℕ) → IsDelimited rest → TextBack text t at rest

-- the text that the writer of S-expressions gives
pub written_as : (text : List ℕ) (t : Sexpr) → is_legal t ≡ true → text_of t ≡ text → IsTextOf text t
written_as text t legal e = subst (λ (x : List ℕ). IsTextOf x t) e (λ at rest ends. let back = tree_back t legal at rest ends in record { has = back.has; begins = back.begins; ends = back.ends })

-- a symbol between bars
barred : (name : List ℕ) → list_all is_quoted_content name ≡ true → IsTextOf (codes "|" ++ (name ++ codes "|")) (sexpr.Symbol name)
barred name legal at rest ends =
    let text = codes "|" ++ (name ++ codes "|") in
    let t = sexpr.Symbol name in
    let placed : Placed = record { token = Atom t; from = at; to = at + length text } in
    let flat = ap depth_of (sym (sexpr.rolls-Symbol name)) ∙ fold-roll-Sexpr ℕ depth_layer (Sexpr-F.Symbol name) in
    let begins : front_of (text ++ rest) ≡ front.Token (Atom t) (length text) =
    ap (λ bytes. front_of (124 ∷ bytes)) (append_assoc name (124 ∷ []) rest) ∙ bars_front name rest legal
    ∙ ap (front.Token (Atom t)) (omega (arith, length-append name (124 ∷ []))) in
    record {
      has = record {
        own = placed ∷ [];
        lexes = atom_tokens at (Atom t) (length text) (text ++ rest) (omega arith) (omega arith) begins
            ∙ ap (λ bs. Next placed (lexed_from 0 (at + length text) bs)) (drop-append_seam text rest);
        tokens_are = sym (symbol_is_atom name);
        faultless = subst (AreFaultless (placed ∷ [])) (sym flat) (atom_faultless t at (at + length text));
      };
      begins = refl;
      ends = refl;
    }

-- a name, with bars or without
name_by : (name : List ℕ) (simple reserved : Bool) → list_all is_quoted_content name ≡ true → is_simple name ≡ simple → IsTextOf (cond (simple && not reserved) name (codes "|" ++ (name ++ codes "|"))) (sexpr.Symbol name)
name_by name true false legal e = written_as name (sexpr.Symbol name) (legal-Symbol name ∙ legal) (word_spelled name e)
name_by name true true legal e = barred name legal
name_by name false reserved legal e = barred name legal

pub name_reads : (name : List ℕ) → list_all is_quoted_content name ≡ true → IsTextOf (name_text name) (sexpr.Symbol name)
name_reads name legal = name_by name (is_simple name) (is_reserved_word name) legal refl

-- the texts of a list's parts
abbrev pub AllTexts : List (List ℕ) → List Sexpr → Type 0
AllTexts [] [] = Unit {0}
AllTexts [] (t ∷ ts) = ⊥
AllTexts (text ∷ texts) [] = ⊥
AllTexts (text ∷ texts) (t ∷ ts) = IsTextOf text t × AllTexts texts ts

delimits_more : (texts : List (List ℕ)) (rest : List ℕ) → IsDelimited rest → IsDelimited (spaced_rest texts ++ rest)
delimits_more [] rest ends = ends
delimits_more (text ∷ texts) rest ends = delimits 32 _ (inl refl)

more_back : (texts : List (List ℕ)) (ts : List Sexpr) → AllTexts texts ts → (at : ℕ) (rest : List ℕ) → IsDelimited rest → TextHas (spaced_rest texts) (flat_map spelled ts) (depths ts) at rest
more_back [] [] all at rest ends = record { own = []; lexes = ap (λ n. lexed_from 0 n rest) (omega arith); tokens_are = refl; faultless = λ lx d o within. (o, refl) }
more_back [] (t ∷ ts) all at rest ends = absurd all
more_back (text ∷ texts) [] all at rest ends = absurd all
more_back (text ∷ texts) (t ∷ ts) all at rest ends =
    let after = spaced_rest texts ++ rest in
    let one = all.0 (at + 1) after (delimits_more texts rest ends) in
    let two = more_back texts ts all.1 (at + 1 + length text) rest ends in
    record {
      own = one.has.own ++ two.own;
      lexes = ap (λ bytes. lexed_from 0 at (32 ∷ bytes)) (append_assoc text (spaced_rest texts) rest) ∙ blank_first at _ ∙ one.has.lexes
          ∙ ap (before one.has.own) (two.lexes ∙ ap (λ n. before two.own (lexed_from 0 n rest)) (omega (arith, length-append text (spaced_rest texts))))
          ∙ sym (before-append one.has.own two.own _);
      tokens_are = map-append one.has.own two.own ∙ ap (λ us. us ++ map token_of two.own) one.has.tokens_are ∙ ap (λ us. spelled t ++ us) two.tokens_are;
      faultless = both_faultless one.has.own two.own (depth_of t) (depths ts) one.has.faultless two.faultless;
    }

parts_back : (texts : List (List ℕ)) (ts : List Sexpr) → AllTexts texts ts → (at : ℕ) (rest : List ℕ) → IsDelimited rest → TextHas (spaced texts) (flat_map spelled ts) (depths ts) at rest
parts_back [] [] all at rest ends = more_back [] [] all at rest ends
parts_back [] (t ∷ ts) all at rest ends = absurd all
parts_back (text ∷ texts) [] all at rest ends = absurd all
parts_back (text ∷ texts) (t ∷ ts) all at rest ends =
    let after = spaced_rest texts ++ rest in
    let one = all.0 at after (delimits_more texts rest ends) in
    let two = more_back texts ts all.1 (at + length text) rest ends in
    record {
      own = one.has.own ++ two.own;
      lexes = ap (lexed_from 0 at) (append_assoc text (spaced_rest texts) rest) ∙ one.has.lexes
          ∙ ap (before one.has.own) (two.lexes ∙ ap (λ n. before two.own (lexed_from 0 n rest)) (omega (arith, length-append text (spaced_rest texts))))
          ∙ sym (before-append one.has.own two.own _);
      tokens_are = map-append one.has.own two.own ∙ ap (λ us. us ++ map token_of two.own) one.has.tokens_are ∙ ap (λ us. spelled t ++ us) two.tokens_are;
      faultless = both_faultless one.has.own two.own (depth_of t) (depths ts) one.has.faultless two.faultless;
    }

list_len : (texts : List (List ℕ)) (at : ℕ) → at + 1 + length (spaced texts) + 1 ≡ at + length (list_text texts)
list_len texts at = omega (arith, length-append (spaced texts) (41 ∷ []))

pub list_reads : (texts : List (List ℕ)) (ts : List Sexpr) → AllTexts texts ts → IsTextOf (list_text texts) (sexpr.List ts)
list_reads texts ts all at rest ends =
    let inner = parts_back texts ts all (at + 1) (41 ∷ rest) (delimits 41 rest (inr refl)) in
    let close_at = at + 1 + length (spaced texts) in
    let open_ : Placed = record { token = Open; from = at; to = at + 1 } in
    let close : Placed = record { token = Close; from = close_at; to = close_at + 1 } in
    record {
      has = record {
        own = open_ ∷ (inner.own ++ close ∷ []);
        lexes = ap (λ bytes. lexed_from 0 at (40 ∷ bytes)) (append_assoc (spaced texts) (41 ∷ []) rest)
            ∙ open_first at _
            ∙ ap (Next open_) (inner.lexes ∙ ap (before inner.own) (close_first close_at rest ∙ ap (λ n. Next close (lexed_from 0 n rest)) (list_len texts at))
            ∙ sym (before-append inner.own (close ∷ []) _));
        tokens_are = ap (λ us. Open ∷ us) (map-append inner.own (close ∷ []) ∙ ap (λ us. us ++ Close ∷ []) inner.tokens_are) ∙ sym (spelled-List ts);
        faultless = subst (AreFaultless (open_ ∷ (inner.own ++ close ∷ []))) (sym (depth-List ts)) (list_faultless inner.own (depths ts) at (at + 1) close_at (close_at + 1) inner.faultless);
      };
      begins = refl;
      ends = subst (EndAt ((open_ ∷ inner.own) ++ close ∷ [])) (list_len texts at) (ends_with (open_ ∷ inner.own) close);
    }

-- lines, each of one text
abbrev pub lines_text : List (List ℕ) → List ℕ
lines_text texts = flat_map (λ text. text ++ codes "\n") texts

pub record LinesBack (texts : List (List ℕ)) (ts : List Sexpr) (at : ℕ) : Type 0 where
  pub own : List Placed
  pub forms : List Form
  pub lexes : lexed_from 0 at (lines_text texts) ≡ before own Ended
  pub faultless : AreFaultless own open_limit
  pub spelled : SpellForms own forms
  pub trees : map (λ (form : Form). form.tree) forms ≡ ts

lines_back : (texts : List (List ℕ)) (ts : List Sexpr) → AllTexts texts ts → AllByRecursion IsShallow ts → (at : ℕ) → LinesBack texts ts at
lines_back [] [] all shallow at = record { own = []; forms = []; lexes = lexed-end at; faultless = λ rest d o within. (o, refl); spelled = refl; trees = refl }
lines_back [] (t ∷ ts) all shallow at = absurd all
lines_back (text ∷ texts) [] all shallow at = absurd all
lines_back (text ∷ texts) (t ∷ ts) all shallow at =
    let end = at + length text in
    let one = all.0 at (10 ∷ lines_text texts) (at_line_end (lines_text texts)) in
    let more = lines_back texts ts all.1 shallow.1 (end + 1) in
    let form : Form = record { tree = t; from = at; to = end } in
    record {
      own = one.has.own ++ more.own;
      forms = form ∷ more.forms;
      lexes = ap (lexed_from 0 at) (append_assoc text (10 ∷ []) (lines_text texts)) ∙ one.has.lexes
          ∙ ap (before one.has.own) (line_first end (lines_text texts) ∙ more.lexes) ∙ sym (before-append one.has.own more.own Ended);
      faultless = both_faultless one.has.own more.own open_limit open_limit (within_limit one.has.own (depth_of t) shallow.0 one.has.faultless) more.faultless;
      spelled = (one.has.own, more.own, refl, record { tree = one.has.tokens_are; from = one.begins; to = one.ends }, more.spelled);
      trees = ap (λ (us : List Sexpr). t ∷ us) more.trees;
    }

-- the forms of such lines
pub lines_read : (texts : List (List ℕ)) (ts : List Sexpr) → AllTexts texts ts → AllByRecursion IsShallow ts → (forms : List Form) × HaveForms (lines_text texts) forms × (map (λ (form : Form). form.tree) forms ≡ ts)
lines_read texts ts all shallow =
    let back = lines_back texts ts all shallow 0 in (
      back.forms,
      have_forms (lines_text texts) back.own open_limit back.forms back.lexes back.faultless (omega arith) back.spelled,
      back.trees,
    )
