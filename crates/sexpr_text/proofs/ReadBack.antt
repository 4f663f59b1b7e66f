-- A tree's text is read again as the tree: its tokens, in any place, before bytes that don't belong to it.
use Rattle.std.proofs.Common.{◌≡◌, ℕ, ◌+◌, ◌<◌, Bool, true, false, cond, ◌&&◌, List, [], ◌∷◌, ◌++◌, map, length, codes, refl, sym, ap, ◌∙◌, subst, arith, append_assoc, append-nil, length-append, inl, inr, All, IsTrue}
use Rattle.std.specs.List.{list_all, flat_map, AllByRecursion}
use Rattle.std.proofs.Math.Seq.{drop-append_seam}
use Rattle.std.proofs.lemmas.List.Sums.{list_all-from_AllPass}
use Rattle.std.proofs.lemmas.List.Elements.{recursion_from_All}
use Rattle.std.proofs.lemmas.Bool.{and_parts}
use Rattle.sexpr_text.specs.Bytes.{is_symbol_byte}
use Rattle.sexpr_text.specs.Depth.{depth_of, depth_layer, highest, IsShallow}
use Rattle.sexpr_text.specs.Front.{front_of}
use Rattle.sexpr_text.specs.Lexis.{Placed, Ended, Next, lexed, lexed_from, open_limit}
use Rattle.sexpr_text.specs.Forms.{spelled, BeginAt, EndAt, SpellForm, SpellForms, HaveForms}
use Rattle.sexpr_text.specs.Legal.{is_legal, is_legal_layer}
use Rattle.sexpr_text.specs.Text.{text_of, texts_of, lines_of, forms_at, is_simple, doubled}
use Rattle.sexpr_text.specs.declared.tree.Sexpr.{Sexpr}
use Rattle.sexpr_text.specs.declared.tree.Sexpr.TheVariants as sexpr
use Rattle.sexpr_text.specs.declared.tree.Sexpr.TheVariants.{rolls-List, rolls-Numeral, rolls-Decimal, rolls-Hex, rolls-Binary, rolls-Str, rolls-Symbol, rolls-Keyword}
use Rattle.sexpr_text.specs.declared.tree.Sexpr.TheFolds.{fold-roll-Sexpr}
use Rattle.sexpr_text.specs.declared.tree.Sexpr.TheOpen.{Sexpr-F}
use Rattle.sexpr_text.specs.declared.token.Token.TheVariants.{Open, Close, Atom}
use Rattle.sexpr_text.specs.declared.token.Front.TheVariants as front
use Rattle.sexpr_text.proofs.Fronts.{IsDelimited, numeral_front, decimal_front, hex_front, binary_front, string_is_front, simple_front, bars_front, keyword_is_front, numeral_some, decimal_some, simple_some}
use Rattle.sexpr_text.proofs.Legality.{legal-Numeral, legal-Decimal, legal-Hex, legal-Binary, legal-Str, legal-Symbol, legal-Keyword}
use Rattle.sexpr_text.proofs.Soundness.{token_of, map-append, ends_with}
use Rattle.sexpr_text.proofs.Spelling.{by_cases, IsAtom, spelled-List, numeral_is_atom, decimal_is_atom, hex_is_atom, binary_is_atom, str_is_atom, symbol_is_atom, keyword_is_atom}
use Rattle.sexpr_text.proofs.Texts.{numeral_text, decimal_text, hex_text, binary_text, str_text, symbol_is_text, keyword_text, list_text}
use Rattle.sexpr_text.proofs.Tokens.{TextHas, AreFaultless, at_line_end, atom_faultless, atom_tokens, before, before-append, blank_first, both_faultless, close_first, delimits, have_forms, lexed-end, line_first, list_faultless, open_first, within_limit}

-- the same of a tree's text, with the place of the tree
pub record TreeBack (tree : Sexpr) (at : ℕ) (rest : List ℕ) : Type 0 where
  pub has : TextHas (text_of tree) (spelled tree) (depth_of tree) at rest
  pub begins : BeginAt has.own at
  pub ends : EndAt has.own (at + length (text_of tree))

abbrev pub IsReadBack : Sexpr → Type 0
IsReadBack tree = is_legal tree ≡ true → (at : ℕ) (rest : List ℕ) → IsDelimited rest → TreeBack tree at rest

atom_back : (tree : Sexpr) (text : List ℕ) (at : ℕ) (rest : List ℕ) → IsAtom tree → depth_of tree ≡ 0 → text_of tree ≡ text → 0 < length text →
    front_of (text ++ rest) ≡ front.Token (Atom tree) (length text) → TreeBack tree at rest
atom_back tree text at rest atom flat is some front =
    let placed : Placed = record { token = Atom tree; from = at; to = at + length text } in
    record {
      has = record {
        own = placed ∷ [];
        lexes = ap (λ t. lexed_from 0 at (t ++ rest)) is
            ∙ atom_tokens at (Atom tree) (length text) (text ++ rest) some (omega (arith, length-append text rest)) front
            ∙ ap (λ bs. Next placed (lexed_from 0 (at + length text) bs)) (drop-append_seam text rest)
            ∙ ap (λ t. Next placed (lexed_from 0 (at + length t) rest)) (sym is);
        tokens_are = sym atom;
        faultless = subst (AreFaultless (placed ∷ [])) (sym flat) (atom_faultless tree at (at + length text));
      };
      begins = refl;
      ends = ap (λ t. at + length t) (sym is);
    }

numeral_back : (text : List ℕ) → IsReadBack (sexpr.Numeral text)
numeral_back text legal at rest ends =
    let is = sym (legal-Numeral text) ∙ legal in
    atom_back (sexpr.Numeral text) text at rest (numeral_is_atom text) (ap depth_of (sym (rolls-Numeral text)) ∙ fold-roll-Sexpr ℕ depth_layer (Sexpr-F.Numeral text)) (numeral_text text) (numeral_some text is) (numeral_front text rest is ends)

decimal_back : (text : List ℕ) → IsReadBack (sexpr.Decimal text)
decimal_back text legal at rest ends =
    let is = sym (legal-Decimal text) ∙ legal in
    atom_back (sexpr.Decimal text) text at rest (decimal_is_atom text) (ap depth_of (sym (rolls-Decimal text)) ∙ fold-roll-Sexpr ℕ depth_layer (Sexpr-F.Decimal text)) (decimal_text text) (decimal_some text is) (decimal_front text rest is ends)

hex_back : (text : List ℕ) → IsReadBack (sexpr.Hex text)
hex_back text legal at rest ends =
    let parts = and_parts _ _ (sym (legal-Hex text) ∙ legal) in
    atom_back (sexpr.Hex text) (codes "#x" ++ text) at rest (hex_is_atom text) (ap depth_of (sym (rolls-Hex text)) ∙ fold-roll-Sexpr ℕ depth_layer (Sexpr-F.Hex text)) (hex_text text) (omega arith)
    (hex_front text rest parts.0 parts.1 ends ∙ ap (front.Token (Atom (sexpr.Hex text))) (omega arith))

binary_back : (text : List ℕ) → IsReadBack (sexpr.Binary text)
binary_back text legal at rest ends =
    let parts = and_parts _ _ (sym (legal-Binary text) ∙ legal) in
    atom_back (sexpr.Binary text) (codes "#b" ++ text) at rest (binary_is_atom text) (ap depth_of (sym (rolls-Binary text)) ∙ fold-roll-Sexpr ℕ depth_layer (Sexpr-F.Binary text)) (binary_text text) (omega arith)
    (binary_front text rest parts.0 parts.1 ends ∙ ap (front.Token (Atom (sexpr.Binary text))) (omega arith))

keyword_back : (text : List ℕ) → IsReadBack (sexpr.Keyword text)
keyword_back text legal at rest ends =
    let parts = and_parts _ _ (sym (legal-Keyword text) ∙ legal) in
    atom_back (sexpr.Keyword text) (codes ":" ++ text) at rest (keyword_is_atom text) (ap depth_of (sym (rolls-Keyword text)) ∙ fold-roll-Sexpr ℕ depth_layer (Sexpr-F.Keyword text)) (keyword_text text) (omega arith)
    (keyword_is_front text rest parts.0 parts.1 ends ∙ ap (front.Token (Atom (sexpr.Keyword text))) (omega arith))

str_back : (text : List ℕ) → IsReadBack (sexpr.Str text)
str_back text legal at rest ends =
    atom_back (sexpr.Str text) (codes "\"" ++ (doubled text ++ codes "\"")) at rest (str_is_atom text) (ap depth_of (sym (rolls-Str text)) ∙ fold-roll-Sexpr ℕ depth_layer (Sexpr-F.Str text)) (str_text text) (omega arith)
    (ap (λ bytes. front_of (34 ∷ bytes)) (append_assoc (doubled text) (34 ∷ []) rest)
    ∙ string_is_front text rest (sym (legal-Str text) ∙ legal) ends.no_quote
    ∙ ap (front.Token (Atom (sexpr.Str text))) (omega (arith, length-append (doubled text) (34 ∷ []))))

symbol_back : (text : List ℕ) → IsReadBack (sexpr.Symbol text)
symbol_back text legal at rest ends =
    let flat = ap depth_of (sym (rolls-Symbol text)) ∙ fold-roll-Sexpr ℕ depth_layer (Sexpr-F.Symbol text) in
    elim (is_simple text) as (λ t. is_simple text ≡ t → TreeBack (sexpr.Symbol text) at rest) [
      | true ↦ λ simple. atom_back (sexpr.Symbol text) text at rest (symbol_is_atom text) flat
          (symbol_is_text text ∙ ap (λ t. cond t text (codes "|" ++ (text ++ codes "|"))) simple) (simple_some text simple) (simple_front text rest simple ends)
      | false ↦ λ other. atom_back (sexpr.Symbol text) (codes "|" ++ (text ++ codes "|")) at rest (symbol_is_atom text) flat
          (symbol_is_text text ∙ ap (λ t. cond t text (codes "|" ++ (text ++ codes "|"))) other) (omega arith)
          (ap (λ bytes. front_of (124 ∷ bytes)) (append_assoc text (124 ∷ []) rest) ∙ bars_front text rest (sym (legal-Symbol text) ∙ legal)
          ∙ ap (front.Token (Atom (sexpr.Symbol text))) (omega (arith, length-append text (124 ∷ []))))
    ] refl

-- the texts of the parts behind the first, each with a blank before it
abbrev pub more_texts : List Sexpr → List ℕ
more_texts parts = flat_map (λ part. codes " " ++ text_of part) parts

delimits_more : (parts : List Sexpr) (rest : List ℕ) → IsDelimited rest → IsDelimited (more_texts parts ++ rest)
delimits_more [] rest ends = ends
delimits_more (part ∷ parts) rest ends = delimits 32 _ (inl refl)

abbrev pub depths : List Sexpr → ℕ
depths parts = highest (map depth_of parts)

more_back : (parts : List Sexpr) → AllByRecursion IsReadBack parts → list_all is_legal parts ≡ true → (at : ℕ) (rest : List ℕ) → IsDelimited rest →
    TextHas (more_texts parts) (flat_map spelled parts) (depths parts) at rest
more_back [] backs legal at rest ends = record { own = []; lexes = ap (λ n. lexed_from 0 n rest) (omega arith); tokens_are = refl; faultless = λ lx d o within. (o, refl) }
more_back (part ∷ parts) backs legal at rest ends =
    let legals = and_parts (is_legal part) (list_all is_legal parts) legal in
    let after = more_texts parts ++ rest in
    let one = backs.0 legals.0 (at + 1) after (delimits_more parts rest ends) in
    let two = more_back parts backs.1 legals.1 (at + 1 + length (text_of part)) rest ends in
    record {
      own = one.has.own ++ two.own;
      lexes = ap (λ bytes. lexed_from 0 at (32 ∷ bytes)) (append_assoc (text_of part) (more_texts parts) rest) ∙ blank_first at _ ∙ one.has.lexes
          ∙ ap (before one.has.own) (two.lexes ∙ ap (λ n. before two.own (lexed_from 0 n rest)) (omega (arith, length-append (text_of part) (more_texts parts))))
          ∙ sym (before-append one.has.own two.own _);
      tokens_are = map-append one.has.own two.own ∙ ap (λ ts. ts ++ map token_of two.own) one.has.tokens_are ∙ ap (λ ts. spelled part ++ ts) two.tokens_are;
      faultless = both_faultless one.has.own two.own (depth_of part) (depths parts) one.has.faultless two.faultless;
    }

parts_back : (parts : List Sexpr) → AllByRecursion IsReadBack parts → list_all is_legal parts ≡ true → (at : ℕ) (rest : List ℕ) → IsDelimited rest →
    TextHas (texts_of parts) (flat_map spelled parts) (depths parts) at rest
parts_back [] backs legal at rest ends = more_back [] backs legal at rest ends
parts_back (part ∷ parts) backs legal at rest ends =
    let legals = and_parts (is_legal part) (list_all is_legal parts) legal in
    let after = more_texts parts ++ rest in
    let one = backs.0 legals.0 at after (delimits_more parts rest ends) in
    let two = more_back parts backs.1 legals.1 (at + length (text_of part)) rest ends in
    record {
      own = one.has.own ++ two.own;
      lexes = ap (lexed_from 0 at) (append_assoc (text_of part) (more_texts parts) rest) ∙ one.has.lexes
          ∙ ap (before one.has.own) (two.lexes ∙ ap (λ n. before two.own (lexed_from 0 n rest)) (omega (arith, length-append (text_of part) (more_texts parts))))
          ∙ sym (before-append one.has.own two.own _);
      tokens_are = map-append one.has.own two.own ∙ ap (λ ts. ts ++ map token_of two.own) one.has.tokens_are ∙ ap (λ ts. spelled part ++ ts) two.tokens_are;
      faultless = both_faultless one.has.own two.own (depth_of part) (depths parts) one.has.faultless two.faultless;
    }

each_legal : (parts : List Sexpr) → list_all (λ part. part) (map is_legal parts) ≡ list_all is_legal parts
each_legal [] = refl
each_legal (part ∷ parts) = ap (λ t. is_legal part && t) (each_legal parts)

pub legal-List : (parts : List Sexpr) → is_legal (sexpr.List parts) ≡ list_all is_legal parts
legal-List parts = ap is_legal (sym (rolls-List parts)) ∙ fold-roll-Sexpr Bool is_legal_layer (Sexpr-F.List parts) ∙ each_legal parts

pub depth-List : (parts : List Sexpr) → depth_of (sexpr.List parts) ≡ 1 + depths parts
depth-List parts = ap depth_of (sym (rolls-List parts)) ∙ fold-roll-Sexpr ℕ depth_layer (Sexpr-F.List parts)

list_len : (parts : List Sexpr) (at : ℕ) → at + 1 + length (texts_of parts) + 1 ≡ at + length (text_of (sexpr.List parts))
list_len parts at = omega (arith, ap length (list_text parts), length-append (texts_of parts) (41 ∷ []))

list_back : (parts : List Sexpr) → AllByRecursion IsReadBack parts → IsReadBack (sexpr.List parts)
list_back parts backs legal at rest ends =
    let inner = parts_back parts backs (sym (legal-List parts) ∙ legal) (at + 1) (41 ∷ rest) (delimits 41 rest (inr refl)) in
    let close_at = at + 1 + length (texts_of parts) in
    let open_ : Placed = record { token = Open; from = at; to = at + 1 } in
    let close : Placed = record { token = Close; from = close_at; to = close_at + 1 } in
    record {
      has = record {
        own = open_ ∷ (inner.own ++ close ∷ []);
        lexes = ap (λ text. lexed_from 0 at (text ++ rest)) (list_text parts)
            ∙ ap (λ bytes. lexed_from 0 at (40 ∷ bytes)) (append_assoc (texts_of parts) (41 ∷ []) rest)
            ∙ open_first at _
            ∙ ap (Next open_) (inner.lexes ∙ ap (before inner.own) (close_first close_at rest ∙ ap (λ n. Next close (lexed_from 0 n rest)) (list_len parts at))
            ∙ sym (before-append inner.own (close ∷ []) _));
        tokens_are = ap (λ ts. Open ∷ ts) (map-append inner.own (close ∷ []) ∙ ap (λ ts. ts ++ Close ∷ []) inner.tokens_are) ∙ sym (spelled-List parts);
        faultless = subst (AreFaultless (open_ ∷ (inner.own ++ close ∷ []))) (sym (depth-List parts)) (list_faultless inner.own (depths parts) at (at + 1) close_at (close_at + 1) inner.faultless);
      };
      begins = refl;
      ends = subst (EndAt ((open_ ∷ inner.own) ++ close ∷ [])) (list_len parts at) (ends_with (open_ ∷ inner.own) close);
    }

pub tree_back : (tree : Sexpr) → IsReadBack tree
tree_back = by_cases IsReadBack (record {
  numeral = numeral_back;
  decimal = decimal_back;
  hex = hex_back;
  binary = binary_back;
  str = str_back;
  symbol = symbol_back;
  keyword = keyword_back;
  list = list_back;
})

at_end : IsDelimited []
unfolding is_symbol_byte
at_end = record { no_symbol = refl; no_quote = refl }

one_form : (tree : Sexpr) (at : ℕ) (rest : List ℕ) (back : TreeBack tree at rest) → SpellForm back.has.own (record { tree = tree; from = at; to = at + length (text_of tree) })
one_form tree at rest back = record { tree = back.has.tokens_are; from = back.begins; to = back.ends }

pub read_back : (tree : Sexpr) → is_legal tree ≡ true → IsShallow tree → HaveForms (text_of tree) (forms_at 0 (tree ∷ []))
read_back tree legal shallow =
    let back = tree_back tree legal 0 [] at_end in
    have_forms (text_of tree) back.has.own (depth_of tree) _
    (ap lexed (sym (append-nil (text_of tree))) ∙ back.has.lexes ∙ ap (before back.has.own) (lexed-end _)) back.has.faultless shallow
    (back.has.own, [], sym (append-nil back.has.own), one_form tree 0 [] back, refl)

-- the forms of lines at a place
pub record LinesBack (trees : List Sexpr) (at : ℕ) : Type 0 where
  pub own : List Placed
  pub lexes : lexed_from 0 at (lines_of trees) ≡ before own Ended
  pub faultless : AreFaultless own open_limit
  pub spelled : SpellForms own (forms_at at trees)

lines_at : (trees : List Sexpr) → list_all is_legal trees ≡ true → AllByRecursion IsShallow trees → (at : ℕ) → LinesBack trees at
lines_at [] legal shallow at = record { own = []; lexes = lexed-end at; faultless = λ rest d o within. (o, refl); spelled = refl }
lines_at (tree ∷ trees) legal shallow at =
    let legals = and_parts (is_legal tree) (list_all is_legal trees) legal in
    let end = at + length (text_of tree) in
    let one = tree_back tree legals.0 at (10 ∷ lines_of trees) (at_line_end (lines_of trees)) in
    let more = lines_at trees legals.1 shallow.1 (end + 1) in
    record {
      own = one.has.own ++ more.own;
      lexes = ap (lexed_from 0 at) (append_assoc (text_of tree) (10 ∷ []) (lines_of trees)) ∙ one.has.lexes
          ∙ ap (before one.has.own) (line_first end (lines_of trees) ∙ more.lexes) ∙ sym (before-append one.has.own more.own Ended);
      faultless = both_faultless one.has.own more.own open_limit open_limit (within_limit one.has.own (depth_of tree) shallow.0 one.has.faultless) more.faultless;
      spelled = (one.has.own, more.own, refl, one_form tree at _ one, more.spelled);
    }

pub read_lines : (trees : List Sexpr) → All (λ tree. IsTrue (is_legal tree)) trees → All IsShallow trees → HaveForms (lines_of trees) (forms_at 0 trees)
read_lines trees legal shallow =
    let back = lines_at trees (list_all-from_AllPass is_legal trees legal) (recursion_from_All IsShallow trees shallow) 0 in
    have_forms (lines_of trees) back.own open_limit _ back.lexes back.faultless (omega arith) back.spelled
