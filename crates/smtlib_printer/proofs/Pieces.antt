-- Lists of a few parts, as the pieces that are written one behind the other.
use Rattle.std.proofs.Common.{◌≡◌, ℕ, true, false, ◌&&◌, if◌then◌else◌, Result, Ok, Err, is_ok, OnOk, List, [], ◌∷◌, ◌++◌, map, codes, refl, sym, ap, ◌∙◌, append_assoc, append-nil}
use Rattle.smtlib_printer.specs.Text.{applied_text, is_nothing, list_text, spaced, spaced_rest}

one : (open_ word blank a close : List ℕ) → open_ ++ ((word ++ ((blank ++ a) ++ [])) ++ close) ≡ open_ ++ (word ++ (blank ++ (a ++ close)))
one open_ word blank a close = simp (append_assoc, append-nil)

pub one_part : (word a : List ℕ) → list_text (word ∷ a ∷ []) ≡ codes "(" ++ (word ++ (codes " " ++ (a ++ codes ")")))
one_part word a = one (codes "(") word (codes " ") a (codes ")")

two : (open_ word blank a b close : List ℕ) → open_ ++ ((word ++ ((blank ++ a) ++ ((blank ++ b) ++ []))) ++ close) ≡ open_ ++ (word ++ (blank ++ (a ++ (blank ++ (b ++ close)))))
two open_ word blank a b close = simp (append_assoc, append-nil)

pub two_parts : (word a b : List ℕ) → list_text (word ∷ a ∷ b ∷ []) ≡ codes "(" ++ (word ++ (codes " " ++ (a ++ (codes " " ++ (b ++ codes ")")))))
two_parts word a b = two (codes "(") word (codes " ") a b (codes ")")

three : (open_ word blank a b c close : List ℕ) → open_ ++ ((word ++ ((blank ++ a) ++ ((blank ++ b) ++ ((blank ++ c) ++ [])))) ++ close) ≡ open_ ++ (word ++ (blank ++ (a ++ (blank ++ (b ++ (blank ++ (c ++ close)))))))
three open_ word blank a b c close = simp (append_assoc, append-nil)

pub three_parts : (word a b c : List ℕ) → list_text (word ∷ a ∷ b ∷ c ∷ []) ≡ codes "(" ++ (word ++ (codes " " ++ (a ++ (codes " " ++ (b ++ (codes " " ++ (c ++ codes ")")))))))
three_parts word a b c = three (codes "(") word (codes " ") a b c (codes ")")

pub parts : (word : List ℕ) (more : List (List ℕ)) → list_text (word ∷ more) ≡ codes "(" ++ (word ++ (spaced_rest more ++ codes ")"))
parts word more = simp append_assoc

-- the array sort and the value of a constant array
pub const_parts : (sort value : List ℕ) → list_text (list_text (codes "as" ∷ codes "const" ∷ sort ∷ []) ∷ value ∷ []) ≡ codes "((as const " ++ (sort ++ (codes ") " ++ (value ++ codes ")")))
const_parts sort value =
    one_part (list_text (codes "as" ∷ codes "const" ∷ sort ∷ [])) value
    ∙ (ap (λ (head : List ℕ). codes "(" ++ (head ++ (codes " " ++ (value ++ codes ")")))) (two_parts (codes "as") (codes "const") sort)
    ∙ ap (λ (more : List ℕ). codes "((as const " ++ more) (append_assoc sort (codes ")") (codes " " ++ (value ++ codes ")"))))

-- the function and the arrays of a map
pub map_parts : (f : List ℕ) (arrays : List (List ℕ)) → list_text (list_text (codes "_" ∷ codes "map" ∷ f ∷ []) ∷ arrays) ≡ codes "((_ map " ++ (f ++ (codes ")" ++ (spaced_rest arrays ++ codes ")")))
map_parts f arrays =
    parts (list_text (codes "_" ∷ codes "map" ∷ f ∷ [])) arrays
    ∙ (ap (λ (head : List ℕ). codes "(" ++ (head ++ (spaced_rest arrays ++ codes ")"))) (two_parts (codes "_") (codes "map") f)
    ∙ ap (λ (more : List ℕ). codes "((_ map " ++ more) (append_assoc f (codes ")") (spaced_rest arrays ++ codes ")")))

rest-append : (own args : List (List ℕ)) → spaced_rest (own ++ args) ≡ spaced_rest own ++ spaced_rest args
rest-append [] args = refl
rest-append (part ∷ own) args = ap (λ (more : List ℕ). (codes " " ++ part) ++ more) (rest-append own args) ∙ sym (append_assoc (codes " " ++ part) (spaced_rest own) (spaced_rest args))

brackets : (word : List ℕ) (own args : List (List ℕ)) → list_text (word ∷ (own ++ args)) ≡ codes "(" ++ (spaced (word ∷ own) ++ (spaced_rest args ++ codes ")"))
brackets word own args =
    parts word (own ++ args)
    ∙ (ap (λ (more : List ℕ). codes "(" ++ (word ++ (more ++ codes ")"))) (rest-append own args)
    ∙ simp append_assoc)

-- a word without arguments
pub alone : (word : List ℕ) (own args : List (List ℕ)) → (is_nothing own && is_nothing args) ≡ true → applied_text word (own ++ args) ≡ spaced (word ∷ own)
alone word [] [] e = sym (append-nil word)
alone word [] (arg ∷ args) e = cc
alone word (part ∷ own) args e = cc

-- a word with arguments
pub in_brackets : (word : List ℕ) (own args : List (List ℕ)) → (is_nothing own && is_nothing args) ≡ false → applied_text word (own ++ args) ≡ codes "(" ++ (spaced (word ∷ own) ++ (spaced_rest args ++ codes ")"))
in_brackets word [] [] e = cc
in_brackets word [] (arg ∷ args) e = brackets word [] (arg ∷ args)
in_brackets word (part ∷ own) args e = brackets word (part ∷ own) args

pub nothing-map : {A B : Type 0} (f : A → B) (xs : List A) → is_nothing (map f xs) ≡ is_nothing xs
nothing-map f [] = refl
nothing-map f (x ∷ xs) = refl

-- The last piece of several, where its call's result is returned as it is.
pub written : {T E : Type 0} (r : Result T E) (new all before whole : List ℕ) → new ≡ (if is_ok r then all else before) → all ≡ whole → OnOk r (new ≡ whole)
written (Ok x) new all before whole e f = e ∙ f
written (Err x) new all before whole e f = tt

-- a piece whose text is of a part that a call gave
pub of_part : {A : Type 0} (text_of : A → List ℕ) (x y : A) (before after : List ℕ) → after ≡ before ++ text_of x → x ≡ y → after ≡ before ++ text_of y
of_part {A} text_of x y before after e f = e ∙ ap (λ (z : A). before ++ text_of z) f

five : (old a b c d e : List ℕ) → ((((old ++ a) ++ b) ++ c) ++ d) ++ e ≡ old ++ (a ++ (b ++ (c ++ (d ++ e))))
five old a b c d e = simp append_assoc

-- five pieces, one behind the other
pub five_pieces : (old v w x y a b c d e text : List ℕ) → v ≡ old ++ a → w ≡ v ++ b → x ≡ w ++ c → y ≡ x ++ d → text ≡ a ++ (b ++ (c ++ (d ++ e))) → y ++ e ≡ old ++ text
five_pieces old v w x y a b c d e text p q r s t = cc (five old a b c d e)

seven : (old a b c d e f g : List ℕ) → ((((((old ++ a) ++ b) ++ c) ++ d) ++ e) ++ f) ++ g ≡ old ++ (a ++ (b ++ (c ++ (d ++ (e ++ (f ++ g))))))
seven old a b c d e f g = simp append_assoc

-- seven pieces, one behind the other
pub seven_pieces : (old u v w x y z a b c d e f g text : List ℕ) → u ≡ old ++ a → v ≡ u ++ b → w ≡ v ++ c → x ≡ w ++ d → y ≡ x ++ e → z ≡ y ++ f → text ≡ a ++ (b ++ (c ++ (d ++ (e ++ (f ++ g))))) → z ++ g ≡ old ++ text
seven_pieces old u v w x y z a b c d e f g text p q r s t k l = cc (seven old a b c d e f g)
