-- What a whole text gives: its forms, with texts of their kinds, or its first fault.
use Rattle.std.proofs.Common.{◌≡◌, ℕ, List, [], ◌∷◌, None, Some, Ok, Err, refl, sym, ◌∙◌, subst, ◌⊎◌, inl, inr, IfOk, IsTrue, All, arith}
use Rattle.mbqi_values.specs.declared.fault.Refusal.{Refusal}
use Rattle.sexpr_text.specs.Lexis.{Lexed, Ended, Broken, Next, lexed, tokens_of, first_fault}
use Rattle.sexpr_text.specs.Forms.{HaveForms, IsRefused}
use Rattle.sexpr_text.specs.declared.tree.Form.{Form}
use Rattle.sexpr_text.proofs.Legality.{HaveLegalAtoms, lexed_gives}
use Rattle.std.proofs.lemmas.List.Elements.{All-nil, All-cons}
use Rattle.sexpr_text.specs.Depth.{IsShallow}
use Rattle.sexpr_text.specs.Legal.{is_legal}
use Rattle.sexpr_text.proofs.Kept.{FormsFit, kept}
use Rattle.sexpr_text.proofs.Soundness.{HaveAtoms, Gives, reading, sound_from_start}
use Rattle.sexpr_text.proofs.Unique.{one_spelling}

have_atoms : (lx : Lexed) → HaveLegalAtoms lx → HaveAtoms lx
have_atoms Ended legal = tt
have_atoms (Broken refusal) legal = tt
have_atoms (Next placed rest) legal = (λ tree is. (legal.0 tree is).atom, have_atoms rest legal.1)

whole_text : (bytes : List ℕ) → Gives (reading [] 0 [] (lexed bytes)) (first_fault bytes) (tokens_of (lexed bytes))
whole_text bytes = sound_from_start (lexed bytes) (have_atoms (lexed bytes) (lexed_gives 0 0 bytes))

pub forms_read : (bytes : List ℕ) (forms : List Form) → reading [] 0 [] (lexed bytes) ≡ Ok forms → HaveForms bytes forms
forms_read bytes forms is =
    let gives = subst (λ read. Gives read (first_fault bytes) (tokens_of (lexed bytes))) is (whole_text bytes) in
    record { faultless = gives.0; spelled = gives.1 }

pub fault_read : (bytes : List ℕ) (refusal : Refusal) → reading [] 0 [] (lexed bytes) ≡ Err refusal → IsRefused bytes refusal
fault_read bytes refusal is = subst (λ read. Gives read (first_fault bytes) (tokens_of (lexed bytes))) is (whole_text bytes)

-- a text has forms or a fault
pub some_answer : (bytes : List ℕ) → ((forms : List Form) × HaveForms bytes forms) ⊎ ((refusal : Refusal) × IsRefused bytes refusal)
some_answer bytes = elim (reading [] 0 [] (lexed bytes)) as (λ read. reading [] 0 [] (lexed bytes) ≡ read → ((forms : List Form) × HaveForms bytes forms) ⊎ ((refusal : Refusal) × IsRefused bytes refusal)) [
  | Ok forms ↦ λ is. inl (forms, forms_read bytes forms is)
  | Err refusal ↦ λ is. inr (refusal, fault_read bytes refusal is)
] refl

-- and never both
pub not_both : (bytes : List ℕ) (forms : List Form) (refusal : Refusal) → HaveForms bytes forms → IsRefused bytes refusal → ⊥
not_both bytes forms refusal has refused = let e : None ≡ Some refusal = sym has.faultless ∙ refused in cc

pub one_list : (bytes : List ℕ) (a b : List Form) → HaveForms bytes a → HaveForms bytes b → a ≡ b
one_list bytes a b x y = one_spelling (tokens_of (lexed bytes)) a b x.spelled y.spelled

pub one_refusal : (bytes : List ℕ) (a b : Refusal) → IsRefused bytes a → IsRefused bytes b → a ≡ b
one_refusal bytes a b x y = let e : Some a ≡ Some b = sym x ∙ y in cc

forms_fit : (bytes : List ℕ) (forms : List Form) → reading [] 0 [] (lexed bytes) ≡ Ok forms → FormsFit forms
forms_fit bytes forms is = subst (λ read. IfOk read FormsFit) is (kept (lexed bytes) (lexed_gives 0 0 bytes) [] 0 [] tt tt)

all_legal : (forms : List Form) → FormsFit forms → All (λ form. IsTrue (is_legal form.tree)) forms
all_legal [] fit = All-nil (λ form. IsTrue (is_legal form.tree))
all_legal (form ∷ forms) fit = All-cons (λ one. IsTrue (is_legal one.tree)) form forms fit.0.legal (all_legal forms fit.1)

all_shallow : (forms : List Form) → FormsFit forms → All (λ form. IsShallow form.tree) forms
all_shallow [] fit = All-nil (λ form. IsShallow form.tree)
all_shallow (form ∷ forms) fit = All-cons (λ one. IsShallow one.tree) form forms (omega (arith, fit.0.shallow)) (all_shallow forms fit.1)

pub legal_read : (bytes : List ℕ) (forms : List Form) → reading [] 0 [] (lexed bytes) ≡ Ok forms → All (λ form. IsTrue (is_legal form.tree)) forms
legal_read bytes forms is = all_legal forms (forms_fit bytes forms is)

pub shallow_read : (bytes : List ℕ) (forms : List Form) → reading [] 0 [] (lexed bytes) ≡ Ok forms → All (λ form. IsShallow form.tree) forms
shallow_read bytes forms is = all_shallow forms (forms_fit bytes forms is)
