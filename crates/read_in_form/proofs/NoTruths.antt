-- Terms that are no truths, and stay none where variables are moved.
use Rattle.std.proofs.Common.{◌≡◌, ◌≢◌, ℕ, Bool, List, refl, sym, ap, ◌∙◌}
use Rattle.mbqi_terms.specs.declared.script.Script.{Script}
use Rattle.mbqi_terms.specs.declared.sort.Binder.{Binder}
use Rattle.mbqi_terms.specs.declared.sort.Plain.TheVariants as plain
use Rattle.mbqi_terms.specs.declared.term.ArrayTerm.{ArrayTerm}
use Rattle.mbqi_terms.specs.declared.term.ArrayTerm.TheOpen.{Term-F}
use Rattle.mbqi_terms.specs.declared.term.Symbol.{Symbol}
use Rattle.mbqi_terms.specs.declared.term.Symbol.TheVariants as symbol
use Rattle.mbqi_terms.specs.declared.term.Term.{Term, out-Term}
use Rattle.mbqi_terms.specs.declared.term.Term.TheVariants as term
use Rattle.mbqi_terms.specs.HasSort.{HasSortIn, IsNoTruth}
use Rattle.smtlib_terms.specs.InForm.{HasSort}
use Rattle.mbqi_terms.specs.Tree.{Layer}
use Rattle.mbqi_terms.proofs.Levels.{out-apply, out-default, out-read, out-truth}
use Rattle.smtlib_terms.specs.Meaning.{shifted_term}
use Rattle.moved_terms.proofs.TermMoves as move

by_level : (t : Term) (x : Layer) → out-Term t ≡ x → ((b : Bool) → x ≢ Term-F.Truth b) → IsNoTruth t
by_level t x level other b same = other b (sym level ∙ (ap out-Term same ∙ out-truth b))

pub applied_no_truth : (f : Symbol) (ts : List Term) → IsNoTruth (term.Apply f ts)
applied_no_truth f ts = by_level (term.Apply f ts) (Term-F.Apply f ts) (out-apply f ts) (λ b same. cc)

pub read_no_truth : (a : ArrayTerm) (t : Term) → IsNoTruth (term.Read a t)
read_no_truth a t = by_level (term.Read a t) (Term-F.Read a t) (out-read a t) (λ b same. cc)

pub default_no_truth : (a : ArrayTerm) → IsNoTruth (term.Default a)
default_no_truth a = by_level (term.Default a) (Term-F.Default a) (out-default a) (λ b same. cc)

pub moved_no_truth : (script : Script) (from by : ℕ) (scope : List Binder) (t : Term) → HasSort script scope t plain.Truth → IsNoTruth t → IsNoTruth (shifted_term from by t)
moved_no_truth script from by scope t (HasSortIn.variable place e index found) other = absurd index
moved_no_truth script from by scope t (HasSortIn.truth b) other = absurd (other b refl)
moved_no_truth script from by scope t (HasSortIn.application f ts args e d hs) other = rw (move.moved-Apply from by (symbol.Declared f) ts) (applied_no_truth _ _)
moved_no_truth script from by scope t (HasSortIn.reading a u i e h index g) other = rw (move.moved-Read from by a u) (read_no_truth _ _)
moved_no_truth script from by scope t (HasSortIn.last a e h closed) other = rw (move.moved-Default from by a) (default_no_truth _)
moved_no_truth script from by scope t (HasSortIn.skolem assertion place ts args e hides d hs) other = absurd cc
moved_no_truth script from by scope t (HasSortIn.differing a b i e hides index ha hb) other = absurd cc
