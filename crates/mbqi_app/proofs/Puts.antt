-- Pieces of text that are put one behind the other.
use Rattle.std.proofs.Common.{◌≡◌, ℕ, ◌+◌, ◌<◌, ◌≤◌, List, ◌++◌, length, take, refl, sym, ap, ◌∙◌, arith, inl, inr, append_assoc, length-append}
use Rattle.std.specs.Prelude.{◌⊎◌, Option, None, Some, Result, Ok, Err, OnOk, OnErr}
use Rattle.std.proofs.lemmas.List.{take-append-le}
use Rattle.std.proofs.Math.Seq.{take-append-add, take-length}
use Rattle.mbqi_edge.specs.Faults.{Rose}
use Rattle.mbqi_edge.specs.Told.{with_more}
use Rattle.mbqi_app.specs.Told.{TookPart, Puts}

-- a fault that was counted later
later : (a b c : ℕ) → a ≤ b → Rose b c → Rose a c
later a b c h (inl rose) = inl (omega arith)
later a b c h (inr last) = inr last

two : (before : Option (List ℕ)) (a b : List ℕ) → with_more (with_more before a) b ≡ with_more before (a ++ b)
two None a b = refl
two (Some told) a b = ap Some (append_assoc told a b)

-- a part of the front is a part of the whole
part_of_front : (before now : Option (List ℕ)) (a b : List ℕ) → TookPart before now a → TookPart before now (a ++ b)
part_of_front before now a b h =
    (h.0, omega (arith, h.1, length-append a b), h.2 ∙ ap (with_more before) (sym (take-append-le h.0 a b h.1)))

-- a part of the rest is a part of the whole
part_of_rest : (before mid now : Option (List ℕ)) (a b : List ℕ) → mid ≡ with_more before a → TookPart mid now b → TookPart before now (a ++ b)
part_of_rest before mid now a b e h = (
  length a + h.0,
  omega (arith, h.1, length-append a b),
  h.2 ∙ (ap (λ m. with_more m (take h.0 b)) e ∙ (two before a (take h.0 b) ∙ ap (with_more before) (sym (take-append-add a b h.0)))),
)

-- the first piece, and then more
pub then_more : {T E : Type 0} (second : Result T E) (t u v : Option (List ℕ)) (f g h : ℕ) (a b : List ℕ)
    → u ≡ with_more t a → f ≤ g → Puts second u v g h b → Puts second t v f h (a ++ b)
then_more (Ok done) t u v f g h a b first fg more = more ∙ (ap (λ m. with_more m b) first ∙ two t a b)
then_more (Err fault) t u v f g h a b first fg more = (later f g h fg more.0, part_of_rest t u v a b first more.1)

-- a fault at the first piece
pub fault_first : (t u : Option (List ℕ)) (f g : ℕ) (a b : List ℕ) → Rose f g × TookPart t u a → Rose f g × TookPart t u (a ++ b)
fault_first t u f g a b h = (h.0, part_of_front t u a b h.1)

-- what `put_all` says, as one fact
pub of_piece : {T E : Type 0} (result : Result T E) (t u : Option (List ℕ)) (f g : ℕ) (piece : List ℕ)
    → OnOk result (u ≡ with_more t piece) → OnErr result (Rose f g)
    → OnErr result ((n : ℕ) × (n < length piece) × (u ≡ with_more t (take n piece)))
    → Puts result t u f g piece
of_piece (Ok done) t u f g piece all cause front = all
of_piece (Err fault) t u f g piece all cause front = (cause, (front.0, omega (arith, front.1), front.2))

-- the whole text was taken, or a fault was counted
pub told : {T E : Type 0} (result : Result T E) (t u : Option (List ℕ)) (f g : ℕ) (text : List ℕ) → Puts result t u f g text → Rose f g ⊎ (u ≡ with_more t text)
told (Ok done) t u f g text h = inr h
told (Err fault) t u f g text h = inl h.0

-- a part of the text was taken, or all of it
pub part : {T E : Type 0} (result : Result T E) (t u : Option (List ℕ)) (f g : ℕ) (text : List ℕ) → Puts result t u f g text → TookPart t u text
part (Ok done) t u f g text h = (length text, omega arith, h ∙ ap (with_more t) (sym (take-length text)))
part (Err fault) t u f g text h = h.1
