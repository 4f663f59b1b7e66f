-- Of all forms of words only those of one file are built so far.
use Rattle.std.proofs.Common.{◌≡◌, ℕ, Bool, true, false, not, ◌&&◌, cond, List, [], ◌∷◌, length, refl, ap}
use Rattle.std.specs.Prelude.{Option, None, Some, codes, if◌then◌else◌}
use Rattle.std.specs.Option.{option_and_then}
use Rattle.std.specs.Str.{bytes_eq}
use Rattle.mbqi_app.specs.Command.{Command, Kind, Make, Trial, Replay, CheckModel, CheckBoth, Solve, is_file, number_within, kind_of, most_of, made, of_two_words, of_depth, of_both, is_built, built, asked_for}

either : (b : Bool) (x y : Option Command) → built x ≡ None → built y ≡ None → built (cond b x y) ≡ None
either true x y h k = h
either false x y h k = k

along : {A : Type 0} (f : A → Option Command) (o : Option A) → ((x : A) → built (f x) ≡ None) → built (option_and_then f o) ≡ None
along f None h = refl
along f (Some x) h = h x

not_made : (command : Kind → ℕ → Command) → ((k : Kind) (n : ℕ) → is_built (command k n) ≡ false) → (kind number : List ℕ)
    → built (made command kind number) ≡ None
not_made command h kind number =
    along (λ k. option_and_then (λ n. Some (command k n)) (number_within 1 (most_of k) number)) (kind_of kind)
    (λ k. along (λ n. Some (command k n)) (number_within 1 (most_of k) number)
    (λ n. ap (λ b. cond b (Some (command k n)) None) (h k n)))

-- a choice between commands that aren't built
of_files : (name first second : List ℕ)
    → built (if bytes_eq name (codes "replay") then Some (Replay first second)
    else (if bytes_eq name (codes "check-model") then Some (CheckModel first second) else None)) ≡ None
of_files name first second =
    either (bytes_eq name (codes "replay")) (Some (Replay first second)) (if bytes_eq name (codes "check-model") then Some (CheckModel first second) else None) refl
    (either (bytes_eq name (codes "check-model")) (Some (CheckModel first second)) None refl refl)

not_two_words : (name first second : List ℕ) → built (of_two_words name first second) ≡ None
not_two_words name first second =
    let files : Option Command = if bytes_eq name (codes "replay") then Some (Replay first second) else (if bytes_eq name (codes "check-model") then Some (CheckModel first second) else None) in
    let read : Option Command = if not (is_file first && is_file second) then None else files in
    either (bytes_eq name (codes "make")) (made Make first second) (if bytes_eq name (codes "trial") then made Trial first second else read) (not_made Make (λ k n. refl) first second)
    (either (bytes_eq name (codes "trial")) (made Trial first second) read (not_made Trial (λ k n. refl) first second)
    (either (not (is_file first && is_file second)) None files refl (of_files name first second)))

not_depth : (name option number file : List ℕ) → built (of_depth name option number file) ≡ None
not_depth name option number file =
    either (bytes_eq name (codes "solve") && bytes_eq option (codes "--depth") && is_file file)
    (option_and_then (λ n. Some (Solve (Some n) file)) (number_within 0 64 number)) None
    (along (λ n. Some (Solve (Some n) file)) (number_within 0 64 number) (λ n. refl)) refl

not_both : (name option refutation script model : List ℕ) → built (of_both name option refutation script model) ≡ None
not_both name option refutation script model =
    either (bytes_eq name (codes "check-model") && bytes_eq option (codes "--against") && is_file refutation && is_file script && is_file model)
    (Some (CheckBoth refutation script model)) None refl refl

-- no form of another length is built
pub only_two : (words : List (List ℕ)) → (length words ≡ 2 → ⊥) → asked_for words ≡ None
unfolding asked_for
only_two [] h = refl
only_two (a ∷ []) h = refl
only_two (a ∷ b ∷ []) h = absurd (h refl)
only_two (a ∷ b ∷ c ∷ []) h = not_two_words a b c
only_two (a ∷ b ∷ c ∷ d ∷ []) h = not_depth a b c d
only_two (a ∷ b ∷ c ∷ d ∷ e ∷ []) h = not_both a b c d e
only_two (a ∷ b ∷ c ∷ d ∷ e ∷ f ∷ words) h = refl
