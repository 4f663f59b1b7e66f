use Rattle.std.proofs.Common.{◌≡◌, [], ◌∷◌, length, take, pos, ◌≢◌, true≢false, refl, sym, ap, subst, ◌∙◌, arith}
use Rattle.std.specs.List.{AllZip}
use Rattle.std.specs.Option.{IfSome}
use Rattle.std.proofs.lemmas.Option.{slice_get_read}
use Rattle.mbqi_terms.specs.declared.term.Term.{out-Term}
use Rattle.mbqi_terms.specs.Store.{Store, HasTree, IsHeadOf, IsAbsent, AreAbsent, args_of}
use Rattle.mbqi_terms.specs.Tree.{IsBase, sum_of}
use Rattle.mbqi_terms.proofs.Finding.{absent_without_head, absent_without_args, absent_sum, tree_is, shape_is, zip_stored}
use Rattle.mbqi_terms.proofs.Levels.{out-read}
use Rattle.mbqi_terms.proofs.Options.{none_of}
use Rattle.std.proofs.lemmas.Int.{ints}
use mir.Val.{to_z, of_z}
use mir.Syntax.{w128}
use Rattle.mbqi_terms.proofs.store.term_store.TermStore.+find.Goals.{find_term-else-n-ne0-via-then-n-ne0+else-is_base, find_term-else-n-ne0-via-else-n-ne0}
use Rattle.mbqi_terms.proofs.Trees.{take-push}
use Rattle.mbqi_terms.proofs.Zips.{zip_at, zip_push}
use Rattle.mbqi_terms.proofs.store.term_store.TermStore.+find.Goals as goal

pub find_all-returns-in_default-clause-missing : goal.find_all-returns-in_default-clause-missing
find_all-returns-in_default-clause-missing t c none ids zip =
    let i = c.loop-t.t-index in
    let here = slice_get_read c.args.terms.now (length c.args.terms.now) i c.t-item.result refl c.loop-t-test.true c.t-item.is in
    let at = zip_at (HasTree c.args.self.now) ids c.args.terms.now zip i c.t-item.result here in
    c.in_ok-id.ensures.missing (none_of _ c.in_default.not-Some) at.0 at.1

pub find_args-returns-in_default-2-clause-missing : goal.find_args-returns-in_default-2-clause-missing
find_args-returns-in_default-2-clause-missing t c none ids zip =
    let args : args_of (out-Term c.args.base.now) ≡ c.get.result.now ∷ [] =
    ap (λ u. args_of (out-Term u)) c.in-Read.is ∙ (ap args_of (out-read _ _) ∙ ap (λ u. u ∷ []) (sym c.get.ensures)) in
    let at = zip_at (HasTree c.args.self.now) ids (c.get.result.now ∷ []) (subst (AllZip (HasTree c.args.self.now) ids) args zip) 0 c.get.result.now refl in
    c.in_ok-id-in-Read.ensures.missing (none_of _ c.in_default-2.not-Some) at.0 at.1

pub find_base-returns-in_default-clause-missing : goal.find_base-returns-in_default-clause-missing
find_base-returns-in_default-clause-missing t c none =
    let P : Store → Type 0 = λ s. IsAbsent s (sum_of c.args.base.now c.args.plus) in
    subst P c.self.view_is (absent_without_head _ c.self.invariant c.args.plus c.args.base.now c.requires (c.in_default.ensures.missing refl))

pub find_base-returns-in_default-2-clause-missing : goal.find_base-returns-in_default-2-clause-missing
find_base-returns-in_default-2-clause-missing t c none =
    let P : Store → Type 0 = λ s. IsAbsent s (sum_of c.args.base.now c.args.plus) in
    let Q : Store → Type 0 = λ s. AreAbsent s (args_of (out-Term c.args.base.now)) in
    let absent = c.in_ok-args.ensures.missing (none_of _ c.in_default-2.not-Some) in
    subst P c.self.view_is (absent_without_args _ c.self.invariant c.args.plus c.args.base.now c.requires (subst Q (sym c.self.view_is) absent))

pub find_all-loop-t-preserved : goal.find_all-loop-t-preserved
find_all-loop-t-preserved t c =
    let i = c.loop-t.t-index in
    let here = slice_get_read c.args.terms.now (length c.args.terms.now) i c.t-item.result refl c.loop-t-test.true c.t-item.is in
    let R = HasTree c.args.self.now in
    let tree = subst (λ o. IfSome o (λ id. R id c.t-item.result)) c.in-Some.is c.in_ok-id.ensures.found in
    let zip = zip_push R c.loop-t.ids (take i c.args.terms.now) c.in-Some.id c.t-item.result c.loop-t.invariant tree in
    rw (c.in_ok-push.ensures.ok, take-push c.args.terms.now i c.t-item.result here) zip

pub find_base-number_of_node-requires-clause-stored : goal.find_base-number_of_node-requires-clause-stored
find_base-number_of_node-requires-clause-stored t c =
    let s = c.args.self.now in
    let base = c.args.base.now in
    let zip = subst (λ o. IfSome o (λ ids. AllZip (HasTree s) ids (args_of (out-Term base)))) c.in-Some-2.is c.in_ok-args.ensures.found in
    zip_stored s c.in-Some-2.args (args_of (out-Term base)) zip

pub find_base-number_of_node-requires-clause-shape : goal.find_base-number_of_node-requires-clause-shape
find_base-number_of_node-requires-clause-shape t c =
    let s = c.args.self.now in
    let base = c.args.base.now in
    let zip = subst (λ o. IfSome o (λ ids. AllZip (HasTree s) ids (args_of (out-Term base)))) c.in-Some-2.is c.in_ok-args.ensures.found in
    let lists : c.self.inside.lists ≡ s.lists = ap (λ (x : Store). x.lists) c.self.view_is in
    let head = subst (λ l. IsHeadOf l (out-Term base) c.in-Some.head) lists c.in-Some.ensures.found in
    shape_is s c.in-Some.head c.in-Some-2.args base head zip

pub find_base-returns-clause-found : goal.find_base-returns-clause-found
find_base-returns-clause-found t c =
    let s = c.args.self.now in
    let base = c.args.base.now in
    let zip = subst (λ o. IfSome o (λ ids. AllZip (HasTree s) ids (args_of (out-Term base)))) c.in-Some-2.is c.in_ok-args.ensures.found in
    let lists : c.self.inside.lists ≡ s.lists = ap (λ (x : Store). x.lists) c.self.view_is in
    let head = subst (λ l. IsHeadOf l (out-Term base) c.in-Some.head) lists c.in-Some.ensures.found in
    let plus = to_z w128 (of_z w128 c.args.plus) in
    let back : plus ≡ c.args.plus = omega (arith, ints) in
    let same = tree_is s c.in-Some.head c.in-Some-2.args plus base c.requires head zip ∙ ap (sum_of base) back in
    subst (λ u. IfSome c.number_of_node.result (λ id. HasTree s id u)) same c.number_of_node.ensures.found

pub find_base-returns-clause-missing : goal.find_base-returns-clause-missing
find_base-returns-clause-missing t c none =
    let s = c.args.self.now in
    let base = c.args.base.now in
    let zip = subst (λ o. IfSome o (λ ids. AllZip (HasTree s) ids (args_of (out-Term base)))) c.in-Some-2.is c.in_ok-args.ensures.found in
    let lists : c.self.inside.lists ≡ s.lists = ap (λ (x : Store). x.lists) c.self.view_is in
    let head = subst (λ l. IsHeadOf l (out-Term base) c.in-Some.head) lists c.in-Some.ensures.found in
    let plus = to_z w128 (of_z w128 c.args.plus) in
    let back : plus ≡ c.args.plus = omega (arith, ints) in
    let same = tree_is s c.in-Some.head c.in-Some-2.args plus base c.requires head zip ∙ ap (sum_of base) back in
    subst (IsAbsent s) same (c.number_of_node.ensures.missing none)

pub find_term-returns-else-n-ne0-clause-missing : goal.find_term-returns-else-n-ne0-clause-missing
find_term-returns-else-n-ne0-clause-missing t c none =
    let s : Store = record { lists = c.self.inside.lists; nodes = c.self.inside.nodes } in
    let P : Store → Type 0 = λ s. IsAbsent s c.args.t.now in
    let is : s ≡ c.args.self.now = c.self.view_is in
    let bad : IsBase (out-Term c.in-Plus.base) → c.in-Plus.n ≢ pos 0 → ⊥ =
    elim c.else-n-ne0.branch [
      | find_term-else-n-ne0-via-then-n-ne0+else-is_base w ↦ λ base some.
          true≢false (sym (w.is_base.ensures.1 (subst (λ u. IsBase (out-Term u)) (sym w.get.ensures) base)) ∙ w.if-is_base.false)
      | find_term-else-n-ne0-via-else-n-ne0 w ↦ λ base some. some (omega (arith, ints, w.if-n-ne0.false))
    ] in
    subst P is (subst (IsAbsent s) (sym c.in-Plus.is) (absent_sum s c.self.invariant c.in-Plus.base c.in-Plus.n bad))
