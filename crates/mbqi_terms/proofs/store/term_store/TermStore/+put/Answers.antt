use Rattle.std.proofs.Common.{◌≡◌, ◌+◌, [], ◌∷◌, length, take, Result, Ok, Err, IfOk, OnErr, refl, sym, ap, subst, ◌∙◌, arith}
use Rattle.std.specs.List.{AllZip}
use Rattle.std.proofs.lemmas.Int.{ints}
use Rattle.std.proofs.lemmas.Option.{slice_get_read}
use Rattle.std.specs.declared.alloc.AllocError.{AllocError}
use mir.Val.{to_z, of_z}
use mir.Syntax.{w128}
use Rattle.mbqi_terms.specs.declared.store.lists.Lists.{Lists}
use Rattle.mbqi_terms.specs.declared.store.node.Head.{Head}
use Rattle.mbqi_terms.specs.declared.store.node.Head.TheVariants.{Zero}
use Rattle.mbqi_terms.specs.declared.store.node.Node.{Node}
use Rattle.mbqi_terms.specs.declared.term.Term.{Term, out-Term}
use Rattle.mbqi_terms.specs.declared.term.Term.TheVariants as term
use Rattle.mbqi_terms.specs.declared.term_id.TermId.{TermId}
use Rattle.mbqi_terms.specs.Form.{IsLayerInForm}
use Rattle.mbqi_terms.specs.Store.{Store, IsSound, HasTree, IsHeadOf, Interns, Grows, MayAdd, args_of, tree_of_node}
use Rattle.mbqi_terms.specs.Tree.{sum_of}
use Rattle.mbqi_terms.proofs.Finding.{tree_is}
use Rattle.mbqi_terms.proofs.Putting.{form_head, grows_base, grows_below, grows_more, grows_next, grows_numeral, grows_self, kept_zip, layer_form, no_args, put_node_form, sum_form, sum_is}
use Rattle.mbqi_terms.proofs.Trees.{take-push}
use Rattle.mbqi_terms.proofs.Zips.{zip_push}
use Rattle.mbqi_terms.proofs.store.term_store.TermStore.+put.Goals as goal

-- a store that took a node, or found no memory for it
grown_by : (r : Result TermId AllocError) (old mid new : Store) (node : Node) (whole : Term) → IfOk r (λ id. Interns mid node id new) → OnErr r (new ≡ mid)
    → ((id : TermId) → Interns mid node id new → Grows old (whole ∷ []) new) → Grows old (whole ∷ []) mid → Grows old (whole ∷ []) new
grown_by (Ok id) old mid new node whole put stays more less = more id put
grown_by (Err e) old mid new node whole put stays more less = subst (Grows old (whole ∷ [])) (sym stays) less

pub put_all-loop-t-init : goal.put_all-loop-t-init
put_all-loop-t-init t c = (grows_self c.args.self.now [], subst (λ ids. AllZip (HasTree c.args.self.now) ids []) (sym c.new-ids.ensures) tt)

pub put_all-returns-in_err-put_tree-clause-grows : goal.put_all-returns-in_err-put_tree-clause-grows
put_all-returns-in_err-put_tree-clause-grows t c =
    let i = c.loop-t.t-index in
    let ts = c.args.terms.now in
    let here = slice_get_read ts (length ts) i c.t-item.result refl c.loop-t-test.true c.t-item.is in
    let next = grows_next c.args.self.now c.loop-t.self c.put_tree.new.self ts i c.t-item.result here c.loop-t.invariant.0 c.put_tree.ensures.grows in
    grows_more c.args.self.now c.put_tree.new.self ts (i + 1) next

pub put_all-returns-in_err-push-clause-grows : goal.put_all-returns-in_err-push-clause-grows
put_all-returns-in_err-push-clause-grows t c =
    let i = c.loop-t.t-index in
    let ts = c.args.terms.now in
    let here = slice_get_read ts (length ts) i c.t-item.result refl c.loop-t-test.true c.t-item.is in
    let next = grows_next c.args.self.now c.loop-t.self c.put_tree.new.self ts i c.t-item.result here c.loop-t.invariant.0 c.put_tree.ensures.grows in
    grows_more c.args.self.now c.put_tree.new.self ts (i + 1) next

pub put_all-loop-t-preserved : goal.put_all-loop-t-preserved
put_all-loop-t-preserved t c =
    let i = c.loop-t.t-index in
    let ts = c.args.terms.now in
    let new = c.put_tree.new.self in
    let here = slice_get_read ts (length ts) i c.t-item.result refl c.loop-t-test.true c.t-item.is in
    let next = grows_next c.args.self.now c.loop-t.self new ts i c.t-item.result here c.loop-t.invariant.0 c.put_tree.ensures.grows in
    let former = kept_zip c.loop-t.self new c.put_tree.ensures.grows.extends c.loop-t.ids (take i ts) c.loop-t.invariant.1 in
    let zip = zip_push (HasTree new) c.loop-t.ids (take i ts) c.in_ok-put_tree.field-0 c.t-item.result former c.in_ok-put_tree.ensures.tree in
    (next, rw (c.in_ok-push.ensures.ok, take-push ts i c.t-item.result here) zip)

pub put_args-returns-in_default : goal.put_args-returns-in_default
put_args-returns-in_default t c =
    let s = c.args.self.now in
    let none : args_of (out-Term c.args.base.now) ≡ [] = no_args c.args.base.now (out-Term c.args.base.now) refl c.in_default.not-Apply c.in_default.not-Read in
    record {
      trees = subst (AllZip (HasTree s) c.new.result) (sym none) (subst (λ ids. AllZip (HasTree s) ids []) (sym c.new.ensures) tt);
      grows = grows_self s (args_of (out-Term c.args.base.now));
    }

pub put_base-unreachable-requires : goal.put_base-unreachable-requires
put_base-unreachable-requires t c =
    let P : Store → Type 0 = λ s. IsLayerInForm s.lists (out-Term c.args.base.now) in
    let form = subst P (sym c.self.view_is) (layer_form c.args.self.now.lists c.args.base.now c.requires.form) in
    form_head c.self.inside.lists (out-Term c.args.base.now) c.requires.base form (c.in_default.ensures.missing refl)

pub put_base-returns-in_err-args-clause-grows : goal.put_base-returns-in_err-args-clause-grows
put_base-returns-in_err-args-clause-grows t c =
    let sound = subst IsSound c.self.view_is c.self.invariant in
    grows_below c.args.self.now c.put_args.new.self sound c.args.base.now c.args.plus c.requires.base c.put_args.ensures.grows

head_is : (old inside mid : Lists) (t : Term) (h : Head) → inside ≡ old → mid ≡ old → IsHeadOf inside (out-Term t) h → IsHeadOf mid (out-Term t) h
head_is old inside mid t h here there found = subst (λ l. IsHeadOf l (out-Term t) h) (here ∙ sym there) found

pub put_base-intern-requires : goal.put_base-intern-requires
put_base-intern-requires t c =
    let old = c.args.self.now in
    let mid = c.put_args.new.self in
    let base = c.args.base.now in
    let plus = to_z w128 (of_z w128 c.args.plus) in
    let back : plus ≡ c.args.plus = omega (arith, ints) in
    let lists = c.put_args.ensures.grows.extends.0 in
    let head = head_is old.lists c.self.inside.lists mid.lists base c.in-Some.head (ap (λ (s : Store). s.lists) c.self.view_is) lists c.in-Some.ensures.found in
    let form = subst (λ l. IsLayerInForm l (out-Term base)) (sym lists) (layer_form old.lists base c.requires.form) in
    let sum = subst (λ l. MayAdd l (out-Term base) plus) (sym lists) (subst (MayAdd old.lists (out-Term base)) (sym back) c.requires.sum) in
    put_node_form mid c.in-Some.head c.in_ok-args.args plus base head c.in_ok-args.ensures.trees form sum

pub put_base-returns-clause-tree : goal.put_base-returns-clause-tree
put_base-returns-clause-tree t c =
    let old = c.args.self.now in
    let mid = c.put_args.new.self in
    let base = c.args.base.now in
    let plus = to_z w128 (of_z w128 c.args.plus) in
    let back : plus ≡ c.args.plus = omega (arith, ints) in
    let head = head_is old.lists c.self.inside.lists mid.lists base c.in-Some.head (ap (λ (s : Store). s.lists) c.self.view_is) c.put_args.ensures.grows.extends.0 c.in-Some.ensures.found in
    let same = tree_is mid c.in-Some.head c.in_ok-args.args plus base c.requires.base head c.in_ok-args.ensures.trees ∙ ap (sum_of base) back in
    subst (λ u. IfOk c.intern.result (λ id. HasTree c.intern.new.self id u)) same c.intern.ensures.tree

pub put_base-returns-clause-grows : goal.put_base-returns-clause-grows
put_base-returns-clause-grows t c =
    let old = c.args.self.now in
    let mid = c.put_args.new.self in
    let base = c.args.base.now in
    let plus = to_z w128 (of_z w128 c.args.plus) in
    let back : plus ≡ c.args.plus = omega (arith, ints) in
    let sound = subst IsSound c.self.view_is c.self.invariant in
    let head = head_is old.lists c.self.inside.lists mid.lists base c.in-Some.head (ap (λ (s : Store). s.lists) c.self.view_is) c.put_args.ensures.grows.extends.0 c.in-Some.ensures.found in
    let same = tree_is mid c.in-Some.head c.in_ok-args.args plus base c.requires.base head c.in_ok-args.ensures.trees ∙ ap (sum_of base) back in
    grown_by c.intern.result old mid c.intern.new.self (record { head = c.in-Some.head; args = c.in_ok-args.args; plus = plus }) (sum_of base c.args.plus)
    c.intern.ensures.store c.intern.ensures.err
    (λ id put. grows_base old mid c.intern.new.self sound base c.args.plus (record { head = c.in-Some.head; args = c.in_ok-args.args; plus = plus }) id
    c.requires.base c.put_args.ensures.grows put same)
    (grows_below old mid sound base c.args.plus c.requires.base c.put_args.ensures.grows)

pub put_tree-returns-in-Num-clause-grows : goal.put_tree-returns-in-Num-clause-grows
put_tree-returns-in-Num-clause-grows t c =
    let old = c.args.self.now in
    let n = to_z w128 (of_z w128 c.in-Num.n) in
    let back : n ≡ c.in-Num.n = omega (arith, ints) in
    let node : Node = record { head = Zero; args = c.new.result; plus = n } in
    let same : tree_of_node old node ≡ c.args.t.now = ap (λ m. term.Num m) back ∙ sym c.in-Num.is in
    grown_by c.intern.result old old c.intern.new.self node c.args.t.now c.intern.ensures.store c.intern.ensures.err
    (λ id put. grows_numeral old c.intern.new.self c.args.t.now node id put same) (grows_self old (c.args.t.now ∷ []))

pub put_tree-returns-in-Plus-clause-tree : goal.put_tree-returns-in-Plus-clause-tree
put_tree-returns-in-Plus-clause-tree t c =
    let l = c.args.self.now.lists in
    let n = to_z w128 (of_z w128 c.in-Plus.n) in
    let back : n ≡ c.in-Plus.n = omega (arith, ints) in
    let form = sum_form l c.args.t.now c.in-Plus.base c.in-Plus.n c.in-Plus.is c.requires in
    let same : sum_of c.get-base.result.now n ≡ c.args.t.now =
    (λ i. sum_of (c.get-base.ensures i) (back i)) ∙ (sym (sum_is c.in-Plus.base c.in-Plus.n form.1) ∙ sym c.in-Plus.is) in
    subst (λ u. IfOk c.put_base.result (λ id. HasTree c.put_base.new.self id u)) same c.put_base.ensures.tree

pub put_tree-returns-in-Plus-clause-grows : goal.put_tree-returns-in-Plus-clause-grows
put_tree-returns-in-Plus-clause-grows t c =
    let l = c.args.self.now.lists in
    let n = to_z w128 (of_z w128 c.in-Plus.n) in
    let back : n ≡ c.in-Plus.n = omega (arith, ints) in
    let form = sum_form l c.args.t.now c.in-Plus.base c.in-Plus.n c.in-Plus.is c.requires in
    let same : sum_of c.get-base.result.now n ≡ c.args.t.now =
    (λ i. sum_of (c.get-base.ensures i) (back i)) ∙ (sym (sum_is c.in-Plus.base c.in-Plus.n form.1) ∙ sym c.in-Plus.is) in
    subst (λ u. Grows c.args.self.now (u ∷ []) c.put_base.new.self) same c.put_base.ensures.grows
