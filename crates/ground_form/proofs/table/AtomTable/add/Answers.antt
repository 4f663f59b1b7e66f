use Rattle.std.proofs.Common.{◌≡◌, ◌≢◌, ℕ, length, Some, slice_get, nat_eq, cond, rules, sym, subst, ◌∙◌}
use Rattle.indexmap.specs.IndexMap.{get}
use Rattle.ground_form.specs.declared.table.Entry.{Entry}
use Rattle.ground_form.specs.Chains.{IsTable, formulas_of, last_before}
use Rattle.ground_form.specs.Digests.{digest_of}
use Rattle.ground_form.proofs.Chains.{table_push}
use Rattle.ground_form.proofs.table.AtomTable.add.Goals as goal

pub invariant_of-self-in-Ok : goal.invariant_of-self-in-Ok
invariant_of-self-in-Ok c =
    let entries = c.self.inside.entries.items in
    let entry : Entry = record { formula = c.args.formula; earlier = c.args.last } in
    let same : c.args.self.now ≡ formulas_of entries = sym c.self.view_is in
    let new = subst (λ fs. (k : ℕ) → slice_get fs k ≢ Some c.args.formula) same c.requires.new in
    let last : c.args.last ≡ last_before (formulas_of entries) (digest_of c.args.formula) (length (formulas_of entries)) =
    c.requires.last ∙ (λ i. last_before (same i) (c.requires.digest i) (length (same i))) in
    let place : c.len-place.result ≡ length entries = search rules in
    let updates : (q : ℕ) → get nat_eq c.insert.new.self q ≡ cond (nat_eq (digest_of c.args.formula) q) (Some (length entries)) (get nat_eq
    c.self.inside.lasts q) =
    λ q. c.in-Ok.ensures.updates.0 q
    ∙ (λ i. cond (nat_eq (c.requires.digest i) q) (Some (place i)) (get nat_eq c.self.inside.lasts q)) in
    subst (λ items. IsTable items (get nat_eq c.insert.new.self)) (sym c.in_ok-push.ensures.items)
    (table_push entries (get nat_eq c.self.inside.lasts) (get nat_eq c.insert.new.self) entry c.self.invariant new c.requires.positive last
    updates)
