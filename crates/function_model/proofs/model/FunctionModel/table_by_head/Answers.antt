use Rattle.std.proofs.Common.{◌≡◌, ◌<◌, length, get_or, if◌then◌else◌, ap, subst, sym, ◌∙◌}
use Rattle.std.specs.Prelude.{None}
use Rattle.std.proofs.lemmas.List.{get_or_default}
use Rattle.mbqi_terms.specs.declared.arrays.Arrays.{Arrays}
use Rattle.mbqi_terms.specs.declared.term.ArrayTerm.TheVariants as array
use Rattle.mbqi_terms.specs.Store.{pair_at}
use Rattle.function_model.specs.Lookup.{is_difference, is_full, table_where}
use Rattle.function_model.specs.Tabled.{IsTabledHead, table_of_head}
use Rattle.function_model.proofs.model.FunctionModel.table_by_head.Goals as goal

pub returns-in-Diff : goal.returns-in-Diff
returns-in-Diff c =
    let m = c.args.self.now in
    let l = c.args.store.now.lists in
    let k = c.in-Diff.pair in
    let pair = c.index-as_slice-pair.result in
    let within : k < length l.arrays.atoms = subst (IsTabledHead l) c.in-Diff.is c.requires.head in
    let atoms = c.as_slice.ensures ∙ ap (λ (arrays : Arrays). arrays.atoms) c.arrays.ensures in
    let other = get_or_default l.arrays.atoms k pair (record { left = array.Name 0; right = array.Name 0 }) within in
    let there : pair ≡ pair_at l k = c.index-as_slice-pair.is ∙ (ap (λ pairs. get_or pairs k pair) atoms ∙ other) in
    c.difference_table.ensures
    ∙ ((λ i. if is_full m then table_where (is_difference (there i).left (there i).right) m else None) ∙ ap (table_of_head m l) (sym c.in-Diff.is))
