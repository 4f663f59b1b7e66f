-- The calls that may still be nested fall with each list and each macro's body; at one number of them a function calls
-- those of a lower rank alone.
use Rattle.std.proofs.Common.{◌≡◌, ◌+◌, ◌*◌, [], drop, map}
use Rattle.smtlib_terms.specs.Reading.{part_of}
use Rattle.operator_arguments.specs.Measured.{meanings_of}
use Rattle.smtlib_terms.specs.Declaring.{names_before}
use Rattle.term_reader.specs.Plans.{arguments_behind, arguments_read, bindings_among, bindings_behind}
use Rattle.term_reader.specs.Scopes.{bindings_of}
use Rattle.term_reader.proofs.reading.+reading.Given as goal

abbrev pub decreases-read_macro_tree : goal.decreases-read_macro_tree
decreases-read_macro_tree l = 16 * l.levels

abbrev pub decreases-read_macro : goal.decreases-read_macro
decreases-read_macro l = 16 * l.levels + 1

abbrev pub decreases-read_name : goal.decreases-read_name
decreases-read_name l = 16 * l.levels + 2

abbrev pub decreases-read_list : goal.decreases-read_list
decreases-read_list l = 16 * l.levels + 2

abbrev pub decreases-read_side : goal.decreases-read_side
decreases-read_side l = 16 * l.levels + 4

abbrev pub decreases-read_meaning : goal.decreases-read_meaning
decreases-read_meaning l = 16 * l.levels + 5

abbrev pub decreases-read_first : goal.decreases-read_first
decreases-read_first l = 16 * l.levels + 6

abbrev pub decreases-read_arguments : goal.decreases-read_arguments
decreases-read_arguments l = 16 * l.levels + 6

abbrev pub decreases-read_binding : goal.decreases-read_binding
decreases-read_binding l = 16 * l.levels + 6

abbrev pub decreases-read_second : goal.decreases-read_second
decreases-read_second l = 16 * l.levels + 5

abbrev pub decreases-read_beside : goal.decreases-read_beside
decreases-read_beside l = 16 * l.levels + 6

abbrev pub decreases-read_sides : goal.decreases-read_sides
decreases-read_sides l = 16 * l.levels + 7

abbrev pub decreases-read_body : goal.decreases-read_body
decreases-read_body l = 16 * l.levels + 7

abbrev pub decreases-read_operands : goal.decreases-read_operands
decreases-read_operands l = 16 * l.levels + 8

abbrev pub decreases-read_bindings : goal.decreases-read_bindings
decreases-read_bindings l = 16 * l.levels + 7

abbrev pub decreases-read_let : goal.decreases-read_let
decreases-read_let l = 16 * l.levels + 8

abbrev pub decreases-read_quantifier : goal.decreases-read_quantifier
decreases-read_quantifier l = 16 * l.levels + 8

abbrev pub decreases-read_planned : goal.decreases-read_planned
decreases-read_planned l = 16 * l.levels + 9

-- What was read, with what the trees that are left bring, is what all bring; and the scope is as before.
abbrev pub invariant-read_arguments-loop-part : goal.invariant-read_arguments-loop-part
invariant-read_arguments-loop-part l =
    (l.scope ≡ l.fn.scope)
    × (arguments_read l.counted (map part_of l.parts) (names_before l.names l.macros) l.fn.scope l.fn.next
    ≡ arguments_behind (meanings_of l.args) l.counted (map part_of (drop l.part-index l.parts)) (names_before l.names l.macros) l.fn.scope l.next)

abbrev pub invariant-read_bindings-loop-tree : goal.invariant-read_bindings-loop-tree
invariant-read_bindings-loop-tree l =
    (l.scope ≡ l.fn.scope)
    × (bindings_among l.trees (names_before l.names l.macros) l.fn.scope l.next []
    ≡ bindings_behind (bindings_of l.bindings) (drop l.tree-index l.trees) (names_before l.names l.macros) l.fn.scope l.next l.seen)
