-- The lists over which the tests of the store put their terms: a function of an integer, two arrays of integers over integers, a Skolem
-- symbol without arguments, the first array as one that is read, and the pair of both.
use Rattle.std.specs.Prelude.{[], ◌∷◌}
use Rattle.mbqi_terms.specs.declared.script.Function.{Function}
use Rattle.mbqi_terms.specs.declared.sort.Plain.TheVariants as plain
use Rattle.mbqi_terms.specs.declared.sort.Sort.TheVariants.{Int, Array}
use Rattle.mbqi_terms.specs.declared.store.lists.Lists.{Lists}
use Rattle.mbqi_terms.specs.declared.term.ArrayTerm.TheVariants.{Name}

abbrev pub sample_array : Function
sample_array = record { name = []; args = []; result = Array plain.Int plain.Int }

abbrev pub sample_lists : Lists
sample_lists = record {
  functions = record { name = []; args = Int ∷ []; result = Int } ∷ sample_array ∷ sample_array ∷ [];
  skolems = record { assertion = 4; place = 1; args = []; result = Int } ∷ [];
  arrays = record { terms = Name 1 ∷ []; atoms = record { left = Name 1; right = Name 2 } ∷ []; defaults = [] };
}
