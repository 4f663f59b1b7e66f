-- A pool function by function (this project's own).
use Rattle.std.specs.Prelude.{List, [], ◌∷◌, ◌++◌, length, fold, if◌then◌else◌}
use Rattle.mbqi_terms.specs.declared.script.Function.{Function}
use Rattle.element_atoms.specs.Profile.{is_constant, constant, seed}
use Rattle.element_atoms.specs.declared.pool.Pool.{Pool}

-- The pool of the functions before, with the next one.
abbrev pub pool_with : Pool → Function → Pool
pool_with pool function =
    if is_constant function
    then record { terms = pool.terms ++ constant (length pool.numbers) ∷ []; numbers = pool.numbers ++ length pool.terms ∷ [] }
    else record { terms = pool.terms; numbers = pool.numbers ++ 0 ∷ [] }

abbrev pub pool_with_all : Pool → List Function → Pool
pool_with_all pool functions = fold pool_with pool functions

-- A pool of the constants with the seed behind them.
abbrev pub with_seed : Pool → Pool
with_seed pool = record { terms = pool.terms ++ seed ∷ []; numbers = pool.numbers }
