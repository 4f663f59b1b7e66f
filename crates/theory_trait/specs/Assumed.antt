use Rattle.std.specs.Prelude.{Option, None, Some}
use Rattle.mbqi_values.specs.declared.lit.Lit.{Lit}
use Rattle.theory_trait.specs.declared.theory.Assumed.{Assumed}
use Rattle.theory_trait.specs.declared.theory.Assumed.TheVariants.{Agree, Clash}

-- A fact where the theory agrees.
abbrev pub OnAgree : Assumed → Type 0 → Type 0
OnAgree Agree Fact = Fact
OnAgree Clash Fact = Unit {0}

-- A fact where it clashes.
abbrev pub OnClash : Assumed → Type 0 → Type 0
OnClash Agree Fact = Unit {0}
OnClash Clash Fact = Fact

-- The literal that clashed, if it did.
abbrev pub clashed_by : Assumed → Lit → Option Lit
clashed_by Agree lit = None
clashed_by Clash lit = Some lit
