use Rattle.std.proofs.Common.{All, [], ◌∷◌, inl, sym, subst}
use Rattle.std.proofs.lemmas.List.Elements.{All-nil, All-cons, All-map, All-push}
use Rattle.mbqi_terms.specs.declared.instance.InstanceLine.{InstanceLine}
use Rattle.element_atoms.specs.Profile.{IsClause, IsGround, NamesConstant}
use Rattle.element_atoms.proofs.tests.lines.Goals as goal

pub literal-requires-2-clause-constants : goal.literal-requires-2-clause-constants
literal-requires-2-clause-constants c =
    let P = NamesConstant c.args.functions.now in
    All-cons P 0 (1 ∷ []) c.requires.first (All-cons P 1 [] c.requires.second (All-nil P))

pub returns : goal.returns
returns c =
    let Q = IsClause c.args.functions.now (IsGround c.args.functions.now) in
    let P : InstanceLine → Type 0 = λ line. Q line.formula in
    let none : All P c.new-lines.result = rw (c.new-lines.ensures) (All-nil P) in
    let one : All P c.push.new.self = rw (c.in_ok-push.ensures.ok)
    (All-push P c.new-lines.result c.line.result none (subst Q (sym c.line.ensures) (inl c.in_ok-literal.ensures))) in
    let two : All P c.push-2.new.self = rw (c.in_ok-push-2.ensures.ok)
    (All-push P c.push.new.self c.line-2.result one (subst Q (sym c.line-2.ensures) (inl c.in_ok-literal-2.ensures))) in
    let three : All P c.push-3.new.self = rw (c.in_ok-push-3.ensures.ok)
    (All-push P c.push-2.new.self c.line-3.result two (subst Q (sym c.line-3.ensures) c.in_ok-disjunction.ensures)) in
    All-map Q (λ (line : InstanceLine). line.formula) c.push-3.new.self three
