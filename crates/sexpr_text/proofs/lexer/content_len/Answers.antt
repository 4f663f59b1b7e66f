use Rattle.std.proofs.Common.{sym, arith, length-drop}
use Rattle.sexpr_text.proofs.ByteSearch.{closes, goes_on, unquoted}
use Rattle.sexpr_text.proofs.lexer.content_len.Goals as goal

pub returns-then-not-is_quote_at-clause-value : goal.returns-then-not-is_quote_at-clause-value
returns-then-not-is_quote_at-clause-value c = omega (arith, closes c.args.rest.now c.loop-quote.at c.in-Some.quote c.in-Some.ensures (sym c.if-not-is_quote_at.ensures.value))

pub loop-quote-preserved : goal.loop-quote-preserved
loop-quote-preserved c =
    (omega (arith, c.is_quote_at.ensures.within c.if-not-is_quote_at.false), omega (arith, goes_on c.args.rest.now c.loop-quote.at c.in-Some.quote c.in-Some.ensures (sym c.if-not-is_quote_at.ensures.value)))

pub returns-clause-value : goal.returns-clause-value
returns-clause-value c = omega (arith, unquoted _ c.in_default.ensures, length-drop c.loop-quote.at c.args.rest.now)
