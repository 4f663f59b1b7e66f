use Rattle.std.proofs.Common.{◌≡◌, ◌≤◌, ◌^◌, ◌++◌, ◌∙◌, ap, length, subst, sym, arith}
use Rattle.script_text.specs.Text.{script_text}
use Rattle.smtlib_decls.specs.Means.{Means}
use Rattle.mbqi_app.proofs.print.printed.Goals as goal

-- a vector holds fewer bytes than the bound, so the text means the script again
pub returns-clause-text : goal.returns-clause-text
returns-clause-text c =
    let script = c.in_ok-script.script in
    let text : c.write_script.new.into.items ≡ script_text script = c.in_ok-write_script.ensures.ok ∙ ap (λ before. before ++ script_text script) c.new-text.ensures.items in
    let small = c.write_script.new.into.small in
    let count = c.write_script.new.into.ok.0 in
    let fits = c.write_script.new.into.ok.1 in
    let same = ap (λ bytes. length bytes) text in
    let short : length (script_text script) ≤ 2 ^ 64 = omega arith in
    (script, c.in_ok-script.ensures.means, text, λ shallow. subst (λ bytes. Means bytes script) (sym text) (c.printed_means_the_same.ensures c.args.bytes.now script c.in_ok-script.ensures.means short shallow))
