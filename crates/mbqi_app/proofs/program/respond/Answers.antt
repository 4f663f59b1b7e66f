use Rattle.std.proofs.Common.{refl, arith}
use Rattle.mbqi_app.proofs.Carrying.{decided, done}
use Rattle.mbqi_app.proofs.program.respond.Goals as goal

pub returns-in-Solve : goal.returns-in-Solve
returns-in-Solve g c = rw c.in-Solve.is (record {
  refused = c.solve.ensures.refused;
  comes = c.solve.ensures.comes;
  answer = c.solve.ensures.answer;
  write_fault = λ fault. let found = c.solve.ensures.write_fault fault in
      (found.0, (found.1.0, (found.1.1, found.1.2, found.1.3, found.1.4, found.1.5)));
  silent = c.solve.ensures.silent;
  steps = c.solve.ensures.steps;
  complete = λ taken. decided c.solve.result (c.solve.ensures.complete taken);
  refuses = c.solve.ensures.refuses;
})

-- the counter stays
pub returns-in-Print : goal.returns-in-Print
returns-in-Print g c = rw c.in-Print.is (record {
  refused = c.print.ensures.refused;
  comes = c.print.ensures.comes;
  answer = λ answered. let found = c.print.ensures.answer answered in (0, omega arith, found.0, (refl, found.1), found.2);
  write_fault = λ fault. let found = c.print.ensures.write_fault fault in
      (found.0, (found.1.0, (0, omega arith, found.1.1, (refl, found.1.2), found.1.3)));
  silent = c.print.ensures.silent;
  steps = refl;
  complete = λ taken. done c.print.result (c.print.ensures.complete taken);
  refuses = c.print.ensures.refuses;
})
